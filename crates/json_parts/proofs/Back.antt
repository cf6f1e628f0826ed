-- Numbers and lists that are written, read.
use Rattle.std.proofs.Common.{◌≡◌, ℕ, suc, ◌<◌, ◌≤◌, List, [], ◌∷◌, length, map, Ok, Some, Bool, true, refl, ap, eq-eqb, arith}
use Rattle.std.proofs.Math.IntN.{ℤ, pos, negsuc}
use Rattle.std.specs.Prelude.{not, unsigned_abs}
use Rattle.std.specs.List.{AllByRecursion}
use Rattle.std.proofs.lemmas.Bool.{le-leb, lt-ltb, ne_eqb}
use Rattle.std.proofs.lemmas.List.{length-map}
use Rattle.serde_json.specs.Data.{Data, null, boolean, number, string, array, object}
use Rattle.json_parts.specs.Outcome.{Outcome, ◌>>=◌, fault}
use Rattle.json_parts.specs.Json.{reads_list, reads_short_list, each, reads_all, reads_few, reads_or_null, integer_of, reads_integer, reads_natural, reads_exactly}
use Rattle.json_parts.specs.OneToMost.{has_some, one_to_most_shape}
use Rattle.json_parts.specs.Shape.{Shape, IsReadBack, tested_at_shape}
use Rattle.json_parts.specs.Written.{list, whole, natural}
use Rattle.json_parts.proofs.Items.{list_of-items_of}

-- ---- numbers

integer-whole : (z : ℤ) → integer_of (whole z) ≡ Some z
integer-whole (pos n) = refl
integer-whole (negsuc n) = refl

pub integer-read : (limit : ℕ) (z : ℤ) → unsigned_abs z < limit → reads_integer limit (whole z) ≡ Ok z
unfolding reads_integer
integer-read limit z small = rw (integer-whole z, lt-ltb (unsigned_abs z) limit small) refl

pub natural_read : (least most n : ℕ) → least ≤ n → n ≤ most → reads_natural least most (natural n) ≡ Ok n
unfolding reads_natural
natural_read least most n some few = rw (le-leb least n some, le-leb n most few) refl

pub exact_read : (n : ℕ) → reads_exactly n (natural n) ≡ Ok tt
unfolding reads_exactly
exact_read n = rw (eq-eqb n n refl) refl

-- ---- what is made of another's, or tested

pub made_read : {A B : Type 0} (shape : Shape B) (made : B → A) (parts : A → B) (a : A) → made (parts a) ≡ a → IsReadBack shape (parts a) → (shape.reads (shape.data_of (parts a)) >>= λ b. Ok (made b)) ≡ Ok a
made_read {A = A} shape made parts a same h = rw h (ap (λ (a : A). Ok a) same)

pub tested_read : {A : Type 0} (name : List ℕ) (shape : Shape A) (test : A → Bool) (a : A) → test a ≡ true → IsReadBack shape a → IsReadBack (tested_at_shape name shape test) a
tested_read place shape test a is h = rw (h, is) refl

-- ---- lists

pub list-read : (ds : List Data) → reads_list (list ds) ≡ Ok ds
unfolding reads_list
list-read ds = ap (λ (l : List Data). Ok l) (list_of-items_of ds)

pub short_list-read : (most : ℕ) (ds : List Data) → length ds ≤ most → reads_short_list most (list ds) ≡ Ok ds
unfolding reads_short_list
short_list-read most ds few = rw (list-read ds, le-leb (length ds) most few) refl

pub each-read : {A : Type 0} (reader : Data → Outcome A) (data_of : A → Data) (i : ℕ) (xs : List A) → AllByRecursion (λ (x : A). reader (data_of x) ≡ Ok x) xs
    → each reader i (map data_of xs) ≡ Ok xs
unfolding each
each-read reader data_of i [] h = refl
each-read reader data_of i (x ∷ xs) h = rw (h.0, each-read reader data_of (suc i) xs h.1) refl

pub list-of-read : {A : Type 0} (reader : Data → Outcome A) (data_of : A → Data) (xs : List A) → AllByRecursion (λ (x : A). reader (data_of x) ≡ Ok x) xs
    → (reads_list (list (map data_of xs)) >>= each reader 0) ≡ Ok xs
list-of-read reader data_of xs h = rw (list-read (map data_of xs)) (each-read reader data_of 0 xs h)

pub all_read : {A : Type 0} (reader : Data → Outcome A) (data_of : A → Data) (xs : List A) → AllByRecursion (λ (x : A). reader (data_of x) ≡ Ok x) xs → reads_all reader (list (map data_of xs)) ≡ Ok xs
unfolding reads_all
all_read reader data_of xs h = list-of-read reader data_of xs h

pub few_read : {A : Type 0} (most : ℕ) (reader : Data → Outcome A) (data_of : A → Data) (xs : List A) → length xs ≤ most → AllByRecursion (λ (x : A). reader (data_of x) ≡ Ok x) xs
    → reads_few most reader (list (map data_of xs)) ≡ Ok xs
unfolding reads_few
few_read most reader data_of xs few h = rw (short_list-read most (map data_of xs) (omega (arith, few, length-map xs data_of))) (each-read reader data_of 0 xs h)

-- a list of one at least and so many at most
with_one : {A : Type 0} (xs : List A) → (length xs ≡ 0 → ⊥) → has_some xs ≡ true
with_one xs some = ap not (ne_eqb (length xs) 0 some)

pub one_to_most_read : {A : Type 0} (most : ℕ) (shape : Shape A) (xs : List A) → length xs ≤ most → (length xs ≡ 0 → ⊥) → AllByRecursion (IsReadBack shape) xs → IsReadBack (one_to_most_shape most shape) xs
one_to_most_read most shape xs few some each = rw (few_read most shape.reads shape.data_of xs few each, with_one xs some) refl

-- ---- null or a value

-- a value that is read is no null, where null has a fault
pub not_null_read : {A : Type 0} (reader : Data → Outcome A) (d : Data) (a : A) → reader null ≡ fault 2 → reader d ≡ Ok a → reads_or_null reader d ≡ Ok (Some a)
unfolding reads_or_null
not_null_read reader null a none h = absurd cc
not_null_read reader (boolean b) a none h = rw h refl
not_null_read reader (number n) a none h = rw h refl
not_null_read reader (string s) a none h = rw h refl
not_null_read reader (array ds) a none h = rw h refl
not_null_read reader (object ms) a none h = rw h refl
