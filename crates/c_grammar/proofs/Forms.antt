-- Numbers of rows: how many, how big, and which of them are 0. Every form that is meant has small ones, and so has its negative.
use Rattle.std.proofs.Common.{◌≡◌, ℕ, zero, suc, ◌≤◌, Bool, true, false, not, List, [], ◌∷◌, length, map, replicate, refl, sym, ap, ◌∙◌, Option, Some, None, arith, subst, inl, inr, ◌+◌, ◌-◌, ◌<◌, take, drop, lit<, ltb-true}
use Rattle.std.specs.Prelude.{if◌then◌else◌, ℤ, pos, negsuc, neg_ℤ, ◌+ℤ◌, ◌-ℤ◌, ◌*ℤ◌, option_map, ◌&&◌, nat_lt, Ok, ◌⊎◌, ⊤, unsigned_abs, slice_set}
use Rattle.std.specs.List.{AllByRecursion}
use Rattle.std.proofs.lemmas.Int.{ints}
use Rattle.std.proofs.lemmas.List.{length-map, length-set, length-drop}
use Rattle.c_reading.specs.Numbers.{is_small, if_small, small_number, number_before, plus_times, combined, zeros, single, width, is_integer, value_from}
use Rattle.std.proofs.lemmas.Bool.{and_parts}
use Rattle.c_reading.specs.Affine as rule
use Rattle.c_reading.specs.Affine.{Affine}
use Rattle.c_grammar.specs.Affine as tree
use Rattle.c_grammar.specs.Affine.{Factor}
use Rattle.c_grammar.specs.Meaning as mean
use Rattle.c_grammar.specs.Meaning.{Names, Form, form, factor_means, products_means, term_means, sums_means, affine_means}
use Rattle.c_grammar.proofs.Spelled.{then_some, given_some, given_last, some_if, same_some}
use Rattle.iolb_model.specs.declared.limits.TheConstants.{NUMBER_SIZE, PARAMETERS, LOOPS}
use Rattle.c_grammar.proofs.NameKinds.{All-set}
use Rattle.base_laws.proofs.Lists.{All-replicate, All-append, All-map, All-weaken}
use Rattle.c_grammar.proofs.Steps.{if_ok}
use Rattle.c_reading.specs.Text.{at_least_one, all_at_least_one}
use Rattle.c_grammar.specs.Well.{IsRowOver}

-- numbers of a row at most, each small
pub record AreSmall (ns : List ℤ) : Type 0 where
  pub few : length ns ≤ width
  pub small : AllByRecursion (λ n. is_small n ≡ true) ns

-- ---- one number

negative_small : (y : ℤ) → is_small (neg_ℤ y) ≡ is_small y
negative_small (pos zero) = refl
negative_small _ = refl

twice_negative : (y : ℤ) → neg_ℤ (neg_ℤ y) ≡ y
twice_negative (pos zero) = refl
twice_negative _ = refl

kept : (y : ℤ) → is_small y ≡ true → small_number (pos 1) (pos 0) (pos 0) y ≡ Some y
unfolding small_number
kept y small = let once : (pos 0 +ℤ (pos 1 *ℤ y)) -ℤ pos 0 ≡ y = omega (arith, ints) in ap (λ (n : ℤ). if_small n) once ∙ ap (λ (t : Bool). if t then Some y else None) small

negative_kept : (y : ℤ) → is_small y ≡ true → small_number (negsuc 0) (pos 0) (pos 0) y ≡ Some (neg_ℤ y)
unfolding small_number
negative_kept y small = let once : (pos 0 +ℤ (negsuc 0 *ℤ y)) -ℤ pos 0 ≡ neg_ℤ y = omega (arith, ints) in ap (λ (n : ℤ). if_small n) once ∙ ap (λ (t : Bool). if t then Some (neg_ℤ y) else None) (negative_small y ∙ small)

-- the first number of a sum, and those behind it
pub record IsFront (k less x y : ℤ) (more : Option (List ℤ)) (zs : List ℤ) : Type 0 where
  pub number : ℤ
  pub rest : List ℤ
  pub all : zs ≡ number ∷ rest
  pub behind : more ≡ Some rest
  pub small : is_small number ≡ true
  pub is : number ≡ (x +ℤ (k *ℤ y)) -ℤ less

-- a sum has a small number in front
pub front_is : (k less x y : ℤ) (more : Option (List ℤ)) (zs : List ℤ) → number_before (small_number k less x y) more ≡ Some zs → IsFront k less x y more zs
unfolding small_number
front_is k less x y more zs e = cases (is_small ((x +ℤ (k *ℤ y)) -ℤ less)) refl more e where
  cases : (b : Bool) → is_small ((x +ℤ (k *ℤ y)) -ℤ less) ≡ b → (o : Option (List ℤ)) → number_before (if b then Some ((x +ℤ (k *ℤ y)) -ℤ less) else None) o ≡ Some zs → IsFront k less x y o zs
  cases true small (Some rest) f = record { number = (x +ℤ (k *ℤ y)) -ℤ less; rest = rest; all = sym (same_some f); behind = refl; small = small; is = refl }
  cases _ small _ f = absurd cc

-- ---- lists

plus_none : (n : ℕ) (ys : List ℤ) → length ys ≤ n → AllByRecursion (λ n. is_small n ≡ true) ys → plus_times (pos 1) (replicate n (pos 0)) ys ≡ Some ys
plus_none zero (y ∷ ys) few small = absurd (omega arith)
plus_none (suc n) (y ∷ ys) few small =
    ap (λ (o : Option ℤ). number_before o (plus_times (pos 1) (replicate n (pos 0)) ys)) (kept y small.0)
    ∙ ap (λ (o : Option (List ℤ)). option_map (λ ns. y ∷ ns) o) (plus_none n ys (omega arith) small.1)
plus_none zero [] few small = refl
plus_none (suc n) [] few small = refl

minus_none : (n : ℕ) (ys : List ℤ) → length ys ≤ n → AllByRecursion (λ n. is_small n ≡ true) ys → plus_times (negsuc 0) (replicate n (pos 0)) ys ≡ Some (map neg_ℤ ys)
minus_none zero (y ∷ ys) few small = absurd (omega arith)
minus_none (suc n) (y ∷ ys) few small =
    ap (λ (o : Option ℤ). number_before o (plus_times (negsuc 0) (replicate n (pos 0)) ys)) (negative_kept y small.0)
    ∙ ap (λ (o : Option (List ℤ)). option_map (λ ns. neg_ℤ y ∷ ns) o) (minus_none n ys (omega arith) small.1)
minus_none zero [] few small = refl
minus_none (suc n) [] few small = refl

pub combined_kept : (ns : List ℤ) → AreSmall ns → combined (pos 1) (pos 0) zeros ns ≡ Some ns
combined_kept [] are = refl
combined_kept (y ∷ ys) are = plus_none width (y ∷ ys) are.few are.small

pub combined_negative : (ns : List ℤ) → AreSmall ns → combined (negsuc 0) (pos 0) zeros ns ≡ Some (map neg_ℤ ns)
combined_negative [] are = refl
combined_negative (y ∷ ys) are = minus_none width (y ∷ ys) are.few are.small

pub negative_are : (ns : List ℤ) → AreSmall ns → AreSmall (map neg_ℤ ns)
negative_are ns are = record {
  few = omega (arith, length-map ns neg_ℤ, are.few);
  small = All-map (λ n. is_small n ≡ true) neg_ℤ ns (All-weaken (λ n. is_small n ≡ true) (λ n. is_small (neg_ℤ n) ≡ true) ns (λ y h. negative_small y ∙ h) are.small);
}

pub negative_twice : (ns : List ℤ) → map neg_ℤ (map neg_ℤ ns) ≡ ns
negative_twice [] = refl
negative_twice (y ∷ ys) = ap (λ (n : ℤ). n ∷ map neg_ℤ (map neg_ℤ ys)) (twice_negative y) ∙ ap (λ (ns : List ℤ). y ∷ ns) (negative_twice ys)

-- what was added up is small, and no longer than its first part
AreBehind : List ℤ → List ℤ → Type 0
AreBehind xs zs = (length zs ≤ length xs) × AllByRecursion (λ n. is_small n ≡ true) zs

front_are : {k less x y : ℤ} {zs : List ℤ} {more : Option (List ℤ)} (xs : List ℤ) (f : IsFront k less x y more zs) → AreBehind xs f.rest → AreBehind (x ∷ xs) zs
unfolding AreBehind
front_are {x = x} xs f h = subst (AreBehind (x ∷ xs)) (sym f.all) (omega (arith, h.0), (f.small, h.1))

plus_times_are : (k : ℤ) (xs ys zs : List ℤ) → plus_times k xs ys ≡ Some zs → AreBehind xs zs
unfolding AreBehind
plus_times_are k [] ys zs e = subst (AreBehind []) (same_some e) (omega arith, tt)
plus_times_are k (x ∷ xs) [] zs e = subst (AreBehind (x ∷ xs)) (same_some e) (omega arith, tt)
plus_times_are k (x ∷ xs) (y ∷ ys) zs e = let f = front_is k (pos 0) x y (plus_times k xs ys) zs e in front_are xs f (plus_times_are k xs ys f.rest f.behind)

combined_behind : (k less : ℤ) (xs ys zs : List ℤ) → combined k less xs ys ≡ Some zs → AreBehind xs zs
unfolding AreBehind
combined_behind k less [] ys zs e = subst (AreBehind []) (same_some e) (omega arith, tt)
combined_behind k less (x ∷ xs) [] zs e = subst (AreBehind (x ∷ xs)) (same_some e) (omega arith, tt)
combined_behind k less (x ∷ xs) (y ∷ ys) zs e = let f = front_is k less x y (plus_times k xs ys) zs e in front_are xs f (plus_times_are k xs ys f.rest f.behind)

pub combined_are : (k less : ℤ) (xs ys zs : List ℤ) → length xs ≤ width → combined k less xs ys ≡ Some zs → AreSmall zs
unfolding AreBehind
combined_are k less xs ys zs few e = let b = combined_behind k less xs ys zs e in record { few = omega (arith, b.0); small = b.1 }

pub single_are : (at : ℕ) (n : ℤ) → is_small n ≡ true → AreSmall (single at n)
single_are at n small = record { few = omega (arith, length-set zeros at n); small = All-set (λ n. is_small n ≡ true) zeros at n small (All-replicate (λ n. is_small n ≡ true) width (pos 0) refl) }

-- a form, or its negative
abbrev pub flipped : Bool → List ℤ → List ℤ
flipped true ns = map neg_ℤ ns
flipped false ns = ns

pub flipped_are : (sign : Bool) (ns : List ℤ) → AreSmall ns → AreSmall (flipped sign ns)
flipped_are true ns are = negative_are ns are
flipped_are false ns are = are

pub flipped_not : (sign : Bool) (ns : List ℤ) → map neg_ℤ (flipped sign ns) ≡ flipped (not sign) ns
flipped_not true ns = negative_twice ns
flipped_not false ns = refl

pub flipped_negative : (sign : Bool) (ns : List ℤ) → flipped sign (map neg_ℤ ns) ≡ flipped (not sign) ns
flipped_negative true ns = negative_twice ns
flipped_negative false ns = refl

-- ---- what is meant

form_are : (h : Bool) (o : Option (List ℤ)) (x : Form) → ((ns : List ℤ) → o ≡ Some ns → AreSmall ns) → form h o ≡ Some x → AreSmall x.numbers
form_are h None x k e = absurd cc
form_are h (Some ns) x k e = let same : record { numbers = ns; has_name = h } ≡ x = cc in subst (λ (f : Form). AreSmall f.numbers) same (k ns refl)

plus_are : (sign : Bool) (a b c : Form) → AreSmall a.numbers → mean.plus sign a b ≡ Some c → AreSmall c.numbers
plus_are sign a b c are e = form_are _ _ c (λ ns f. combined_are _ (pos 0) a.numbers b.numbers ns are.few f) e

from_zeros : (k : ℤ) (ys zs : List ℤ) → combined k (pos 0) zeros ys ≡ Some zs → AreSmall zs
from_zeros k ys zs e = combined_are k (pos 0) zeros ys zs (omega arith) e

times_are : (a b c : Form) → mean.times a b ≡ Some c → AreSmall c.numbers
times_are a b c e = if_ok None _ (a.has_name && b.has_name) e (λ _ f. absurd cc) (λ _ f.
    form_are _ _ c (λ ns g. if_ok _ _ b.has_name g (λ _ h. from_zeros _ b.numbers ns h) (λ _ h. from_zeros _ a.numbers ns h)) f)

integer_small : (bytes : List ℕ) (n : ℤ) → mean.integer_means bytes ≡ Some n → is_small n ≡ true
unfolding mean.integer_means
integer_small bytes n e = some_if _ _ e (λ both same. ap is_small (sym same) ∙ (and_parts (is_integer bytes) (nat_lt (value_from 0 bytes) NUMBER_SIZE) both).1)

mutual
  unfolding affine_means sums_means term_means products_means factor_means

  pub affine_are : (b : ℕ) (t : tree.Affine) (s : Names) (x : Form × Names) → affine_means b t s ≡ Some x → AreSmall x.0.numbers
  affine_are b (tree.sum t ss) s x e = then_some _ (term_means b t s) e (λ p e1 e2. sums_are b p.0 ss p.1 x (term_are b t s p e1) e2)

  pub sums_are : (b : ℕ) (a : Form) (ss : tree.Sums) (s : Names) (x : Form × Names) → AreSmall a.numbers → sums_means b a ss s ≡ Some x → AreSmall x.0.numbers
  sums_are b a tree.sum_end s x are e = subst (λ (y : Form × Names). AreSmall y.0.numbers) (same_some e) are
  sums_are b a (tree.plus t ss) s x are e = then_some _ (term_means b t s) e (λ p e1 e2. given_some (mean.plus false a p.0) _ p.1 e2 (λ c e3 e4. sums_are b c ss p.1 x (plus_are false a p.0 c are e3) e4))
  sums_are b a (tree.minus t ss) s x are e = then_some _ (term_means b t s) e (λ p e1 e2. given_some (mean.plus true a p.0) _ p.1 e2 (λ c e3 e4. sums_are b c ss p.1 x (plus_are true a p.0 c are e3) e4))

  pub term_are : (b : ℕ) (t : tree.Term) (s : Names) (x : Form × Names) → term_means b t s ≡ Some x → AreSmall x.0.numbers
  term_are b (tree.product f ps) s x e = then_some _ (factor_means b f s) e (λ p e1 e2. products_are b p.0 ps p.1 x (factor_are b f s p e1) e2)

  pub products_are : (b : ℕ) (a : Form) (ps : tree.Products) (s : Names) (x : Form × Names) → AreSmall a.numbers → products_means b a ps s ≡ Some x → AreSmall x.0.numbers
  products_are b a tree.product_end s x are e = subst (λ (y : Form × Names). AreSmall y.0.numbers) (same_some e) are
  products_are b a (tree.times f ps) s x are e = then_some _ (factor_means b f s) e (λ p e1 e2. given_some (mean.times a p.0) _ p.1 e2 (λ c e3 e4. products_are b c ps p.1 x (times_are a p.0 c e3) e4))

  pub factor_are : (b : ℕ) (f : Factor) (s : Names) (x : Form × Names) → factor_means b f s ≡ Some x → AreSmall x.0.numbers
  factor_are b (tree.integer bytes) s x e = given_some (mean.integer_means bytes) _ s e (λ n e1 e2. subst (λ (y : Form × Names). AreSmall y.0.numbers) (same_some e2) (single_are 0 n (integer_small bytes n e1)))
  factor_are b (tree.name name) s x e = then_some _ (mean.slot name s) e (λ p e1 e2. subst (λ (y : Form × Names). AreSmall y.0.numbers) (same_some e2) (single_are p.0 (pos 1) refl))
  factor_are zero (tree.in_brackets a) s x e = absurd cc
  factor_are (suc b) (tree.in_brackets a) s x e = affine_are b a s x e
  factor_are b (tree.negative f) s x e = then_some _ (factor_means b f s) e (λ p e1 e2. given_last (mean.negated p.0) p.1 e2 (λ c e3 e4. subst (λ (y : Form × Names). AreSmall y.0.numbers) e4 (form_are _ _ c (λ ns f. from_zeros _ p.0.numbers ns f) e3)))
  factor_are b (tree.positive f) s x e = factor_are b f s x e

-- ---- signs

-- a form, or its negative
abbrev pub flip : Bool → Form → Form
flip sign a = record { numbers = flipped sign a.numbers; has_name = a.has_name }

-- the negative of a form
pub negated_is : (a : Form) → AreSmall a.numbers → mean.negated a ≡ Some (flip true a)
negated_is a are = ap (form a.has_name) (combined_negative a.numbers are)

-- the rule gives the form, or its negative
pub signed_is : (start : ℕ) (sign : Bool) (a : Affine) → AreSmall a.numbers → rule.signed start sign a ≡ Ok (record { numbers = flipped sign a.numbers; has_name = a.has_name; ends_in_name = a.ends_in_name })
unfolding rule.signed
signed_is start true a are = ap (λ o. rule.small start o a.has_name a.ends_in_name) (combined_negative a.numbers are)
signed_is start false a are = ap (λ o. rule.small start o a.has_name a.ends_in_name) (combined_kept a.numbers are)

-- ---- rows: which numbers are 0

-- ---- what holds of a value, where there is one

-- this holds of the value, where there is one
abbrev pub IsWhereSome : {X : Type 0} → (X → Type 0) → Option X → Type 0
IsWhereSome P None = ⊤
IsWhereSome P (Some x) = P x

-- ---- numbers at their places

-- the place of a parameter or of a loop that isn't there
abbrev pub IsAbsent : ℕ → ℕ → ℕ → Type 0
IsAbsent parameters depth at = ((1 + parameters ≤ at) × (at < 1 + PARAMETERS)) ⊎ (1 + PARAMETERS + depth ≤ at)

-- a small number, which is 0 where nothing is there
pub record IsNumber (parameters depth at : ℕ) (x : ℤ) : Type 0 where
  pub small : unsigned_abs x < NUMBER_SIZE
  pub absent : IsAbsent parameters depth at → x ≡ pos 0

-- numbers from this place on
abbrev pub AreNumbers : ℕ → ℕ → ℕ → List ℤ → Type 0
AreNumbers parameters depth at [] = ⊤
AreNumbers parameters depth at (x ∷ xs) = IsNumber parameters depth at x × AreNumbers parameters depth (suc at) xs

-- how many numbers a row has
abbrev row_width : ℕ
row_width = 1 + PARAMETERS + LOOPS

-- a row of these
pub record IsRow (parameters depth : ℕ) (row : List ℤ) : Type 0 where
  pub width : length row ≡ row_width
  pub numbers : AreNumbers parameters depth 0 row

-- what holds of each value that there may be
where_some : {X : Type 0} (P : X → Type 0) (o : Option X) → ((x : X) → o ≡ Some x → P x) → IsWhereSome P o
where_some P None f = tt
where_some P (Some x) f = f x refl

-- a sum of zeros is 0
sum_zero : (k x y : ℤ) → x ≡ pos 0 → y ≡ pos 0 → (x +ℤ (k *ℤ y)) -ℤ pos 0 ≡ pos 0
sum_zero k x y p q = rw (p, q) (omega (arith, ints))

-- sums of numbers at their places
times_row : (parameters depth at : ℕ) (k : ℤ) (xs ys : List ℤ) → AreNumbers parameters depth at xs → AreNumbers parameters depth at ys
    → IsWhereSome (λ zs. AreNumbers parameters depth at zs × (length xs ≡ length ys → length zs ≡ length xs)) (plus_times k xs ys)
times_row parameters depth at k [] ys p q = (tt, λ _. refl)
times_row parameters depth at k (x ∷ xs) [] p q = (tt, λ e. absurd (omega (arith, e)))
times_row parameters depth at k (x ∷ xs) (y ∷ ys) p q = where_some _ (plus_times k (x ∷ xs) (y ∷ ys)) (λ all e.
    let f = front_is k (pos 0) x y (plus_times k xs ys) all e in
    let r = subst (IsWhereSome (λ zs. AreNumbers parameters depth (suc at) zs × (length xs ≡ length ys → length zs ≡ length xs))) f.behind (times_row parameters depth (suc at) k xs ys p.1 q.1) in
    subst (λ zs. AreNumbers parameters depth at zs × (suc (length xs) ≡ suc (length ys) → length zs ≡ suc (length xs))) (sym f.all)
    ((record { small = ltb-true _ _ f.small; absent = λ a. f.is ∙ sum_zero k x y (p.0.absent a) (q.0.absent a) }, r.0), λ e. ap suc (r.1 (omega (arith, e)))))

-- a sum of rows is a row
pub combined_row : {parameters depth : ℕ} (k less : ℤ) (xs ys : List ℤ) → IsRow parameters depth xs → IsRow parameters depth ys
    → IsWhereSome (IsRow parameters depth) (combined k less xs ys)
combined_row k less [] ys p q = absurd (omega (arith, p.width))
combined_row k less (x ∷ xs) [] p q = absurd (omega (arith, q.width))
combined_row {parameters} {depth} k less (x ∷ xs) (y ∷ ys) p q = where_some (IsRow parameters depth) (combined k less (x ∷ xs) (y ∷ ys)) (λ all e.
    let f = front_is k less x y (plus_times k xs ys) all e in
    let r = subst (IsWhereSome (λ zs. AreNumbers parameters depth 1 zs × (length xs ≡ length ys → length zs ≡ length xs))) f.behind (times_row parameters depth 1 k xs ys p.numbers.1 q.numbers.1) in
    let same : length f.rest ≡ length xs = r.1 (omega (arith, p.width, q.width)) in
    subst (IsRow parameters depth) (sym f.all) (record { width = omega (arith, same, p.width); numbers = (record { small = ltb-true _ _ f.small; absent = λ a. absurd (elim a [ inl b ↦ omega arith | inr b ↦ omega arith ]) }, r.0) }))

-- ---- the numbers of a variable

-- zeros fit anywhere
zeros_are : (parameters depth at n : ℕ) → AreNumbers parameters depth at (replicate n (pos 0))
zeros_are parameters depth at zero = tt
zeros_are parameters depth at (suc n) = (record { small = lit< tt; absent = λ _. refl }, zeros_are parameters depth (suc at) n)

-- the row of zeros
pub zeros_row : (parameters depth : ℕ) → IsRow parameters depth zeros
zeros_row parameters depth = record { width = refl; numbers = zeros_are parameters depth 0 row_width }

-- one number of some is changed
set_are : (parameters depth at : ℕ) (xs : List ℤ) (slot : ℕ) (n : ℤ) → AreNumbers parameters depth at xs → IsNumber parameters depth (at + slot) n
    → AreNumbers parameters depth at (slice_set xs slot n)
set_are parameters depth at [] slot n h g = tt
set_are parameters depth at (x ∷ xs) zero n h g = (let none : at + 0 ≡ at = omega arith in subst (λ k. IsNumber parameters depth k n) none g, h.1)
set_are parameters depth at (x ∷ xs) (suc slot) n h g =
    let moved : at + suc slot ≡ suc at + slot = omega arith in
    (h.0, set_are parameters depth (suc at) xs slot n h.1 (subst (λ k. IsNumber parameters depth k n) moved g))

-- one number more in a row
pub set_row : (parameters depth : ℕ) (row : List ℤ) (slot : ℕ) (n : ℤ) → IsRow parameters depth row → unsigned_abs n < NUMBER_SIZE
    → (IsAbsent parameters depth slot → ⊥) → IsRow parameters depth (slice_set row slot n)
set_row parameters depth row slot n h small there =
    let none : 0 + slot ≡ slot = omega arith in
    record { width = length-set row slot n ∙ h.width; numbers = set_are parameters depth 0 row slot n h.numbers (record { small = small; absent = λ a. absurd (there (subst (IsAbsent parameters depth) none a)) }) }

-- the row of one variable, or of a constant
pub single_row : (parameters depth slot : ℕ) (n : ℤ) → unsigned_abs n < NUMBER_SIZE → (IsAbsent parameters depth slot → ⊥) → IsRow parameters depth (single slot n)
single_row parameters depth slot n = set_row parameters depth zeros slot n (zeros_row parameters depth)

-- the constant's place, and a parameter's
pub first_there : (parameters depth : ℕ) → IsAbsent parameters depth 0 → ⊥
first_there parameters depth a = elim a [ inl b ↦ omega arith | inr b ↦ omega arith ]

-- the place of a parameter has one
pub parameter_there : (parameters depth k : ℕ) → k < parameters → parameters ≤ PARAMETERS → IsAbsent parameters depth (1 + k) → ⊥
parameter_there parameters depth k h few a = elim a [ inl b ↦ omega arith | inr b ↦ omega arith ]

-- ---- more parameters, and more loops

-- numbers fit where there is more
more_are : (parameters depth wider deeper at : ℕ) (xs : List ℤ) → parameters ≤ wider → depth ≤ deeper → AreNumbers parameters depth at xs
    → AreNumbers wider deeper at xs
more_are parameters depth wider deeper at [] p q h = tt
more_are parameters depth wider deeper at (x ∷ xs) p q h = (
  record { small = h.0.small; absent = λ a. h.0.absent (elim a [ inl b ↦ inl (omega arith, omega arith) | inr b ↦ inr (omega arith) ]) },
  more_are parameters depth wider deeper (suc at) xs p q h.1,
)

-- a row fits where there is more
pub more_row : {parameters depth wider deeper : ℕ} {row : List ℤ} → parameters ≤ wider → depth ≤ deeper → IsRow parameters depth row → IsRow wider deeper row
more_row {parameters} {depth} {wider} {deeper} {row} p q h = record { width = h.width; numbers = more_are parameters depth wider deeper 0 row p q h.numbers }

-- ---- rows of parameters less 1

-- the rows of so many parameters less 1
pub all_rows : (parameters k : ℕ) → k ≤ parameters → parameters ≤ PARAMETERS → AllByRecursion (IsRow parameters 0) (all_at_least_one k)
all_rows parameters zero h few = tt
all_rows parameters (suc k) h few =
    All-append (IsRow parameters 0) (all_at_least_one k) (at_least_one k ∷ []) (all_rows parameters k (omega arith) few) (
      set_row parameters 0 (single 0 (negsuc 0)) (1 + k) (pos 1) (single_row parameters 0 0 (negsuc 0) (lit< tt) (first_there parameters 0)) (lit< tt)
          (parameter_there parameters 0 k (omega arith) few),
      tt,
    )

-- ---- rows as they are stated

-- all numbers are small
all_small : (parameters depth at : ℕ) (xs : List ℤ) → AreNumbers parameters depth at xs → AllByRecursion (λ n. unsigned_abs n < NUMBER_SIZE) xs
all_small parameters depth at [] h = tt
all_small parameters depth at (x ∷ xs) h = (h.0.small, all_small parameters depth (suc at) xs h.1)

-- the numbers behind some
drop_are : (parameters depth at n : ℕ) (xs : List ℤ) → AreNumbers parameters depth at xs → AreNumbers parameters depth (at + n) (drop n xs)
drop_are parameters depth at zero xs h = let none : at ≡ at + 0 = omega arith in subst (λ k. AreNumbers parameters depth k xs) none h
drop_are parameters depth at (suc n) [] h = tt
drop_are parameters depth at (suc n) (x ∷ xs) h =
    let moved : suc at + n ≡ at + suc n = omega arith in
    subst (λ k. AreNumbers parameters depth k (drop n xs)) moved (drop_are parameters depth (suc at) n xs h.1)

-- numbers at places where nothing is there are 0
take_zeros : (parameters depth at n : ℕ) (xs : List ℤ) → AreNumbers parameters depth at xs → n ≤ length xs
    → ((j : ℕ) → at ≤ j → j < at + n → IsAbsent parameters depth j) → take n xs ≡ replicate n (pos 0)
take_zeros parameters depth at zero xs h fits f = refl
take_zeros parameters depth at (suc n) [] h fits f = absurd (omega arith)
take_zeros parameters depth at (suc n) (x ∷ xs) h fits f =
    ap (λ (y : ℤ). y ∷ take n xs) (h.0.absent (f at (omega arith) (omega arith)))
    ∙ ap (λ (ys : List ℤ). pos 0 ∷ ys) (take_zeros parameters depth (suc at) n xs h.1 (omega arith) (λ j p q. f j (omega arith) (omega arith)))

-- all are 0 where nothing is there from some place on
all_zeros : (parameters depth at : ℕ) (xs : List ℤ) → AreNumbers parameters depth at xs → ((j : ℕ) → at ≤ j → IsAbsent parameters depth j)
    → xs ≡ replicate (length xs) (pos 0)
all_zeros parameters depth at [] h f = refl
all_zeros parameters depth at (x ∷ xs) h f =
    ap (λ (y : ℤ). y ∷ xs) (h.0.absent (f at (omega arith)))
    ∙ ap (λ (ys : List ℤ). pos 0 ∷ ys) (all_zeros parameters depth (suc at) xs h.1 (λ j p. f j (omega arith)))

-- a row as it is stated
pub stated_row : (parameters depth : ℕ) (row : List ℤ) → parameters ≤ PARAMETERS → IsRow parameters depth row → IsRowOver parameters depth row
stated_row parameters depth row few h = record {
  width = h.width;
  small = all_small parameters depth 0 row h.numbers;
  absent_parameters =
      take_zeros parameters depth (0 + (1 + parameters)) (PARAMETERS - parameters) (drop (1 + parameters) row)
      (drop_are parameters depth 0 (1 + parameters) row h.numbers)
      (omega (arith, length-drop (1 + parameters) row, h.width)) (λ j p q. inl (omega arith, omega arith));
  absent_loops =
      all_zeros parameters depth (0 + (1 + PARAMETERS + depth)) (drop (1 + PARAMETERS + depth) row) (drop_are parameters depth 0 (1 + PARAMETERS + depth) row h.numbers) (λ j p. inr (omega arith))
      ∙ ap (λ (n : ℕ). replicate n (pos 0)) (omega (arith, length-drop (1 + PARAMETERS + depth) row, h.width));
}
