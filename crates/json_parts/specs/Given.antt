-- What holds of a value that reading gives, step by step.
use Rattle.std.proofs.Common.{◌≡◌, ℕ, suc, ◌≤◌, List, [], ◌∷◌, length, Bool, true, false, if◌then◌else◌, None, Some, Ok, Err, refl, ap, arith}
use Rattle.std.proofs.lemmas.Bool.{leb-true}
use Rattle.std.specs.Prelude.{IfOk, IfSome, Option, is_some, nat_le, ◌&&◌, ℤ, pos, negsuc}
use Rattle.std.specs.List.{AllByRecursion}
use Rattle.claims.specs.declared.place.Step.{Step}
use Rattle.claims.specs.declared.place.Step.TheVariants.{Key, Index}
use Rattle.serde_json.specs.Data.{Data, null}
use Rattle.serde_json.specs.Find.{get, as_null}
use Rattle.json_parts.specs.Outcome.{Outcome, ◌>>=◌, fault, under}
use Rattle.json_parts.specs.Json.{has_keys, with_keys, part, read_member, reads_list, reads_short_list, each, reads_all, reads_few, reads_or_null, natural_within, reads_natural, is_exactly, reads_exactly, integer_of}

pub given_then : {A B : Type 0} (read : Outcome A) (f : A → Outcome B) (P : A → Type 0) (Q : B → Type 0) → IfOk read P → ((a : A) → P a → IfOk (f a) Q) → IfOk (read >>= f) Q
given_then (Ok a) f P Q here next = next a here
given_then (Err e) f P Q here next = tt

-- whatever was given before
pub given_behind : {A B : Type 0} (read : Outcome A) (f : A → Outcome B) (Q : B → Type 0) → ((a : A) → IfOk (f a) Q) → IfOk (read >>= f) Q
given_behind (Ok a) f Q next = next a
given_behind (Err e) f Q next = tt

pub given_under : {A : Type 0} (step : Step) (read : Outcome A) (P : A → Type 0) → IfOk read P → IfOk (under step read) P
given_under step (Ok a) P here = here
given_under step (Err e) P here = tt

pub given_if : {A : Type 0} (test : Bool) (one other : Outcome A) (P : A → Type 0) → (test ≡ true → IfOk one P) → IfOk other P → IfOk (if test then one else other) P
given_if true one other P first second = first refl
given_if false one other P first second = second

pub given_member : {A : Type 0} (step : Step) (reader : Data → Outcome A) (P : A → Type 0) (found : Option Data) → ((v : Data) → IfOk (reader v) P) → IfOk (read_member step reader found) P
given_member step reader P None every = tt
given_member step reader P (Some v) every = given_under step (reader v) P (every v)

pub given_part : {A : Type 0} (name : List ℕ) (reader : Data → Outcome A) (P : A → Type 0) (d : Data) → ((v : Data) → IfOk (reader v) P) → IfOk (part name reader d) P
given_part name reader P d every = given_member (Key name) reader P (get name d) every

pub given_each : {A : Type 0} (reader : Data → Outcome A) (P : A → Type 0) → ((v : Data) → IfOk (reader v) P) → (i : ℕ) (ds : List Data)
    → IfOk (each reader i ds) (λ found. AllByRecursion P found × (length found ≡ length ds))
unfolding each
given_each reader P every i [] = (tt, refl)
given_each {A = A} reader P every i (d ∷ ds) =
    given_then (under (Index i) (reader d)) _ P (λ (found : List A). AllByRecursion P found × (length found ≡ suc (length ds))) (given_under (Index i) (reader d) P (every d))
    (λ a here. given_then (each reader (suc i) ds) _ (λ (found : List A). AllByRecursion P found × (length found ≡ length ds)) (λ (found : List A). AllByRecursion P found × (length found ≡ suc (length ds)))
    (given_each reader P every (suc i) ds) (λ more rest. ((here, rest.0), ap suc rest.1)))

-- an array of any length
pub given_list : {A : Type 0} (reader : Data → Outcome A) (P : A → Type 0) → ((v : Data) → IfOk (reader v) P) → (d : Data) → IfOk (reads_list d >>= each reader 0) (AllByRecursion P)
given_list {A = A} reader P every d =
    given_behind (reads_list d) (each reader 0) (AllByRecursion P) (λ ds. weaker (each reader 0 ds) ds (given_each reader P every 0 ds)) where
      weaker : (read : Outcome (List A)) (ds : List Data) → IfOk read (λ found. AllByRecursion P found × (length found ≡ length ds)) → IfOk read (AllByRecursion P)
      weaker (Ok found) ds here = here.0
      weaker (Err e) ds here = tt

-- an array of at most so many
pub given_short : (most : ℕ) (d : Data) → IfOk (reads_short_list most d) (λ ds. length ds ≤ most)
unfolding reads_short_list
given_short most d =
    given_behind (reads_list d) _ (λ (ds : List Data). length ds ≤ most) (λ ds. given_if (nat_le (length ds) most) (Ok ds) (fault 3) (λ (ds : List Data). length ds ≤ most) (leb-true (length ds) most) tt)

pub given_short_list : {A : Type 0} (reader : Data → Outcome A) (P : A → Type 0) → ((v : Data) → IfOk (reader v) P) → (most : ℕ) (d : Data)
    → IfOk (reads_short_list most d >>= each reader 0) (λ found. AllByRecursion P found × (length found ≤ most))
given_short_list {A = A} reader P every most d =
    given_then (reads_short_list most d) (each reader 0) (λ (ds : List Data). length ds ≤ most) (λ (found : List A). AllByRecursion P found × (length found ≤ most)) (given_short most d)
    (λ ds few. weaker (each reader 0 ds) ds few (given_each reader P every 0 ds)) where
      weaker : (read : Outcome (List A)) (ds : List Data) → length ds ≤ most → IfOk read (λ found. AllByRecursion P found × (length found ≡ length ds)) → IfOk read (λ found. AllByRecursion P found × (length found ≤ most))
      weaker (Ok found) ds few here = (here.0, omega (arith, few, here.1))
      weaker (Err e) ds few here = tt

-- an object with these keys
pub given_keys : {B : Type 0} (names : List (List ℕ)) (d : Data) (f : Data → Outcome B) (Q : B → Type 0) → IfOk (f d) Q → IfOk (with_keys names d >>= f) Q
unfolding with_keys
given_keys names d f Q here = keyed (has_keys names d) where
  keyed : (test : Bool) → IfOk ((if test then Ok d else fault 2) >>= f) Q
  keyed true = here
  keyed false = tt

pub given_all : {A : Type 0} (reader : Data → Outcome A) (P : A → Type 0) → ((v : Data) → IfOk (reader v) P) → (d : Data) → IfOk (reads_all reader d) (AllByRecursion P)
unfolding reads_all
given_all reader P every d = given_list reader P every d

pub given_few : {A : Type 0} (reader : Data → Outcome A) (P : A → Type 0) → ((v : Data) → IfOk (reader v) P) → (most : ℕ) (d : Data)
    → IfOk (reads_few most reader d) (λ found. AllByRecursion P found × (length found ≤ most))
unfolding reads_few
given_few reader P every most d = given_short_list reader P every most d

pub given_or_null : {A : Type 0} (reader : Data → Outcome A) (P : A → Type 0) → ((v : Data) → IfOk (reader v) P) → (d : Data) → IfOk (reads_or_null reader d) (λ a. IfSome a P)
unfolding reads_or_null
given_or_null {A = A} reader P every d =
    given_if (is_some (as_null d)) (Ok None) (reader d >>= λ a. Ok (Some a)) (λ a. IfSome a P) (λ is. tt) (given_then (reader d) (λ a. Ok (Some a)) P (λ a. IfSome a P) (every d) (λ a here. here))

pub given_natural : (least most : ℕ) (d : Data) → IfOk (reads_natural least most d) (λ n. (least ≤ n) × (n ≤ most))
unfolding reads_natural
given_natural least most d = within (integer_of d) where
  within : (z : Option ℤ) → IfOk (natural_within least most z) (λ n. (least ≤ n) × (n ≤ most))
  within None = tt
  within (Some (pos n)) =
      given_if (nat_le least n && nat_le n most) (Ok n) (fault 3) (λ n. (least ≤ n) × (n ≤ most)) (λ is. both n (nat_le least n) (nat_le n most) is (leb-true least n) (leb-true n most)) tt where
        both : (n : ℕ) (a b : Bool) → (a && b) ≡ true → (a ≡ true → least ≤ n) → (b ≡ true → n ≤ most) → (least ≤ n) × (n ≤ most)
        both n true true is p q = (p refl, q refl)
        both n true false is p q = absurd cc
        both n false b is p q = absurd cc
  within (Some (negsuc n)) = tt

pub given_exactly : (n : ℕ) (d : Data) → IfOk (reads_exactly n d) (λ _. Unit {0})
unfolding reads_exactly
given_exactly n d = given_if (is_exactly n (integer_of d)) (Ok tt) (fault 2) (λ _. Unit {0}) (λ is. tt) tt

-- ---- of null

pub list-null : {A : Type 0} (reader : Data → Outcome A) → reads_all reader null ≡ fault 2
unfolding reads_all reads_list
list-null reader = refl

pub few-null : {A : Type 0} (most : ℕ) (reader : Data → Outcome A) → reads_few most reader null ≡ fault 2
unfolding reads_few reads_short_list reads_list
few-null most reader = refl

pub natural-null : (least most : ℕ) → reads_natural least most null ≡ fault 2
unfolding reads_natural
natural-null least most = refl

pub exactly-null : (n : ℕ) → reads_exactly n null ≡ fault 2
unfolding reads_exactly
exactly-null n = refl
