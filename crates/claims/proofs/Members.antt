-- What is found in the claims about the members of a list, member by member.
use Rattle.std.proofs.Common.{◌≡◌, sym, ◌∙◌, ap, subst, ℕ, zero, suc, ◌+◌, ◌<◌, List, [], ◌∷◌, ◌++◌, length, get_or, drop, arith, zero-add}
use Rattle.std.specs.Prelude.{Result}
use Rattle.std.proofs.Math.Nat.{add-zero}
use Rattle.base_laws.proofs.Lists.{rest_at, add-one}
use Rattle.claims.specs.declared.refused.FailedCondition.{FailedCondition}
use Rattle.claims.specs.declared.refused.Refused.{Refused}
use Rattle.claims.specs.declared.refused.Refused.TheVariants.{Failed as not_so, Memory}
use Rattle.claims.specs.Claims.{Claim, AllHold, Decides, FirstFails, IsRefusal, numbered, counted}
use Rattle.claims.proofs.Laws.{first-fails, later-fails, AllHold-append, AllHold-left, AllHold-right}
use Rattle.claims.proofs.Found.{refused-first, decides-later}

-- so many behind the next number are one more behind this one
pub suc-moved : (first k : ℕ) → suc first + k ≡ first + suc k
suc-moved first k = omega arith

module _ {X : Type 0} (each : ℕ → X → List Claim) (xs : List X) (i : ℕ) (x : X) (below : i < length xs) (is : x ≡ get_or xs i x) where
  -- the claims from an index on: those of the member there, and those from the next index on
  pub numbered-from : numbered each i (drop i xs) ≡ each i x ++ numbered each (i + 1) (drop (i + 1) xs)
  numbered-from =
      ap (numbered each i) (rest_at xs i x below is)
      ∙ ap (λ (n : ℕ). each i x ++ numbered each n (drop (i + 1) xs)) (add-one i)

  -- a claim about the member there fails
  pub numbered-stop : (r : Refused) → IsRefusal (each i x) r → IsRefusal (numbered each i (drop i xs)) r
  numbered-stop r f =
      subst (λ (claims : List Claim). IsRefusal claims r) (sym numbered-from) (refused-first (each i x) (numbered each (i + 1) (drop (i + 1) xs)) r f)

  -- all of them hold
  pub numbered-next : {A : Type 0} (answer : Result A Refused) → AllHold (each i x) → Decides (numbered each (i + 1) (drop (i + 1) xs)) answer → Decides (numbered each i (drop i xs)) answer
  numbered-next answer h g =
      subst (λ (claims : List Claim). Decides claims answer) (sym numbered-from) (decides-later (each i x) (numbered each (i + 1) (drop (i + 1) xs)) answer h g)

-- no member is left
pub numbered-ended : {X : Type 0} (each : ℕ → X → List Claim) (xs : List X) (i : ℕ) → drop i xs ≡ [] → AllHold (numbered each i (drop i xs))
numbered-ended {X = X} each xs i e = subst (λ (rest : List X). AllHold (numbered each i rest)) (sym e) tt

-- from an index on, all of them hold where those about each member do
numbered-all : {X : Type 0} (each : ℕ → X → List Claim) (index : ℕ) (xs : List X)
    → ((i : ℕ) (d : X) → i < length xs → AllHold (each (index + i) (get_or xs i d))) → AllHold (numbered each index xs)
numbered-all each index [] h = tt
numbered-all {X = X} each index (x ∷ xs) h =
    AllHold-append (each index x) (numbered each (suc index) xs)
    (subst (λ (n : ℕ). AllHold (each n x)) (add-zero index) (h 0 x (omega arith)))
    (numbered-all each (suc index) xs (λ i d below. subst (λ (n : ℕ). AllHold (each n (get_or xs i d))) (sym (suc-moved index i)) (h (suc i) d (omega arith))))

-- and those about a member where all do
numbered-at : {X : Type 0} (each : ℕ → X → List Claim) (index : ℕ) (xs : List X) (i : ℕ) (d : X)
    → i < length xs → AllHold (numbered each index xs) → AllHold (each (index + i) (get_or xs i d))
numbered-at each index [] i d below h = absurd (omega arith)
numbered-at each index (x ∷ xs) zero d below h =
    subst (λ (n : ℕ). AllHold (each n x)) (sym (add-zero index)) (AllHold-left (each index x) (numbered each (suc index) xs) h)
numbered-at each index (x ∷ xs) (suc i) d below h =
    subst (λ (n : ℕ). AllHold (each n (get_or xs i d))) (suc-moved index i)
    (numbered-at each (suc index) xs i d (omega arith) (AllHold-right (each index x) (numbered each (suc index) xs) h))

module _ {X : Type 0} (each : ℕ → X → List Claim) (xs : List X) where
  -- all of them hold where those about each member do
  pub numbered-hold : ((i : ℕ) (d : X) → i < length xs → AllHold (each i (get_or xs i d))) → AllHold (numbered each 0 xs)
  numbered-hold h =
      numbered-all each 0 xs (λ i d below. subst (λ (n : ℕ). AllHold (each n (get_or xs i d))) (sym (zero-add i)) (h i d below))

  -- those about a member hold where all do
  pub numbered-member : (i : ℕ) (d : X) → i < length xs → AllHold (numbered each 0 xs) → AllHold (each i (get_or xs i d))
  numbered-member i d below h =
      subst (λ (n : ℕ). AllHold (each n (get_or xs i d))) (zero-add i) (numbered-at each 0 xs i d below h)

-- ---- so many numbers

-- the claims about each of so many numbers hold
counted-hold : (each : ℕ → List Claim) (first n : ℕ) → ((k : ℕ) → k < n → AllHold (each (first + k))) → AllHold (counted each first n)
counted-hold each first zero h = tt
counted-hold each first (suc n) h =
    AllHold-append (each first) (counted each (suc first) n) (subst (λ (m : ℕ). AllHold (each m)) (add-zero first) (h 0 (omega arith)))
    (counted-hold each (suc first) n (λ k below. subst (λ (m : ℕ). AllHold (each m)) (sym (suc-moved first k)) (h (suc k) (omega (arith, below)))))

-- then each of them does
counted-each : (each : ℕ → List Claim) (first n k : ℕ) → k < n → AllHold (counted each first n) → AllHold (each (first + k))
counted-each each first zero k below h = absurd (omega (arith, below))
counted-each each first (suc n) zero below h = subst (λ (m : ℕ). AllHold (each m)) (sym (add-zero first)) (AllHold-left (each first) (counted each (suc first) n) h)
counted-each each first (suc n) (suc k) below h =
    subst (λ (m : ℕ). AllHold (each m)) (suc-moved first k) (counted-each each (suc first) n k (omega (arith, below)) (AllHold-right (each first) (counted each (suc first) n) h))

-- the claims about one of them fail, and those about the numbers before hold
counted-fail : (each : ℕ → List Claim) (first n k : ℕ) (failed : FailedCondition) → k < n → ((j : ℕ) → j < k → AllHold (each (first + j))) → FirstFails (each (first + k)) failed
    → FirstFails (counted each first n) failed
counted-fail each first zero k failed below before h = absurd (omega (arith, below))
counted-fail each first (suc n) zero failed below before h =
    first-fails (each first) (counted each (suc first) n) failed (subst (λ (m : ℕ). FirstFails (each m) failed) (add-zero first) h)
counted-fail each first (suc n) (suc k) failed below before h =
    later-fails (each first) (counted each (suc first) n) failed (subst (λ (m : ℕ). AllHold (each m)) (add-zero first) (before 0 (omega arith)))
    (counted-fail each (suc first) n k failed (omega (arith, below)) (λ j less. subst (λ (m : ℕ). AllHold (each m)) (sym (suc-moved first j)) (before (suc j) (omega (arith, less))))
    (subst (λ (m : ℕ). FirstFails (each m) failed) (sym (suc-moved first k)) h))

-- the same from 0 on
pub counts-hold : (each : ℕ → List Claim) (n : ℕ) → ((k : ℕ) → k < n → AllHold (each k)) → AllHold (counted each 0 n)
counts-hold each n h = counted-hold each 0 n (λ k below. subst (λ (m : ℕ). AllHold (each m)) (sym (zero-add k)) (h k below))

pub counts-each : (each : ℕ → List Claim) (n k : ℕ) → k < n → AllHold (counted each 0 n) → AllHold (each k)
counts-each each n k below h = subst (λ (m : ℕ). AllHold (each m)) (zero-add k) (counted-each each 0 n k below h)

pub counts-refused : (each : ℕ → List Claim) (n k : ℕ) (r : Refused) → k < n → ((j : ℕ) → j < k → AllHold (each j)) → IsRefusal (each k) r → IsRefusal (counted each 0 n) r
counts-refused each n k Memory below before h = tt
counts-refused each n k (not_so failed) below before h =
    counted-fail each 0 n k failed below (λ j less. subst (λ (m : ℕ). AllHold (each m)) (sym (zero-add j)) (before j less))
    (subst (λ (m : ℕ). FirstFails (each m) failed) (sym (zero-add k)) h)
