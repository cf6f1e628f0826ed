-- The claims of a count hold where it is right, and give it.
use Rattle.std.specs.Prelude.{codes}
use Rattle.std.proofs.Common.{◌≡◌, ◌≢◌, refl, sym, ◌∙◌, subst, inl, inr, ℕ, zero, suc, ◌+◌, ◌<◌, ◌≤◌, List, [], ◌∷◌, length, drop, take, arith}
use Rattle.std.proofs.lemmas.List.{get_or_default}
use Rattle.std.proofs.Math.Nat.{add-zero}
use Rattle.iolb_model.specs.Form.{AffineForm}
use Rattle.iolb_model.specs.Program.{AffineProgram}
use Rattle.affine_form.specs.Multipliers.{FarkasMultipliers}
use Rattle.claims.specs.Claims.{Claim, AllHold, FirstFails, numbered}
use Rattle.claims.specs.declared.place.Step.{Step}
use Rattle.claims.proofs.Laws.{AllHold-append, AllHold-left, AllHold-right}
use Rattle.claims.proofs.Members.{numbered-hold, numbered-member, suc-moved}
use Rattle.poly_tree.specs.Poly.{Quotient, IsLegal, SameValues}
use Rattle.domain_count.specs.declared.summation.SumFault.{SumFault}
use Rattle.domain_count.specs.declared.summation.SumFault.TheVariants.{Wide, Differs, Memory}
use Rattle.domain_count.specs.Antidifference.{IsSummed, FailsAs}
use Rattle.domain_count.specs.Claims.{SumClaims}
use Rattle.domain_count.specs.Count.{AreShownBelow, IsCount, IsSumFrom, ShowsRange, bounds_at, multipliers_at, one}
use Rattle.domain_count.specs.CountClaims.{count_claims, member_place, range_claim, sum_at, sum_claims, sums_down}
use Rattle.domain_count.specs.Exact.{RightClaimsGiveOne}
use Rattle.domain_count.specs.Faults.{condition_of}
use Rattle.domain_count.proofs.Counting.{positive-from}
use Rattle.domain_count.proofs.Determined.{antidifference-stays, between-same, between-stays, difference-stays}

-- the sums from a later variable on
sums-at : (var i : ℕ) (nest : List (AffineForm × AffineForm)) (sums : List Quotient) (total : Quotient) → IsSumFrom var nest sums total → i ≤ length nest
    → (inner : Quotient) × IsSumFrom (var + i) (drop i nest) (drop i sums) inner
sums-at var zero nest sums total h le = (total, subst (λ (n : ℕ). IsSumFrom n nest sums total) (sym (add-zero var)) h)
sums-at var (suc i) [] sums total h le = absurd (omega arith)
sums-at var (suc i) (bounds ∷ nest) [] total h le = absurd h
sums-at var (suc i) (bounds ∷ nest) (sum ∷ sums) total h le =
    let later = sums-at (suc var) i nest sums h.0 h.1.0 (omega arith) in
    (later.0, subst (λ (n : ℕ). IsSumFrom n (drop i nest) (drop i sums) later.0) (suc-moved var i) later.1)

-- the sums give one polynomial
pub sums-same : (var : ℕ) (nest : List (AffineForm × AffineForm)) (sums : List Quotient) (first other : Quotient) → IsSumFrom var nest sums first → IsSumFrom var nest sums other
    → first ≡ other
sums-same var [] sums first other h g = h ∙ sym g
sums-same var (bounds ∷ nest) [] first other h g = absurd h
sums-same var (bounds ∷ nest) (sum ∷ sums) first other h g = between-same var bounds sum first other h.1.1.legal h.1.1.between g.1.1.between

equal-values : (first other : Quotient) → first ≡ other → SameValues first other
equal-values first other e = subst (SameValues first) e (λ p. refl)

pub right-claims-give-one : RightClaimsGiveOne
right-claims-give-one program nest claims first other h g = sums-same (length program.parameters) nest claims.sums first other h.sums g.sums

-- the summation over a variable, in the sums from it on
sum-there : (var k : ℕ) (nest : List (AffineForm × AffineForm)) (sums : List Quotient) (total : Quotient) → IsSumFrom var (drop k nest) (drop k sums) total → k < length nest
    → (summand : Quotient) × (IsSumFrom (suc var) (drop (suc k) nest) (drop (suc k) sums) summand × IsSummed var (bounds_at nest k) summand (sum_at sums k) total)
sum-there var k [] sums total h below = absurd (omega arith)
sum-there var zero (bounds ∷ nest) [] total h below = absurd h
sum-there var zero (bounds ∷ nest) (sum ∷ sums) total h below = h
sum-there var (suc k) (bounds ∷ nest) [] total h below =
    let here = sum-there var k nest [] total (subst (λ (ss : List Quotient). IsSumFrom var (drop k nest) ss total) (sym (nothing k)) h) (omega arith) in
    (here.0, (subst (λ (ss : List Quotient). IsSumFrom (suc var) (drop (suc k) nest) ss here.0) (nothing (suc k)) here.1.0, here.1.1)) where
      nothing : (n : ℕ) → drop {A = Quotient} n [] ≡ []
      nothing zero = refl
      nothing (suc n) = refl
sum-there var (suc k) (bounds ∷ nest) (sum ∷ sums) total h below = sum-there var k nest sums total h (omega arith)

module _ (params : ℕ) (nest : List (AffineForm × AffineForm)) (sums : List Quotient) (place : List Step) (key : List ℕ) where
  -- the claims of a variable whose sum is right
  pub sum-holds : (k : ℕ) (total : Quotient) → k < length nest → IsSumFrom (params + k) (drop k nest) (drop k sums) total → AllHold (sum_claims params nest sums place key k)
  sum-holds k total below h =
      let here = sum-there (params + k) k nest sums total h below in (
        (here.1.1.antidifference.difference, here.1.1.antidifference.backward),
        ((here.0, (here.1.0, here.1.1.antidifference)), ((total, h), tt)),
      )

  -- those of the variables before one
  sums-hold : (k : ℕ) (total : Quotient) → k ≤ length nest → IsSumFrom params nest sums total → AllHold (sums_down params nest sums place key k)
  sums-hold zero total le h = tt
  sums-hold (suc k) total le h =
      let here = sums-at params k nest sums total h (omega arith) in
      AllHold-append (sum_claims params nest sums place key k) (sums_down params nest sums place key k) (sum-holds k here.0 (omega arith) here.1) (sums-hold k total (omega arith) h)

  -- the sum from the first variable on, where all claims hold
  first-total : (k : ℕ) → AllHold (sums_down params nest sums place key (suc k)) → (total : Quotient) × IsSumFrom params nest sums total
  first-total zero h = (h.1.1.0.0, subst (λ (n : ℕ). IsSumFrom n nest sums h.1.1.0.0) (add-zero params) h.1.1.0.1)
  first-total (suc k) h = first-total k (AllHold-right (sum_claims params nest sums place key (suc k)) (sums_down params nest sums place key (suc k)) h)

  -- the claim that a fault breaks
  pub sum-fails : (k : ℕ) (summand : Quotient) (fault : SumFault) → k < length nest → IsSumFrom (suc (params + k)) (drop (suc k) nest) (drop (suc k) sums) summand
      → IsLegal (sum_at sums k) → fault ≢ Memory → FailsAs (params + k) (bounds_at nest k) summand (sum_at sums k) fault
      → FirstFails (sum_claims params nest sums place key k) (record { condition = condition_of fault; place = member_place place key k })
  sum-fails k summand Wide below behind legal not (inl passes) =
      inl (λ has. difference-stays (params + k) (sum_at sums k) has.0 legal has.1 passes, refl, refl)
  sum-fails k summand Wide below behind legal not (inr passes) =
      inr ((passes.0.difference, passes.0.backward), inr ((summand, (behind, passes.0)), inl (λ has. stays has.0 (sum-there (params + k) k nest sums has.0 has.1 below).1.1, refl, refl))) where
        stays : (total : Quotient) {s : Quotient} → IsSummed (params + k) (bounds_at nest k) s (sum_at sums k) total → ⊥
        stays total is = between-stays (params + k) (bounds_at nest k) (sum_at sums k) total legal is.between passes.1
  sum-fails k summand Differs below behind legal not fails =
      inr (
        (fails.difference, fails.backward),
        inl (
          λ has.
              antidifference-stays (params + k) has.0 summand (sum_at sums k) legal (positive-from (suc (params + k)) (drop (suc k) nest) (drop (suc k) sums) has.0 has.1.0)
              (equal-values has.0 summand (sums-same (suc (params + k)) (drop (suc k) nest) (drop (suc k) sums) has.0 summand has.1.0 behind)) has.1.1 fails,
          refl,
          refl,
        ),
      )
  sum-fails k summand Memory below behind legal not fails = absurd (not refl)

pub sums-give : (params : ℕ) (nest : List (AffineForm × AffineForm)) (sums : List Quotient) (place : List Step) (key : List ℕ)
    → AllHold (sums_down params nest sums place key (length nest)) → (total : Quotient) × IsSumFrom params nest sums total
sums-give params [] sums place key h = (one, refl)
sums-give params (bounds ∷ nest) sums place key h = first-total params (bounds ∷ nest) sums place key (length nest) h

-- the ranges that are claimed to be whole
pub ranges-hold : (program : AffineProgram) (nest : List (AffineForm × AffineForm)) (shown : List FarkasMultipliers) (place : List Step)
    → AreShownBelow program nest shown (length nest) → AllHold (numbered (range_claim program nest shown place) 0 nest)
ranges-hold program nest shown place h =
    numbered-hold (range_claim program nest shown place) nest (λ k d below. (
      subst (λ (b : AffineForm × AffineForm). ShowsRange program (take k nest) b (multipliers_at shown k)) (get_or_default nest k (bounds_at [] 0) d below) (h k below),
      tt,
    ))

pub ranges-shown : (program : AffineProgram) (nest : List (AffineForm × AffineForm)) (shown : List FarkasMultipliers) (place : List Step)
    → AllHold (numbered (range_claim program nest shown place) 0 nest) → AreShownBelow program nest shown (length nest)
ranges-shown program nest shown place h = λ k below. (numbered-member (range_claim program nest shown place) nest k (bounds_at [] 0) below h).0

module _ (program : AffineProgram) (nest : List (AffineForm × AffineForm)) (claims : SumClaims) (place : List Step) where
  abbrev params : ℕ
  params = length program.parameters

  abbrev ranges : List Claim
  ranges = numbered (range_claim program nest claims.shown place) 0 nest

  abbrev sums : List Claim
  sums = sums_down params nest claims.sums place (codes "sums") (length nest)

  -- Where the claims of a count hold, they give one.
  pub claims-count : AllHold (count_claims program nest claims place) → (total : Quotient) × IsCount program nest claims total
  claims-count h =
      let given = sums-give params nest claims.sums place (codes "sums") (AllHold-right ranges sums h) in
      (given.0, record { shown = ranges-shown program nest claims.shown place (AllHold-left ranges sums h); sums = given.1 })

  -- They hold where they give one.
  pub count-claims : (total : Quotient) → IsCount program nest claims total → AllHold (count_claims program nest claims place)
  count-claims total is =
      AllHold-append ranges sums (ranges-hold program nest claims.shown place is.shown) (sums-hold params nest claims.sums place (codes "sums") (length nest) total (omega arith) is.sums)
