-- From one summation to the next, and to the refusals.
use Rattle.std.proofs.Common.{◌≡◌, sym, ◌∙◌, subst, ap, ℕ, suc, ◌+◌, ◌<◌, ◌≤◌, List, [], ◌∷◌, length, drop, get_or, drop-cons, arith}
use Rattle.std.specs.Prelude.{Result, Ok, Err, IfErr, IsErrAnd}
use Rattle.std.proofs.lemmas.List.{get_or_default}
use Rattle.std.proofs.Math.Nat.{add-suc, add-zero}
use Rattle.iolb_model.specs.Form.{AffineForm}
use Rattle.claims.specs.Claims.{AllHold, Decides, FirstFails, IsRefusal}
use Rattle.claims.specs.declared.place.Step.{Step}
use Rattle.claims.specs.declared.refused.Refused.{Refused}
use Rattle.claims.specs.declared.refused.Refused.TheVariants.{Failed, Memory}
use Rattle.claims.proofs.Found.{decides-later}
use Rattle.claims.proofs.Laws.{first-fails}
use Rattle.poly_tree.specs.Poly.{Quotient, IsLegal}
use Rattle.domain_count.specs.declared.summation.SumFault.{SumFault}
use Rattle.domain_count.specs.Antidifference.{IsSummed, FailsAs}
use Rattle.domain_count.specs.Count.{IsSumFrom, bounds_at, one}
use Rattle.domain_count.specs.CountClaims.{member_place, sum_at, sum_claims, sums_down}
use Rattle.domain_count.specs.Faults.{IsFaultRefusal}
use Rattle.domain_count.proofs.Claimed.{sum-fails, sum-holds}

-- a fault that is handed on
pub fails-through : (var : ℕ) (bounds : AffineForm × AffineForm) (summand sum : Quotient) (r : Result Quotient SumFault) (fault : SumFault) → IsErrAnd r (λ e. e ≡ fault)
    → FailsAs var bounds summand sum fault → IfErr r (λ e. FailsAs var bounds summand sum e)
fails-through var bounds summand sum (Ok total) fault e h = tt
fails-through var bounds summand sum (Err f) fault e h = subst (FailsAs var bounds summand sum) (sym e) h

-- the sums from a variable on, from those behind it and its own
pub sum-step : (params j k : ℕ) (nest : List (AffineForm × AffineForm)) (sums : List Quotient) (b : AffineForm × AffineForm) (s summand total : Quotient) → k ≡ suc j
    → k ≤ length nest → length sums ≡ length nest → b ≡ get_or nest j b → s ≡ get_or sums j s → IsSumFrom (params + k) (drop k nest) (drop k sums) summand
    → IsSummed (params + j) b summand s total → (j ≤ length nest) × IsSumFrom (params + j) (drop j nest) (drop j sums) total
sum-step params j k nest sums b s summand total e within same here there h is =
    let bounds : drop j nest ≡ b ∷ drop (suc j) nest = drop-cons nest j b (omega arith) ∙ ap (λ (x : AffineForm × AffineForm). x ∷ drop (suc j) nest) (sym here) in
    let polys : drop j sums ≡ s ∷ drop (suc j) sums = drop-cons sums j s (omega arith) ∙ ap (λ (x : Quotient). x ∷ drop (suc j) sums) (sym there) in
    let next : IsSumFrom (params + suc j) (drop (suc j) nest) (drop (suc j) sums) summand
    = subst (λ (n : ℕ). IsSumFrom (params + n) (drop n nest) (drop n sums) summand) e h in
    let moved : IsSumFrom (suc (params + j)) (drop (suc j) nest) (drop (suc j) sums) summand
    = subst (λ (n : ℕ). IsSumFrom n (drop (suc j) nest) (drop (suc j) sums) summand) (add-suc params j) next in (
      omega arith,
      subst (λ (ns : List (AffineForm × AffineForm)). IsSumFrom (params + j) ns (drop j sums) total) (sym bounds)
          (subst (λ (ss : List Quotient). IsSumFrom (params + j) (b ∷ drop (suc j) nest) ss total) (sym polys) (summand, (moved, is))),
    )

-- One variable further out: its claims hold, and what decides the claims of those before it decides all.
pub sums-further : (params j k many : ℕ) (nest : List (AffineForm × AffineForm)) (sums : List Quotient) (place : List Step) (key : List ℕ) (total : Quotient) → k ≡ suc j → k ≤ length nest
    → IsSumFrom (params + j) (drop j nest) (drop j sums) total
    → ((answer : Result (Unit {0}) Refused) → Decides (sums_down params nest sums place key k) answer → Decides (sums_down params nest sums place key many) answer)
    → (answer : Result (Unit {0}) Refused) → Decides (sums_down params nest sums place key j) answer → Decides (sums_down params nest sums place key many) answer
sums-further params j k many nest sums place key total e within is whole answer h =
    whole answer (subst (λ (n : ℕ). Decides (sums_down params nest sums place key n) answer) (sym e)
    (decides-later (sum_claims params nest sums place key j) (sums_down params nest sums place key j) answer (sum-holds params nest sums place key j total (omega arith) is) h))

-- the first claim of a sum that fails
pub sum-refused : (params j k many : ℕ) (nest : List (AffineForm × AffineForm)) (sums : List Quotient) (place : List Step) (key : List ℕ) (b : AffineForm × AffineForm) (s summand : Quotient) (fault : SumFault)
    (refused : Refused) → k ≡ suc j → k ≤ length nest → length sums ≡ length nest → b ≡ get_or nest j b → s ≡ get_or sums j s → IsSumFrom (params + k) (drop k nest) (drop k sums) summand
    → ((answer : Result (Unit {0}) Refused) → Decides (sums_down params nest sums place key k) answer → Decides (sums_down params nest sums place key many) answer)
    → IsLegal s → FailsAs (params + j) b summand s fault → IsFaultRefusal (member_place place key j) fault refused → IsRefusal (sums_down params nest sums place key many) refused
sum-refused params j k many nest sums place key b s summand fault Memory e within same here there behind whole legal fails is = tt
sum-refused params j k many nest sums place key b s summand fault (Failed failed) e within same here there behind whole legal fails is =
    let below : j < length nest = omega arith in
    let bounds : b ≡ bounds_at nest j = here ∙ get_or_default nest j b (bounds_at [] 0) below in
    let poly : s ≡ sum_at sums j = there ∙ get_or_default sums j s one (omega arith) in
    let from : IsSumFrom (suc (params + j)) (drop (suc j) nest) (drop (suc j) sums) summand
    = subst (λ (n : ℕ). IsSumFrom n (drop (suc j) nest) (drop (suc j) sums) summand) (add-suc params j)
    (subst (λ (n : ℕ). IsSumFrom (params + n) (drop n nest) (drop n sums) summand) e behind) in
    let breaks : FailsAs (params + j) (bounds_at nest j) summand (sum_at sums j) fault
    = subst (λ (x : AffineForm × AffineForm). FailsAs (params + j) x summand (sum_at sums j) fault) bounds
    (subst (λ (q : Quotient). FailsAs (params + j) b summand q fault) poly fails) in
    let first = sum-fails params nest sums place key j summand fault below from (subst IsLegal poly legal) is.0 breaks in
    whole (Err (Failed failed)) (subst (λ (n : ℕ). FirstFails (sums_down params nest sums place key n) failed) (sym e)
    (first-fails (sum_claims params nest sums place key j) (sums_down params nest sums place key j) failed
    (subst (FirstFails (sum_claims params nest sums place key j)) (sym is.1) first)))

-- all claims hold where none is left
pub sums-ended : (params k many : ℕ) (nest : List (AffineForm × AffineForm)) (sums : List Quotient) (place : List Step) (key : List ℕ) → k ≡ 0
    → ((answer : Result (Unit {0}) Refused) → Decides (sums_down params nest sums place key k) answer → Decides (sums_down params nest sums place key many) answer)
    → AllHold (sums_down params nest sums place key many)
sums-ended params k many nest sums place key e whole = whole (Ok tt) (subst (λ (n : ℕ). AllHold (sums_down params nest sums place key n)) (sym e) tt)

pub sum-ended : (params k : ℕ) (nest : List (AffineForm × AffineForm)) (sums : List Quotient) (total : Quotient) → k ≡ 0
    → IsSumFrom (params + k) (drop k nest) (drop k sums) total → IsSumFrom params nest sums total
sum-ended params k nest sums total e h =
    subst (λ (n : ℕ). IsSumFrom n nest sums total) (add-zero params) (subst (λ (n : ℕ). IsSumFrom (params + n) (drop n nest) (drop n sums) total) e h)
