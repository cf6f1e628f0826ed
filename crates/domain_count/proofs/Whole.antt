-- A check of a count, from its two parts.
use Rattle.std.proofs.Common.{◌≡◌, ℕ, List, length}
use Rattle.std.proofs.Math.Path.{transport}
use Rattle.std.specs.Prelude.{Result, Ok, Err, IfOk, IfErr, OnOk, codes}
use Rattle.iolb_model.specs.Form.{AffineForm}
use Rattle.iolb_model.specs.Program.{AffineProgram, IsWellFormed}
use Rattle.affine_form.specs.Multipliers.{FarkasMultipliers}
use Rattle.affine_form.specs.Rows.{BoundsFit}
use Rattle.claims.specs.Claims.{Claim, AllHold, IsRefusal, numbered}
use Rattle.claims.specs.declared.place.Step.{Step}
use Rattle.claims.specs.declared.refused.Refused.{Refused}
use Rattle.claims.proofs.Found.{refused-first, refused-later}
use Rattle.claims.proofs.Laws.{AllHold-append}
use Rattle.poly_tree.specs.Poly.{Quotient}
use Rattle.domain_count.specs.Claims.{SumClaims}
use Rattle.domain_count.specs.Count.{CountsPoints, IsCount, IsSumFrom}
use Rattle.domain_count.specs.CountClaims.{count_claims, range_claim, sums_down}
use Rattle.domain_count.proofs.Claimed.{ranges-shown}
use Rattle.domain_count.proofs.Counting.{right-claims-count}

-- the ranges' part, of what was read of a nest and its claims
module _ (program : AffineProgram) (nest bounds : List (AffineForm × AffineForm)) (claims : SumClaims) (shown : List FarkasMultipliers) (place : List Step) (same : bounds ≡ nest) (same_shown : shown ≡ claims.shown) where
  abbrev of_nest : List Claim
  of_nest = numbered (range_claim program nest claims.shown place) 0 nest

  pub ranges-hold : AllHold (numbered (range_claim program bounds shown place) 0 bounds) → AllHold of_nest
  ranges-hold h = transport (λ i. AllHold (numbered (range_claim program (same i) (same_shown i) place) 0 (same i))) h

  pub ranges-refused : (r : Refused) → IsRefusal (numbered (range_claim program bounds shown place) 0 bounds) r → IsRefusal (count_claims program nest claims place) r
  ranges-refused r h =
      refused-first of_nest (sums_down (length program.parameters) nest claims.sums place (codes "sums") (length nest)) r
      (transport (λ i. IsRefusal (numbered (range_claim program (same i) (same_shown i) place) 0 (same i)) r) h)

-- what is known of the sums' part where the ranges hold
module _ (program : AffineProgram) (nest others : List (AffineForm × AffineForm)) (claims : SumClaims) (sums : List Quotient) (params : ℕ) (place : List Step)
    (same : others ≡ nest) (same_sums : sums ≡ claims.sums) (many : params ≡ length program.parameters)
    (holding : AllHold (numbered (range_claim program nest claims.shown place) 0 nest)) where
  abbrev ranges : List Claim
  ranges = numbered (range_claim program nest claims.shown place) 0 nest

  abbrev summed : List Claim
  summed = sums_down (length program.parameters) nest claims.sums place (codes "sums") (length nest)

  pub count-right : (r : Result Quotient Refused) → IfOk r (λ total. IsSumFrom params others sums total) → IfOk r (λ total. IsCount program nest claims total)
  count-right (Ok total) h = record {
    shown = ranges-shown program nest claims.shown place holding;
    sums = transport (λ i. IsSumFrom (many i) (same i) (same_sums i) total) h;
  }
  count-right (Err refused) h = tt

  pub count-holds : (r : Result Quotient Refused) → OnOk r (AllHold (sums_down params others sums place (codes "sums") (length others))) → OnOk r (AllHold (count_claims program nest claims place))
  count-holds (Ok total) h =
      AllHold-append ranges summed holding (transport (λ i. AllHold (sums_down (many i) (same i) (same_sums i) place (codes "sums") (length (same i)))) h)
  count-holds (Err refused) h = tt

  pub count-refused : (r : Result Quotient Refused) → IfErr r (λ refused. IsRefusal (sums_down params others sums place (codes "sums") (length others)) refused)
      → IfErr r (λ refused. IsRefusal (count_claims program nest claims place) refused)
  count-refused (Ok total) h = tt
  count-refused (Err r) h = refused-later ranges summed r holding (transport (λ i. IsRefusal (sums_down (many i) (same i) (same_sums i) place (codes "sums") (length (same i))) r) h)

-- what is right counts the points
pub count-counts : (program : AffineProgram) (nest : List (AffineForm × AffineForm)) (claims : SumClaims) (r : Result Quotient Refused) → IsWellFormed program
    → BoundsFit (length program.parameters) nest → IfOk r (λ total. IsCount program nest claims total) → IfOk r (λ total. CountsPoints program nest total)
count-counts program nest claims (Ok total) formed fit h = right-claims-count program nest claims total formed fit h
count-counts program nest claims (Err refused) formed fit h = tt
