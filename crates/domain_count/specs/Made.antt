-- What a count is made of, and how it can't be.
use Rattle.std.specs.Prelude.{◌≡◌, ◌⊎◌, ℕ, List, length, codes}
use Rattle.iolb_model.specs.Form.{AffineForm}
use Rattle.iolb_model.specs.Program.{AffineProgram}
use Rattle.claims.specs.Claims.{FirstFails}
use Rattle.claims.specs.declared.place.Step.{Step}
use Rattle.claims.specs.declared.refused.FailedCondition.{FailedCondition}
use Rattle.poly_tree.specs.Poly.{Quotient}
use Rattle.domain_count.specs.CountClaims.{sums_claims}
use Rattle.domain_count.specs.Summing.{AreSummed, SummationPasses}

-- the polynomials are those of the summation
abbrev pub AreMade : ℕ → List (AffineForm × AffineForm) → List Quotient → Type 0
AreMade params nest sums = (total : Quotient) × AreSummed params nest sums total

-- An operation of the summation passes its limit; or its polynomials are made, and of the claims that are tested of them the
-- first that fails is that an operation has its measure within the limits (condition 2).
abbrev pub CheckPasses : AffineProgram → List (AffineForm × AffineForm) → Type 0
CheckPasses program nest =
    SummationPasses (length program.parameters) nest
    ⊎ ((sums : List Quotient) × (place : List Step) × (failed : FailedCondition) × (AreMade (length program.parameters) nest sums × FirstFails (sums_claims program nest sums place (codes "sums")) failed × (failed.condition ≡ 2)))
