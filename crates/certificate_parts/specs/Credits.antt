-- The texts of credited nests.
use Rattle.std.specs.Prelude.{◌≡◌, ℕ, List, length, ◌≤◌, map, codes, IfOk}
use Rattle.std.specs.List.{AllByRecursion}
use Rattle.iolb_model.specs.Form.{AffineForm}
use Rattle.iolb_model.specs.Polynomial.{Polynomial}
use Rattle.iolb_model.specs.declared.limits.TheConstants.{CREDITS}
use Rattle.affine_form.specs.Multipliers.{FarkasMultipliers}
use Rattle.domain_count.specs.Claims.{SumClaims}
use Rattle.certificate_fit.specs.Limits.{NameRows}
use Rattle.reuse_paths.specs.Families.{CreditedNest, credit_of}
use Rattle.reuse_paths.specs.declared.family.Credit.{Credit}
use Rattle.serde_json.specs.Data.{Data}
use Rattle.json_parts.specs.Fields.{Fields, no_fields, field, object_shape}
use Rattle.json_parts.specs.Outcome.{Outcome}
use Rattle.json_parts.specs.Related.{AreAll}
use Rattle.json_parts.specs.Shape.{Shape, natural_shape, list_shape, few_shape, made_shape}
use Rattle.certificate_parts.specs.Multipliers.{all_multipliers_shape}
use Rattle.certificate_parts.specs.Nests.{nest_shape, IsSmallNest}
use Rattle.certificate_parts.specs.Polynomials.{ArePolynomials, IsSmallWritten, written_polynomial, polynomial_shape}

-- a credited nest, and what is claimed of how many points it has, its polynomials as they are written
pub record WrittenCredit : Type 0 where
  pub nest : CreditedNest
  pub shown : List FarkasMultipliers
  pub sums : List Polynomial

abbrev pub CreditMembers : Type 0
CreditMembers = List (AffineForm × AffineForm) × (List FarkasMultipliers × (ℕ × (List Polynomial × Unit {0})))

abbrev pub credit_fields : Fields CreditMembers
credit_fields =
    field (codes "nest") nest_shape
    (field (codes "shown") all_multipliers_shape
    (field (codes "statement") (natural_shape 0 65535)
    (field (codes "sums") (list_shape polynomial_shape)
    no_fields)))

abbrev pub credit_made : CreditMembers → WrittenCredit
credit_made b = record { nest = record { statement = b.1.1.0; nest = b.0 }; shown = b.1.0; sums = b.1.1.1.0 }

abbrev pub credit_parts : WrittenCredit → CreditMembers
credit_parts credit = (credit.nest.nest, (credit.shown, (credit.nest.statement, (credit.sums, tt))))

-- a credited nest as it is written is within its limits
pub record IsSmallWrittenCredit (written : WrittenCredit) : Type 0 where
  pub nest : IsSmallNest written.nest.nest
  pub shown : NameRows written.shown
  pub sums : AllByRecursion IsSmallWritten written.sums

unfoldable pub credit_shape : Shape WrittenCredit
credit_shape = made_shape (object_shape credit_fields) credit_made credit_parts IsSmallWrittenCredit (λ b small. record { nest = small.0; shown = small.1.0; sums = small.1.1.1.0 })

-- at most four credited nests
abbrev pub credits_shape : Shape (List WrittenCredit)
credits_shape = few_shape CREDITS credit_shape

abbrev pub credit_data : WrittenCredit → Data
credit_data = credit_shape.data_of

abbrev pub credits_data : List WrittenCredit → Data
credits_data = credits_shape.data_of

-- this nest with these claims is the one that is written
pub record IsCredited (written : WrittenCredit) (credited : CreditedNest) (claims : SumClaims) : Type 0 where
  pub nest : credited ≡ written.nest
  pub shown : claims.shown ≡ written.shown
  pub sums : ArePolynomials written.sums claims.sums

-- what the code holds is what is written
abbrev pub IsCredit : WrittenCredit → Credit → Type 0
IsCredit written credit = IsCredited written (credit_of credit) credit.sums

-- a credited nest, by the terms of its polynomials in the order in which they are printed
abbrev pub written_credit : Credit → WrittenCredit
written_credit credit = record { nest = credit_of credit; shown = credit.sums.shown; sums = map written_polynomial credit.sums.sums }
