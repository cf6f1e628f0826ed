-- What is claimed of a nest's number of points.
use Rattle.std.specs.Prelude.{◌≡◌, ◌≤◌, List, length}
use Rattle.iolb_model.specs.Form.{AffineForm}
use Rattle.affine_form.specs.Multipliers.{FarkasMultipliers}
use Rattle.affine_form.specs.Rows.{BoundsFit}
use Rattle.affine_program.specs.Parts.{ProgramParts}
use Rattle.poly_tree.specs.Poly.{Quotient}
use Rattle.iolb_model.specs.declared.limits.TheConstants.{NEST_VARIABLES}

-- for each variable multipliers, which are to show that its range is whole, and a polynomial, which is to be an
-- antidifference of what the variables behind it count
pub record SumClaims : Type 0 where
  pub shown : List FarkasMultipliers
  pub sums : List Quotient

-- The lengths fit: at most 6 variables, whose bounds are over the parameters and the variables before, and as many
-- multipliers and polynomials.
pub record FitsCount (program : ProgramParts) (nest : List (AffineForm × AffineForm)) (claims : SumClaims) : Type 0 where
  pub few : length nest ≤ NEST_VARIABLES
  pub bounds : BoundsFit (length program.params) nest
  pub shown : length claims.shown ≡ length nest
  pub sums : length claims.sums ≡ length nest
