-- What makes an output fit a program: its statement is there, its forms are over the parameters and the nest's variables, and
-- each list has the length called for.
use Rattle.std.specs.Prelude.{◌≡◌, ◌*◌, ◌<◌, ◌≤◌, length}
use Rattle.std.specs.List.{AllByRecursion}
use Rattle.iolb_model.specs.Program.{AffineProgram}
use Rattle.affine_form.specs.Rows.{BoundsFit, IsSmallOver}
use Rattle.affine_program.specs.Domain.{depth_of, domain_size}
use Rattle.affine_program.specs.Parts.{ProgramParts, meaning}
use Rattle.domain_count.specs.Claims.{FitsCount}
use Rattle.iolb_model.specs.declared.limits.TheConstants.{NEST_VARIABLES}
use Rattle.store_terms.specs.Claims.{OutputClaim, claim_of_output}
use Rattle.store_terms.specs.declared.output.Output.{Output}
use Rattle.last_writers.specs.OutputClaims.{later_writes, output_variables}

pub record OutputFits (program : AffineProgram) (output : OutputClaim) : Type 0 where
  pub there : output.statement < length program.statements
  pub few : length output.nest ≤ NEST_VARIABLES
  pub bounds : BoundsFit (length program.parameters) output.nest
  pub point : length output.point ≡ depth_of program output.statement
  pub forms : AllByRecursion (IsSmallOver (output_variables program output)) output.point
  pub inside : length output.inside ≡ domain_size program output.statement
  pub rows : output.matrix.rows ≡ length output.nest
  pub columns : (1 ≤ output.matrix.rows) → output.matrix.columns ≡ length output.point
  pub scale : 1 ≤ output.scale
  pub later : length output.later ≡ length (later_writes program output)

-- the output that the code holds, and what is claimed of its number of points
pub record FitsOutput (program : ProgramParts) (output : Output) : Type 0 where
  pub fits : OutputFits (meaning program) (claim_of_output output)
  pub count : FitsCount program output.nest output.sums
