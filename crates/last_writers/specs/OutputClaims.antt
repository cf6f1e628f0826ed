-- What an output claims, in the order in which it is tested.
use Rattle.std.specs.Prelude.{ℕ, ◌+◌, List, [], ◌∷◌, ◌++◌, length, map, flat_map, codes}
use Rattle.iolb_model.specs.Form.{AffineForm}
use Rattle.iolb_model.specs.Program.{AffineProgram, statement_at}
use Rattle.iolb_model.specs.Order.{common_loops}
use Rattle.affine_form.specs.Rows.{equality_rows, order_rows, put_in, variables_from, widened}
use Rattle.affine_form.specs.System.{AffineSystem}
use Rattle.affine_program.specs.Domain.{depth_of, domain_rows}
use Rattle.claims.specs.Claims.{Claim}
use Rattle.claims.specs.Shown.{follow_claims, pointless_claims}
use Rattle.claims.specs.declared.place.Step.{Step}
use Rattle.claims.specs.declared.place.Step.TheVariants.{Key}
use Rattle.dep_quast.specs.Context.{parameter_point}
use Rattle.dep_quast.specs.Levels.{levels, writers}
use Rattle.domain_count.specs.Count.{rows_before}
use Rattle.domain_count.specs.CountClaims.{count_claims}
use Rattle.wavefront.specs.InverseClaims.{inverse_claims}
use Rattle.store_terms.specs.Claims.{OutputClaim}

-- how many variables there are: the parameters and the nest's; and the rows of a point of the nest
abbrev pub output_variables : AffineProgram → OutputClaim → ℕ
output_variables program output = length program.parameters + length output.nest

abbrev pub output_system : AffineProgram → OutputClaim → AffineSystem
output_system program output = rows_before program output.nest

-- ---- that the instances are in their statement's domain (condition 10)

abbrev pub output_goals : AffineProgram → OutputClaim → List AffineForm
output_goals program output =
    let vars = output_variables program output in domain_rows program output.statement vars (parameter_point program vars) output.point

abbrev pub output_inside : AffineProgram → List Step → OutputClaim → List Claim
output_inside program place output = follow_claims 10 (place ++ Key (codes "inside") ∷ []) (output_system program output) 0 (output_goals program output) output.inside

-- ---- that different points have different instances (condition 12)

abbrev pub output_inverse : AffineProgram → List Step → OutputClaim → List Claim
output_inverse program place output = inverse_claims output.matrix output.scale (length program.parameters) (length output.nest) output.point place

-- ---- that no later instance writes the cell (condition 24)

-- how many variables there are with the loop values of a later writer, and these values
abbrev pub variables_with : AffineProgram → OutputClaim → ℕ → ℕ
variables_with program output writer = output_variables program output + depth_of program writer

abbrev pub later_values : AffineProgram → OutputClaim → ℕ → List AffineForm
later_values program output writer = variables_from (variables_with program output writer) (output_variables program output) (depth_of program writer)

-- the cell that an instance of a statement writes, whose loop values are forms over so many variables
abbrev pub written_forms : AffineProgram → ℕ → ℕ → List AffineForm → List AffineForm
written_forms program vars statement values = put_in (parameter_point program vars ++ values) (statement_at program statement).writes.subscripts

-- The rows of a write of the cell by an instance of another statement: those of the nest's point, the writer's domain, and that
-- the cells are one.
abbrev pub write_rows : AffineProgram → OutputClaim → ℕ → List AffineForm
write_rows program output writer =
    let vars = variables_with program output writer in
    let values = later_values program output writer in
    map (widened vars) (output_system program output).rows ++ domain_rows program writer vars (parameter_point program vars) values
    ++ equality_rows vars (written_forms program (output_variables program output) output.statement output.point) (written_forms program vars writer values)

-- with those which say that it comes after the output's instance at a level
abbrev pub later_write : AffineProgram → OutputClaim → ℕ → ℕ → AffineSystem
later_write program output writer level = let vars = variables_with program output writer in record {
  vars = vars;
  rows = write_rows program output writer
      ++ order_rows vars (common_loops program output.statement writer) level output.point (later_values program output writer);
}

-- the later writes: for each writer of the array, ascending, those at each level, ascending
abbrev pub later_writes : AffineProgram → OutputClaim → List AffineSystem
later_writes program output =
    flat_map (λ writer. map (later_write program output writer) (levels program output.statement writer))
    (writers program (statement_at program output.statement).writes.array)

abbrev pub output_later : AffineProgram → List Step → OutputClaim → List Claim
output_later program place output = pointless_claims 24 (place ++ Key (codes "later") ∷ []) 0 (later_writes program output) output.later

-- ---- all

-- what is claimed of the instances, past the count
abbrev pub instance_claims : AffineProgram → List Step → OutputClaim → List Claim
instance_claims program place output = output_inside program place output ++ output_inverse program place output ++ output_later program place output

-- what an output at a place claims: its count (8, 9 and 2), and its instances (10, 12, 24 and 2)
abbrev pub output_claims : AffineProgram → List Step → OutputClaim → List Claim
output_claims program place output = count_claims program output.nest output.count place ++ instance_claims program place output
