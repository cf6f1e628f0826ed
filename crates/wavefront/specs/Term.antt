-- Cold terms: for each point of a nest an instance that reads a word which no instance wrote before.
use Rattle.std.specs.Prelude.{ℕ, ◌+◌, List, ◌++◌, length}
use Rattle.iolb_model.specs.Form.{AffineForm}
use Rattle.iolb_model.specs.Program.{AffineProgram}
use Rattle.affine_form.specs.Matrix.{IntegerMatrix}
use Rattle.affine_form.specs.Multipliers.{FarkasMultipliers}
use Rattle.affine_form.specs.System.{AffineSystem}
use Rattle.affine_form.specs.Rows.{variables_from, put_in}
use Rattle.affine_program.specs.Domain.{domain_rows}
use Rattle.reuse_paths.specs.LeafClaims.{LeafClaim}
use Rattle.dep_quast.specs.Context.{ReadOf, reference_of}
use Rattle.domain_count.specs.Claims.{SumClaims}
use Rattle.domain_count.specs.Count.{rows_before}

-- What a cold term claims: the read; the nest and how its points are counted; the loop values of the reading instance, as
-- forms over the parameters and the nest's variables, and that it is in its statement's domain; what is claimed at the
-- leaves of the read's source tree; and a matrix which shows that different points read different cells, where it turns
-- the subscripts back into a number times the nest's variables.
pub record ColdTerm : Type 0 where
  pub reader : ReadOf
  pub nest : List (AffineForm × AffineForm)
  pub count : SumClaims
  pub point : List AffineForm
  pub inside : List FarkasMultipliers
  pub matrix : IntegerMatrix
  pub scale : ℕ
  pub leaves : List LeafClaim

-- how many variables there are: the parameters and the nest's
abbrev pub nest_variables : AffineProgram → ColdTerm → ℕ
nest_variables program term = length program.parameters + length term.nest

-- the rows of a point of the nest: the assumptions, and the bounds of the nest's variables
abbrev pub nest_system : AffineProgram → ColdTerm → AffineSystem
nest_system program term = rows_before program term.nest

-- the parameters and the loop values of the reading instance
abbrev pub instance_point : AffineProgram → ColdTerm → List AffineForm
instance_point program term = variables_from (nest_variables program term) 0 (length program.parameters) ++ term.point

-- the rows which say that the reading instance is in its statement's domain
abbrev pub inside_goals : AffineProgram → ColdTerm → List AffineForm
inside_goals program term =
    domain_rows program term.reader.statement (nest_variables program term)
    (variables_from (nest_variables program term) 0 (length program.parameters)) term.point

-- the cell that it reads
abbrev pub cell_forms : AffineProgram → ColdTerm → List AffineForm
cell_forms program term = put_in (instance_point program term) (reference_of program term.reader).subscripts
