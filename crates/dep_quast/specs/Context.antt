-- The systems in which a leaf's claims are shown. The variables are the parameters and the loop values of the reading
-- statement, and then those of a writer.
use Rattle.std.specs.Prelude.{ℕ, ◌+◌, pos, negsuc, List, [], ◌++◌, map, flat_map, length}
use Rattle.iolb_model.specs.Form.{AffineForm}
use Rattle.iolb_model.specs.Program.{Access, AffineProgram, statement_at, read_at}
use Rattle.iolb_model.specs.Order.{common_loops}
use Rattle.affine_form.specs.System.{AffineSystem}
use Rattle.affine_form.specs.Rows.{widened, variables_from, difference, equality_rows, put_in, order_rows}
use Rattle.affine_program.specs.Domain.{depth_of, domain_of, domain_rows}
use Rattle.dep_quast.specs.Tree.{SourceClaim}
use Rattle.dep_quast.specs.Levels.{levels, writers}

-- a read of a program: the statement's number, and the read's
pub record ReadOf : Type 0 where
  pub statement : ℕ
  pub read : ℕ

-- the reference that is read
abbrev pub reference_of : AffineProgram → ReadOf → Access
reference_of program reader = read_at program reader.statement reader.read

-- how many variables there are at the reader
abbrev pub variables_at : AffineProgram → ReadOf → ℕ
variables_at program reader = length program.parameters + depth_of program reader.statement

-- the row of a test on the side where the form is at most -1
abbrev pub no_row : ℕ → AffineForm → AffineForm
no_row vars form = difference vars (record { coefficients = []; constant = pos 0 }) form (negsuc 0)

-- the rows of a leaf: the assumptions, the domain of the reading statement, and the tests on the way to the leaf
abbrev pub context : AffineProgram → ReadOf → List AffineForm → List AffineForm
context program reader tests =
    map (widened (variables_at program reader)) program.assumptions ++ (domain_of program reader.statement).rows ++ tests

-- the variables of the parameters and of the reader's loop values, of all so many
abbrev pub reader_point : AffineProgram → ReadOf → ℕ → List AffineForm
reader_point program reader vars = variables_from vars 0 (variables_at program reader)

-- the variables of the parameters, those of the reader's loop values, and those of a writer's, of all so many
abbrev pub parameter_point : AffineProgram → ℕ → List AffineForm
parameter_point program vars = variables_from vars 0 (length program.parameters)

abbrev pub reader_values : AffineProgram → ReadOf → ℕ → List AffineForm
reader_values program reader vars = variables_from vars (length program.parameters) (depth_of program reader.statement)

abbrev pub writer_values : AffineProgram → ReadOf → ℕ → ℕ → List AffineForm
writer_values program reader writer vars = variables_from vars (variables_at program reader) (depth_of program writer)

-- how many variables there are with a writer's
abbrev pub variables_with : AffineProgram → ReadOf → ℕ → ℕ
variables_with program reader writer = variables_at program reader + depth_of program writer

-- the rows of a write by another statement of the cell that is read: those given, the writer's domain, and that
-- the cells are one
abbrev pub write_rows : AffineProgram → ReadOf → List AffineForm → ℕ → List AffineForm
write_rows program reader rows writer =
    let vars = variables_with program reader writer in
    let params = parameter_point program vars in
    let values = writer_values program reader writer vars in
    map (widened vars) rows ++ domain_rows program writer vars params values
    ++ equality_rows vars (put_in (params ++ values) (statement_at program writer).writes.subscripts)
    (put_in (reader_point program reader vars) (reference_of program reader).subscripts)

-- the system of rows about a writer, with those which say that it comes before the reader at a level
abbrev pub before_reader : AffineProgram → ReadOf → ℕ → List AffineForm → ℕ → AffineSystem
before_reader program reader writer rows level = let vars = variables_with program reader writer in record {
  vars = vars;
  rows = rows ++ order_rows vars (common_loops program writer reader.statement) level (writer_values program reader writer vars) (reader_values program reader vars);
}

-- rows about a writer, and those which say that it comes after the source at a level
abbrev pub after_source : AffineProgram → ReadOf → ℕ → List AffineForm → SourceClaim → ℕ → List AffineForm
after_source program reader writer rows claim level = let vars = variables_with program reader writer in
    rows ++ order_rows vars (common_loops program claim.statement writer) level claim.point (writer_values program reader writer vars)

-- an earlier write of the cell: it comes before the reader at a level
abbrev pub earlier_write : AffineProgram → ReadOf → List AffineForm → ℕ → ℕ → AffineSystem
earlier_write program reader rows writer level = before_reader program reader writer (write_rows program reader rows writer) level

-- the earlier writes: for each writer of the array, ascending, those at each level, ascending
abbrev pub earlier_writes : AffineProgram → ReadOf → List AffineForm → List AffineSystem
earlier_writes program reader rows =
    flat_map (λ writer. map (earlier_write program reader rows writer) (levels program writer reader.statement))
    (writers program (reference_of program reader).array)

-- a write of the cell between: it comes after the source at a level, and before the reader at a level
abbrev pub write_between : AffineProgram → ReadOf → List AffineForm → SourceClaim → ℕ → ℕ → ℕ → AffineSystem
write_between program reader rows claim writer after level =
    before_reader program reader writer (after_source program reader writer (write_rows program reader rows writer) claim after) level

-- the writes between: for each writer of the array, ascending, those at each level after the source and each level
-- before the reader, ascending
abbrev pub writes_between : AffineProgram → ReadOf → List AffineForm → SourceClaim → List AffineSystem
writes_between program reader rows claim =
    flat_map (λ writer. flat_map (λ after. map (write_between program reader rows claim writer after) (levels program writer reader.statement)) (levels program claim.statement writer))
    (writers program (reference_of program reader).array)
