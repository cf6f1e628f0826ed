-- Iteration domains, as systems of rows.
use Rattle.std.specs.Prelude.{ℕ, ◌+◌, ◌*◌, List, [], ◌++◌, map, length, unwrap_or}
use Rattle.iolb_model.specs.Form.{AffineForm}
use Rattle.iolb_model.specs.Path.{PathStep, bounds_on, guards_on, row_path}
use Rattle.iolb_model.specs.Program.{AffineProgram}
use Rattle.affine_form.specs.System.{AffineSystem}
use Rattle.affine_form.specs.Rows.{widened, variables_from, within_rows, guard_rows}

-- the way to a statement, and none to one that isn't there
abbrev pub path_of : AffineProgram → ℕ → List PathStep
path_of program statement = unwrap_or (row_path program.tree statement) []

-- the bounds of the loops around a statement
abbrev pub bounds_at : AffineProgram → ℕ → List (AffineForm × AffineForm)
bounds_at program statement = bounds_on (path_of program statement)

-- how many loops are around a statement
abbrev pub depth_of : AffineProgram → ℕ → ℕ
depth_of program statement = length (bounds_at program statement)

-- the rows of the guards around a statement, read over the parameters and all loops around it
abbrev pub guards_at : AffineProgram → ℕ → List AffineForm
guards_at program statement = map (widened (length program.parameters + depth_of program statement)) (guards_on (path_of program statement))

-- How many rows say that loop values are in a statement's domain: two for each loop, and those of the guards.
abbrev pub domain_size : AffineProgram → ℕ → ℕ
domain_size program statement = 2 * depth_of program statement + length (guards_at program statement)

-- The rows which say that values are in a statement's domain, where the parameters have these forms, over so many variables:
-- `value - lower` and `upper - value` for each loop, then the rows of the guards.
abbrev pub domain_rows : AffineProgram → ℕ → ℕ → List AffineForm → List AffineForm → List AffineForm
domain_rows program statement vars parameters values =
    within_rows vars (bounds_at program statement) parameters values ++ guard_rows vars (guards_at program statement) (parameters ++ values)

-- The domain of a statement, over the parameters and its loop values.
abbrev pub domain_of : AffineProgram → ℕ → AffineSystem
domain_of program statement =
    let params = length program.parameters in let vars = params + depth_of program statement in record {
      vars = vars;
      rows = domain_rows program statement vars (variables_from vars 0 params) (variables_from vars params (depth_of program statement));
    }
