-- Instances with the values of the variables of their forms.
use Rattle.std.specs.Prelude.{◌≡◌, ℕ, suc, ◌+◌, ◌≤◌, ℤ, List, ◌++◌, length}
use Rattle.std.specs.List.{AllByRecursion}
use Rattle.iolb_model.specs.Program.{AffineProgram}
use Rattle.iolb_model.specs.Execution.{Instance}
use Rattle.affine_form.specs.Form.{IsSmall}
use Rattle.affine_program.specs.Domain.{depth_of}
use Rattle.loop_graph.specs.declared.listed.Run.{Run}
use Rattle.iolb_model.specs.declared.limits.TheConstants.{VALUE_SIZE}

-- an instance by its statement, with the parameters' values and those of its loops
abbrev pub with_point : List ℤ → Instance → ℕ × List ℤ
with_point parameters instance = (instance.statement, parameters ++ instance.values)

abbrev pub run_of : Run → ℕ × List ℤ
run_of run = (run.statement, run.point.items)

-- an instance of a statement of the program, with a value for each parameter and each loop around it, of size below 2^40
pub record IsRun (program : AffineProgram) (run : Run) : Type 0 where
  pub there : suc run.statement ≤ length program.statements
  pub values : length run.point.items ≡ length program.parameters + depth_of program run.statement
  pub small : AllByRecursion (IsSmall VALUE_SIZE) run.point.items
