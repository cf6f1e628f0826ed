use Rattle.std.proofs.Common.{◌≡◌, ℕ, take, map}
use Rattle.std.specs.List.{AllByRecursion, enumerate_from}
use Rattle.iolb_model.specs.Order.{row_common}
use Rattle.affine_program.specs.declared.statement.Statement.{Statement}
use Rattle.affine_form.specs.Rows.{direction_of}
use Rattle.affine_program.specs.Tree.{row_of}
use Rattle.affine_program.proofs.well_formed.all_run.Given as goal

abbrev pub invariant-loop-number : goal.invariant-loop-number
invariant-loop-number l =
    AllByRecursion (λ (placed : ℕ × Statement). row_common (row_of l.draft.tree.items) placed.0 placed.0 ≡ map direction_of placed.1.down.items) (enumerate_from 0 (take l.number l.statement-items))
