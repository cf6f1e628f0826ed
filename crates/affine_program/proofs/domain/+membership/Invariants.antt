use Rattle.std.proofs.Common.{◌≡◌, drop}
use Rattle.std.specs.Prelude.{is_some}
use Rattle.iolb_model.specs.Path.{row_path}
use Rattle.affine_program.specs.Tree.{row_of}
use Rattle.affine_program.proofs.domain.+membership.Given as goal

abbrev pub invariant-has_in-loop-item : goal.invariant-has_in-loop-item
invariant-has_in-loop-item l = is_some (row_path (row_of (drop l.item-index l.items)) l.statement) ≡ is_some (row_path (row_of l.fn.items) l.statement)
