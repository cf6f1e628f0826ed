use Rattle.std.proofs.Common.{◌≡◌, drop}
use Rattle.iolb_model.specs.Order.{row_common}
use Rattle.affine_program.specs.Tree.{row_of}
use Rattle.affine_program.proofs.well_formed.+runs.Given as goal

abbrev pub invariant-loop-item : goal.invariant-loop-item
invariant-loop-item l = row_common (row_of (drop l.item-index l.items)) l.number l.number ≡ row_common (row_of l.fn.items) l.number l.number
