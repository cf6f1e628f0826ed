use Rattle.std.proofs.Common.{length, drop}
use Rattle.std.specs.List.{AllByRecursion}
use Rattle.iolb_model.specs.Program.{AffineProgram, RowFits}
use Rattle.affine_form.specs.Form.{IsSmall}
use Rattle.iolb_model.specs.declared.limits.TheConstants.{VALUE_SIZE}
use Rattle.affine_program.specs.Tree.{item_of, row_of}
use Rattle.loop_graph.specs.Values.{values_left}
use Rattle.loop_graph.proofs.Walks.{item_size, row_size}
use Rattle.loop_graph.proofs.Counting.{RowGoesOn, LoopGoesOn}
use Rattle.loop_graph.proofs.counted.+count.Given as goal

abbrev pub invariant-behind_item-loop-value : goal.invariant-behind_item-loop-value
invariant-behind_item-loop-value l = record {
  counts : LoopGoesOn (row_of l.body.items) l.point (values_left l.initial.values) (values_left l.values) l.left l.fn.room;
  small : AllByRecursion (IsSmall VALUE_SIZE) (values_left l.values);
}

abbrev pub decreases-behind_item-loop-value : goal.decreases-behind_item-loop-value
decreases-behind_item-loop-value l = length (values_left l.values)

abbrev pub invariant-behind_row-loop-item : goal.invariant-behind_row-loop-item
invariant-behind_row-loop-item l = record {
  counts : RowGoesOn l.row l.item-index l.point l.left l.fn.room;
  fits : (program : AffineProgram) × RowFits program (length l.point) (row_of (drop l.item-index l.row));
}

abbrev pub decreases-behind_item : goal.decreases-behind_item
decreases-behind_item l = item_size (item_of l.item.now)

abbrev pub decreases-behind_row : goal.decreases-behind_row
decreases-behind_row l = row_size (row_of l.row.now)
