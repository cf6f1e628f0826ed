use Rattle.std.proofs.Common.{◌≡◌, ◌++◌, map, length, drop}
use Rattle.std.specs.Prelude.{flat_map}
use Rattle.std.specs.List.{AllByRecursion}
use Rattle.iolb_model.specs.Program.{AffineProgram, RowFits}
use Rattle.iolb_model.specs.Execution.{row_runs}
use Rattle.affine_form.specs.Form.{IsSmall}
use Rattle.affine_program.specs.Tree.{item_of, row_of}
use Rattle.loop_graph.specs.Turns.{row_turns}
use Rattle.loop_graph.specs.Values.{values_left}
use Rattle.loop_graph.specs.Runs.{with_point, run_of}
use Rattle.loop_graph.proofs.Walks.{loop_points, turns_at, item_size, row_size}
use Rattle.iolb_model.specs.declared.limits.TheConstants.{VALUE_SIZE}
use Rattle.loop_graph.proofs.listed.+walk.Given as goal

abbrev pub invariant-push_item-loop-value : goal.invariant-push_item-loop-value
invariant-push_item-loop-value l = record {
  runs : map run_of l.runs.items ++ loop_points (row_of l.body.items) l.point (values_left l.values)
      ≡ map run_of l.fn.runs.items ++ loop_points (row_of l.body.items) l.point (values_left l.initial.values);
  turns : AllByRecursion (IsSmall VALUE_SIZE) (flat_map (turns_at (row_of l.body.items) l.point) (values_left l.values));
}

abbrev pub decreases-push_item-loop-value : goal.decreases-push_item-loop-value
decreases-push_item-loop-value l = length (values_left l.values)

abbrev pub invariant-push_row-loop-item : goal.invariant-push_row-loop-item
invariant-push_row-loop-item l = record {
  runs : map run_of l.runs.items ++ map (with_point l.point) (row_runs (row_of (drop l.item-index l.row)) l.point)
      ≡ map run_of l.fn.runs.items ++ map (with_point l.point) (row_runs (row_of l.row) l.point);
  fits : (program : AffineProgram) × RowFits program (length l.point) (row_of (drop l.item-index l.row));
  turns : AllByRecursion (IsSmall VALUE_SIZE) (row_turns (row_of (drop l.item-index l.row)) l.point);
}

abbrev pub decreases-push_item : goal.decreases-push_item
decreases-push_item l = item_size (item_of l.item.now)

abbrev pub decreases-push_row : goal.decreases-push_row
decreases-push_row l = row_size (row_of l.row.now)
