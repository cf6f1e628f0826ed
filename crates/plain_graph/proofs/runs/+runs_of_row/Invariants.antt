use Rattle.std.proofs.Common.{◌≡◌, ◌++◌, ◌∷◌, [], ◌+◌, map, drop}
use Rattle.std.specs.Prelude.{flat_map}
use Rattle.iolb_model.specs.Execution.{at_value, row_runs}
use Rattle.affine_program.specs.Tree.{row_of}
use Rattle.plain_graph.specs.Views.{instance_of}
use Rattle.plain_graph.proofs.runs.+runs_of_row.Given as goal

abbrev pub invariant-loop-value : goal.invariant-loop-value
invariant-loop-value l =
    map instance_of l.runs.items ++ (flat_map (λ value. map (at_value value) (row_runs (row_of l.body.items) (l.point ++ value ∷ []))) (drop l.value-index l.value-items)
    ++ row_runs (row_of (drop (l.item-index + 1) l.row)) l.point) ≡ row_runs (row_of l.row) l.point

abbrev pub invariant-loop-item : goal.invariant-loop-item
invariant-loop-item l = map instance_of l.runs.items ++ row_runs (row_of (drop l.item-index l.row)) l.point ≡ row_runs (row_of l.row) l.point
