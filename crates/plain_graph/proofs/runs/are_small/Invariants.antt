use Rattle.std.proofs.Common.{take}
use Rattle.std.specs.List.{AllByRecursion}
use Rattle.affine_form.specs.Form.{IsSmall}
use Rattle.plain_graph.proofs.runs.are_small.Given as goal
use Rattle.iolb_model.specs.declared.limits.TheConstants.{VALUE_SIZE}

abbrev pub invariant-loop-value : goal.invariant-loop-value
invariant-loop-value l = AllByRecursion (IsSmall VALUE_SIZE) (take l.value-index l.point)
