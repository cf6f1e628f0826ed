use Rattle.std.proofs.Common.{◌≡◌, ◌≤◌, ◌+◌, min, drop}
use Rattle.poly_tree.specs.Expansion.{weight, parts_weight}
use Rattle.poly_tree.specs.Tree.{expansion, parts_of}
use Rattle.poly_tree.proofs.weight.+weight_of.Given as goal
use Rattle.iolb_model.specs.declared.limits.TheConstants.{MEASURE}

abbrev pub invariant-loop-part : goal.invariant-loop-part
invariant-loop-part l =
    (l.sum ≤ MEASURE) × (min (l.sum + parts_weight (parts_of (drop l.part-index l.part-items))) MEASURE ≡ min (weight (expansion l.tree)) MEASURE)
