use Rattle.std.proofs.Common.{◌≡◌, ◌+◌, length, map, drop}
use Rattle.footprint_pieces.specs.TargetPairs.{items_of, pairwise_targets}
use Rattle.footprint_pieces.proofs.target_pairs.left_of_lists.Given as goal

abbrev pub invariant-loop-i : goal.invariant-loop-i
invariant-loop-i l = l.left + length (pairwise_targets (map items_of l.lists)) ≡ l.many + length (pairwise_targets (map items_of (drop l.i l.lists)))
