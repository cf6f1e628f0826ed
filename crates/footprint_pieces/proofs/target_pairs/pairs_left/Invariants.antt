use Rattle.std.proofs.Common.{◌≡◌, ◌+◌, length, map, drop}
use Rattle.footprint_pieces.specs.TargetPairs.{items_of, same_in_lists}
use Rattle.footprint_pieces.proofs.target_pairs.pairs_left.Given as goal

abbrev pub invariant-loop-others : goal.invariant-loop-others
invariant-loop-others l = l.left + length (same_in_lists l.targets (map items_of l.lists)) ≡ l.many + length (same_in_lists l.targets (map items_of (drop l.others-index l.lists)))
