use Rattle.std.proofs.Common.{◌≡◌, ◌+◌, length, drop}
use Rattle.footprint_pieces.specs.TargetPairs.{same_targets}
use Rattle.footprint_pieces.proofs.target_pairs.left_of.Given as goal

abbrev pub invariant-loop-target : goal.invariant-loop-target
invariant-loop-target l = l.left + length (same_targets l.targets l.others) ≡ l.many + length (same_targets (drop l.target-index l.targets) l.others)
