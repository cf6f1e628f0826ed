use Rattle.std.proofs.Common.{◌≡◌, ◌++◌, drop, map}
use Rattle.reuse_paths.specs.LeafClaims.{claim_of}
use Rattle.iolb_check.specs.PairFit.{stop_targets}
use Rattle.iolb_check.proofs.fit_pairs.targets_at.Given as goal

abbrev pub invariant-loop-i : goal.invariant-loop-i
invariant-loop-i l = l.targets.items ++ stop_targets (drop l.i l.leaves) (map claim_of (drop l.i l.entries)) ≡ stop_targets l.leaves (map claim_of l.entries)
