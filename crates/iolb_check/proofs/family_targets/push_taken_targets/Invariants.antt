use Rattle.std.proofs.Common.{◌≡◌, ◌++◌, drop, map}
use Rattle.reuse_paths.specs.LeafClaims.{claim_of}
use Rattle.iolb_check.specs.FamilyTargets.{taken_targets}
use Rattle.iolb_check.proofs.family_targets.push_taken_targets.Given as goal

abbrev pub invariant-loop-i : goal.invariant-loop-i
invariant-loop-i l =
    l.targets.items ++ taken_targets (drop l.i l.leaves) (map claim_of (drop l.i l.entries)) ≡ l.initial.targets.items ++ taken_targets l.leaves (map claim_of l.entries)
