use Rattle.std.proofs.Common.{ℕ, ◌<◌}
use Rattle.claims.specs.Claims.{AllHold}
use Rattle.joint_partition.specs.Claims.{cover_claim}
use Rattle.joint_partition.specs.View.{joint_of}
use Rattle.joint_partition.proofs.cover_shown.cover_shown.Given as goal

abbrev pub invariant-loop-i : goal.invariant-loop-i
invariant-loop-i l = (k : ℕ) → k < l.i → AllHold (cover_claim l.place (joint_of l.term) k)
