use Rattle.std.proofs.Common.{ℕ, ◌<◌}
use Rattle.claims.specs.Claims.{AllHold}
use Rattle.k_partition.specs.PartitionClaims.{cover_claim}
use Rattle.k_partition.specs.View.{partition_of}
use Rattle.k_partition.proofs.cover_shown.cover_shown.Given as goal

abbrev pub invariant-loop-i : goal.invariant-loop-i
invariant-loop-i l = (k : ℕ) → k < l.i → AllHold (cover_claim l.place (partition_of l.term) k)
