use Rattle.std.proofs.Common.{ℕ, ◌<◌, length}
use Rattle.claims.specs.Claims.{AllHold, counted}
use Rattle.k_partition.specs.PartitionClaims.{unit_claim}
use Rattle.k_partition.specs.View.{partition_of}
use Rattle.k_partition.proofs.unit_shown.unit_shown.Given as goal

abbrev pub invariant-loop-row : goal.invariant-loop-row
invariant-loop-row l = (k : ℕ) → k < l.row → AllHold (counted (unit_claim l.place (partition_of l.term) k) 0 (length l.term.nest))
