use Rattle.std.proofs.Common.{ℕ, ◌<◌}
use Rattle.claims.specs.Claims.{AllHold}
use Rattle.k_partition.specs.PartitionClaims.{unit_claim}
use Rattle.k_partition.specs.View.{partition_of}
use Rattle.k_partition.proofs.unit_shown.row_shown.Given as goal

abbrev pub invariant-loop-col : goal.invariant-loop-col
invariant-loop-col l = (k : ℕ) → k < l.col → AllHold (unit_claim l.place (partition_of l.term) l.row k)
