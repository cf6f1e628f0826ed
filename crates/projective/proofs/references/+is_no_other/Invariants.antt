use Rattle.std.proofs.Common.{length}
use Rattle.projective.proofs.references.+is_no_other.Given as goal

abbrev pub decreases-is_no_other : goal.decreases-is_no_other
decreases-is_no_other l = length l.others.now
