use Rattle.std.proofs.Common.{length}
use Rattle.projective.proofs.references.+are_first.Given as goal

abbrev pub decreases-are_first : goal.decreases-are_first
decreases-are_first l = length l.others.now
