use Rattle.std.proofs.Common.{length}
use Rattle.projective.proofs.references.+are_loops.Given as goal

abbrev pub decreases-are_loops : goal.decreases-are_loops
decreases-are_loops l = length l.forms.now
