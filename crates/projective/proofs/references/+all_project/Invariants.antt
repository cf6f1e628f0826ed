use Rattle.std.proofs.Common.{length}
use Rattle.projective.proofs.references.+all_project.Given as goal

abbrev pub decreases-all_project : goal.decreases-all_project
decreases-all_project l = length l.others.now
