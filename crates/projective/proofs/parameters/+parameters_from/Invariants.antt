use Rattle.std.proofs.Common.{length}
use Rattle.projective.proofs.parameters.+parameters_from.Given as goal

abbrev pub decreases-parameters_from : goal.decreases-parameters_from
decreases-parameters_from l = length l.bounds.now
