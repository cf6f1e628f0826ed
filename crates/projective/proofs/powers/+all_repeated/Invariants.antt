use Rattle.std.proofs.Common.{length}
use Rattle.projective.proofs.powers.+all_repeated.Given as goal

abbrev pub decreases-all_repeated : goal.decreases-all_repeated
decreases-all_repeated l = length l.parameters.now
