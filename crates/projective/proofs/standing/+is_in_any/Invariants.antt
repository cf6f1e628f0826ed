use Rattle.std.proofs.Common.{length}
use Rattle.projective.proofs.standing.+is_in_any.Given as goal

abbrev pub decreases-is_in_any : goal.decreases-is_in_any
decreases-is_in_any l = length l.forms.now
