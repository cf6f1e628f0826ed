use Rattle.std.proofs.Common.{length}
use Rattle.projective.proofs.loops.+is_any_below.Given as goal

abbrev pub decreases-is_any_below : goal.decreases-is_any_below
decreases-is_any_below l = length l.forms.now
