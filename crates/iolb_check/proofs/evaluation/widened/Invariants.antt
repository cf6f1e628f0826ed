use Rattle.std.proofs.Common.{◌≡◌, take, length}
use Rattle.iolb_check.proofs.evaluation.widened.Given as goal

abbrev pub invariant-loop-i : goal.invariant-loop-i
invariant-loop-i l = record { full : length l.point ≡ 24; same : take l.i l.point ≡ take l.i l.sizes }
