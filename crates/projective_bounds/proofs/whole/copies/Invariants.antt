use Rattle.std.proofs.Common.{◌≡◌, take}
use Rattle.projective_bounds.proofs.whole.copies.Given as goal

abbrev pub invariant-loop-lower : goal.invariant-loop-lower
invariant-loop-lower l = l.all.items ≡ take l.lower-index l.bounds
