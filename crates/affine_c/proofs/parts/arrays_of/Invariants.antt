use Rattle.std.proofs.Common.{◌≡◌, take}
use Rattle.affine_c.proofs.parts.arrays_of.Given as goal

abbrev pub invariant-loop-name : goal.invariant-loop-name
invariant-loop-name l = l.made.items ≡ take l.name-index l.arrays
