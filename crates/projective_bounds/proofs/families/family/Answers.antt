use Rattle.std.proofs.Common.{ap, length, arith}
use Rattle.projective_bounds.proofs.families.family.Goals as goal

pub array_walk-requires-clause-few : goal.array_walk-requires-clause-few
array_walk-requires-clause-few c = omega (arith, c.requires.readable.few, ap length c.coords-2.ensures)
