-- The first board has places.
use Rattle.std.proofs.Common.{length, arith}
use Rattle.memory_levels.proofs.Towers.{made-fits}
use Rattle.memory_levels.proofs.tower.Tower.new.Goals as goal

pub returns-clause-fits : goal.returns-clause-fits
returns-clause-fits c =
    made-fits c.args.graph.now (length c.args.capacities.now) c.in_ok-first_levels.field-0.items c.in_ok-vec.field-0.items c.in_ok-first_levels.ensures
    (omega (arith, c.in_ok-vec.ensures.len, c.instances.ensures.instances, c.inputs.ensures.inputs))
