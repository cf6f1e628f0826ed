-- What a boundary sees of a complete play is a complete pebbling.
use Rattle.memory_levels.proofs.SightLoads.{bounds_hold_at_levels}
use Rattle.memory_levels.proofs.law.bounds_hold_at_levels.Goals as goal

pub returns : goal.returns
returns c = bounds_hold_at_levels
