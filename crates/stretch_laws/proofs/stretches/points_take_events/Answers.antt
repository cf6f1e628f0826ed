use Rattle.stretch_laws.proofs.Cut.{take-events}
use Rattle.stretch_laws.proofs.stretches.points_take_events.Goals as goal

pub returns : goal.returns
returns c = take-events c.stretches_are_small.ensures.points
