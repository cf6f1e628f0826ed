use Rattle.stretch_laws.proofs.Cut.{stretches-are-red-runs}
use Rattle.stretch_laws.proofs.stretches.stretches_are_red_runs.Goals as goal

pub returns : goal.returns
returns c = stretches-are-red-runs
