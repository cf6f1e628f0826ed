use Rattle.stretch_laws.proofs.RunLoads.{different-computations-are-few}
use Rattle.stretch_laws.proofs.runs.different_computations_are_few.Goals as goal

pub returns : goal.returns
returns c = different-computations-are-few
