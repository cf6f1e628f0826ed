use Rattle.stretch_laws.proofs.CompletePebblings.{joints-loaded}
use Rattle.stretch_laws.proofs.pebblings.joints_are_loaded.Goals as goal

pub returns : goal.returns
returns c = joints-loaded c.runs_are_loaded.ensures c.different_computations_are_few.ensures c.complete_pebblings_are_runs.ensures
