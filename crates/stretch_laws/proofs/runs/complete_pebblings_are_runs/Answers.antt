use Rattle.stretch_laws.proofs.CompletePebblings.{complete-pebblings-are-runs}
use Rattle.stretch_laws.proofs.runs.complete_pebblings_are_runs.Goals as goal

pub returns : goal.returns
returns c = complete-pebblings-are-runs
