use Rattle.pair_laws.proofs.Loads.{pairs-are-loaded}
use Rattle.pair_laws.proofs.meetings.pairs_are_loaded.Goals as goal

pub returns : goal.returns
returns c = pairs-are-loaded c.runs_meet_pairs.ensures c.different_computations_are_few.ensures c.complete_pebblings_are_runs.ensures
