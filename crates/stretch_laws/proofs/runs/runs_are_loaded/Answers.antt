use Rattle.stretch_laws.proofs.RunLoads.{runs-loaded}
use Rattle.stretch_laws.proofs.runs.runs_are_loaded.Goals as goal

pub returns : goal.returns
returns c = runs-loaded c.points_take_events.ensures
