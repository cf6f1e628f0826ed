use Rattle.reuse_paths.proofs.Arrivals.{reaches-arrive}
use Rattle.reuse_paths.proofs.law.reaches_arrive.Goals as goal

pub returns : goal.returns
returns c = reaches-arrive
