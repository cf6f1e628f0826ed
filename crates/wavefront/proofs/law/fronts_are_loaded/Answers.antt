use Rattle.wavefront.proofs.FrontLoads.{front-words-loaded, fronts-loaded, fronts-vertices}
use Rattle.wavefront.proofs.law.fronts_are_loaded.Goals as goal

pub returns-clause-loaded : goal.returns-clause-loaded
returns-clause-loaded c = fronts-loaded

pub returns-clause-vertices : goal.returns-clause-vertices
returns-clause-vertices c = fronts-vertices

pub returns-clause-different : goal.returns-clause-different
returns-clause-different c = front-words-loaded
