use Rattle.wavefront.proofs.ColdLoads.{cold-words-loaded, sound-colds-loaded}
use Rattle.wavefront.proofs.law.sound_colds_are_loaded.Goals as goal

pub returns-clause-loaded : goal.returns-clause-loaded
returns-clause-loaded c = sound-colds-loaded

pub returns-clause-each : goal.returns-clause-each
returns-clause-each c = cold-words-loaded
