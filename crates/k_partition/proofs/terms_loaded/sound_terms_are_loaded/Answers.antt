use Rattle.k_partition.proofs.TermCovers.{sound-terms-are-sound}
use Rattle.k_partition.proofs.TermLoads.{terms-loaded}
use Rattle.k_partition.proofs.terms_loaded.sound_terms_are_loaded.Goals as goal

pub returns-clause-sound : goal.returns-clause-sound
returns-clause-sound c = sound-terms-are-sound

pub returns-clause-loaded : goal.returns-clause-loaded
returns-clause-loaded c = terms-loaded c.terms_are_loaded_in_runs.ensures.loaded c.different_computations_are_few.ensures c.complete_pebblings_are_runs.ensures
