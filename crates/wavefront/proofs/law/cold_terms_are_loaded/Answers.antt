use Rattle.wavefront.proofs.ColdLoads.{cold-terms-loaded}
use Rattle.wavefront.proofs.law.cold_terms_are_loaded.Goals as goal

pub returns : goal.returns
returns c = cold-terms-loaded
