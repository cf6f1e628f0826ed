use Rattle.projective_bounds.proofs.Held.{whole-terms-fit}
use Rattle.projective_bounds.proofs.whole_laws.whole_terms_fit.Goals as goal

pub returns : goal.returns
returns c = whole-terms-fit
