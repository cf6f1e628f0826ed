use Rattle.projective_bounds.proofs.Asked.{whole-terms-asked}
use Rattle.projective_bounds.proofs.whole_laws.whole_terms_are_as_asked.Goals as goal

pub returns : goal.returns
returns c = whole-terms-asked
