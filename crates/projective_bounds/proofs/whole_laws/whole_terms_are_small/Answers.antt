use Rattle.projective_bounds.proofs.Small.{whole-terms-small}
use Rattle.projective_bounds.proofs.whole_laws.whole_terms_are_small.Goals as goal

pub returns : goal.returns
returns c = whole-terms-small
