use Rattle.projective_bounds.proofs.Held.{whole-terms-hold}
use Rattle.projective_bounds.proofs.whole_laws.whole_terms_hold.Goals as goal

pub returns : goal.returns
returns c = whole-terms-hold
