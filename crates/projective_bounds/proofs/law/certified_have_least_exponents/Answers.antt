use Rattle.projective_bounds.proofs.Exponents.{least}
use Rattle.projective_bounds.proofs.law.certified_have_least_exponents.Goals as goal

pub returns : goal.returns
returns c = least
