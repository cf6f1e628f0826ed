use Rattle.projective_bounds.proofs.Exponents.{accepted}
use Rattle.projective_bounds.proofs.law.certified_are_accepted.Goals as goal

pub returns : goal.returns
returns c = accepted
