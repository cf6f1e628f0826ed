use Rattle.projective_bounds.proofs.Exponents.{in-reach}
use Rattle.projective_bounds.proofs.law.covers_in_reach_have_least.Goals as goal

pub returns : goal.returns
returns c = in-reach
