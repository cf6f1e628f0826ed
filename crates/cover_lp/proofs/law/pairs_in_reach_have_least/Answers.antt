use Rattle.cover_lp.proofs.Reach.{pairs-in-reach}
use Rattle.cover_lp.proofs.law.pairs_in_reach_have_least.Goals as goal

pub returns : goal.returns
returns c = pairs-in-reach
