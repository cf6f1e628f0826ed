use Rattle.cover_lp.proofs.Duality.{one-total}
use Rattle.cover_lp.proofs.law.pairs_have_one_total.Goals as goal

pub returns : goal.returns
returns c = one-total
