use Rattle.domain_count.proofs.Claimed.{right-claims-give-one}
use Rattle.domain_count.proofs.law.right_claims_give_one.Goals as goal

pub returns : goal.returns
returns c = right-claims-give-one
