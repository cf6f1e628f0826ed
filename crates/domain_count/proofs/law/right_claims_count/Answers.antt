use Rattle.domain_count.proofs.Counting.{right-claims-count}
use Rattle.domain_count.proofs.law.right_claims_count.Goals as goal

pub returns : goal.returns
returns c = right-claims-count
