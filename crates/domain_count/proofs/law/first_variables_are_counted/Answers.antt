use Rattle.domain_count.proofs.Front.{first-counted}
use Rattle.domain_count.proofs.law.first_variables_are_counted.Goals as goal

pub returns : goal.returns
returns c = first-counted
