use Rattle.execution_laws.proofs.Domains.{domains_executed}
use Rattle.execution_laws.proofs.Orders.{executed_once}
use Rattle.execution_laws.proofs.domain.domains_are_executed.Goals as goal

pub returns-clause-executed : goal.returns-clause-executed
returns-clause-executed c = domains_executed

pub returns-clause-once : goal.returns-clause-once
returns-clause-once c = executed_once
