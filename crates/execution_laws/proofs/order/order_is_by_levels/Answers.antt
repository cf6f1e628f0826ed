use Rattle.execution_laws.proofs.Orders.{order_by_levels}
use Rattle.execution_laws.proofs.order.order_is_by_levels.Goals as goal

pub returns : goal.returns
returns c = order_by_levels
