use Rattle.tile_sched.proofs.OneOrder.{orders_one}
use Rattle.tile_sched.proofs.OneSchedule.{texts_one}
use Rattle.tile_sched.proofs.law.schedules_are_one.Goals as goal

pub returns-clause-texts : goal.returns-clause-texts
returns-clause-texts c = texts_one

pub returns-clause-orders : goal.returns-clause-orders
returns-clause-orders c = orders_one
