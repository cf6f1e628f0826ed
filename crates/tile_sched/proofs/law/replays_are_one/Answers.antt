use Rattle.tile_sched.proofs.Refusals.{apart, complete, orders_one, refusals_one}
use Rattle.tile_sched.proofs.law.replays_are_one.Goals as goal

pub returns-clause-orders : goal.returns-clause-orders
returns-clause-orders c = orders_one c.schedules_are_one.ensures.orders

pub returns-clause-refusals : goal.returns-clause-refusals
returns-clause-refusals c = refusals_one c.schedules_are_one.ensures.orders

pub returns-clause-apart : goal.returns-clause-apart
returns-clause-apart c = apart c.schedules_are_one.ensures.orders

pub returns-clause-complete : goal.returns-clause-complete
returns-clause-complete c = complete c.computation_graphs_are_well_formed.ensures c.what_is_played_is_complete.ensures
