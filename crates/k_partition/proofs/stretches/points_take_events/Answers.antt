use Rattle.k_partition.proofs.JointLaws.{take-events-each, take-events-sum}
use Rattle.k_partition.proofs.stretches.points_take_events.Goals as goal

pub returns-clause-each : goal.returns-clause-each
returns-clause-each c = take-events-each c.points_take_events.ensures

pub returns-clause-sum : goal.returns-clause-sum
returns-clause-sum c = take-events-sum c.points_take_events.ensures
