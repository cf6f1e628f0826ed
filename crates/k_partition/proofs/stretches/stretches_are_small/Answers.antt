use Rattle.k_partition.proofs.JointLaws.{stretches-hold-labels-each, stretches-hold-labels-sum, stretches-hold-points-each, stretches-hold-points-sum}
use Rattle.k_partition.proofs.stretches.stretches_are_small.Goals as goal

pub returns-clause-labels_each : goal.returns-clause-labels_each
returns-clause-labels_each c = stretches-hold-labels-each c.stretches_are_small.ensures.words

pub returns-clause-labels_sum : goal.returns-clause-labels_sum
returns-clause-labels_sum c = stretches-hold-labels-sum c.stretches_are_small.ensures.words

pub returns-clause-points_each : goal.returns-clause-points_each
returns-clause-points_each c = stretches-hold-points-each c.stretches_are_small.ensures.points

pub returns-clause-points_sum : goal.returns-clause-points_sum
returns-clause-points_sum c = stretches-hold-points-sum c.stretches_are_small.ensures.points
