use Rattle.k_partition.proofs.JointLaws.{partitions-loaded-each, partitions-loaded-sum}
use Rattle.k_partition.proofs.pebblings.partitions_are_loaded.Goals as goal

pub returns-clause-each : goal.returns-clause-each
returns-clause-each c = partitions-loaded-each c.joints_are_loaded.ensures

pub returns-clause-sum : goal.returns-clause-sum
returns-clause-sum c = partitions-loaded-sum c.joints_are_loaded.ensures
