use Rattle.joint_partition.proofs.LowestTerms.{joint-numbers-are-one, joint-numbers-are-positive}
use Rattle.joint_partition.proofs.values.joint_numbers_are_one.Goals as goal

pub returns-clause-one : goal.returns-clause-one
returns-clause-one c = joint-numbers-are-one

pub returns-clause-positive : goal.returns-clause-positive
returns-clause-positive c = joint-numbers-are-positive
