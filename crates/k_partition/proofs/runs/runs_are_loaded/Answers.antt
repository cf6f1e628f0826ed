use Rattle.k_partition.proofs.JointLaws.{runs-loaded-each, runs-loaded-sum}
use Rattle.k_partition.proofs.runs.runs_are_loaded.Goals as goal

pub returns-clause-each : goal.returns-clause-each
returns-clause-each c = runs-loaded-each c.runs_are_loaded.ensures

pub returns-clause-sum : goal.returns-clause-sum
returns-clause-sum c = runs-loaded-sum c.runs_are_loaded.ensures
