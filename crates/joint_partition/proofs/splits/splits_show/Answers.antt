use Rattle.joint_partition.proofs.SplitEnds.{splits-show}
use Rattle.joint_partition.proofs.splits.splits_show.Goals as goal

pub returns : goal.returns
returns c = splits-show
