use Rattle.joint_text.proofs.Limits.{read_joint_small}
use Rattle.joint_text.proofs.law.joints_are_within_limits.Goals as goal

pub returns : goal.returns
returns c = read_joint_small
