use Rattle.joint_partition.proofs.JointSound.{joint-terms-are-sound}
use Rattle.joint_partition.proofs.terms.joint_terms_are_sound.Goals as goal

pub returns : goal.returns
returns c = joint-terms-are-sound
