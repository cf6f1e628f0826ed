use Rattle.joint_partition.proofs.FamiliesSound.{joint-families-are-sound}
use Rattle.joint_partition.proofs.terms.joint_families_are_sound.Goals as goal

pub returns : goal.returns
returns c = joint-families-are-sound c.walks_are_sound.ensures
