use Rattle.joint_partition.proofs.PartsSound.{parts-are-sound}
use Rattle.joint_partition.proofs.terms.parts_are_sound.Goals as goal

pub returns : goal.returns
returns c = parts-are-sound c.splits_show.ensures
