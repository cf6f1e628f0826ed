use Rattle.joint_partition.proofs.JointValues.{joint-pieces-cover}
use Rattle.joint_partition.proofs.values.joint_pieces_cover.Goals as goal

pub returns : goal.returns
returns c = joint-pieces-cover c.parts_are_sound.ensures c.joint_families_are_sound.ensures c.joint_groups_are_apart.ensures c.walk_pieces_cover.ensures
