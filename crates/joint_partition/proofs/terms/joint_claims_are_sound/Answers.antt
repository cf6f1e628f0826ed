use Rattle.joint_partition.proofs.ClaimsCost.{joint-claims-are-sound}
use Rattle.joint_partition.proofs.terms.joint_claims_are_sound.Goals as goal

pub returns : goal.returns
returns c = joint-claims-are-sound c.parts_are_sound.ensures c.joint_families_are_sound.ensures c.joint_groups_are_apart.ensures
