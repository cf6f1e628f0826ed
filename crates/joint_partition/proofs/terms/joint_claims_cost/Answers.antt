use Rattle.joint_partition.proofs.ClaimsCost.{joint-claims-cost}
use Rattle.joint_partition.proofs.terms.joint_claims_cost.Goals as goal

pub returns : goal.returns
returns c =
    joint-claims-cost c.parts_are_sound.ensures c.joint_families_are_sound.ensures c.joint_groups_are_apart.ensures c.joint_terms_are_loaded.ensures.pebblings
