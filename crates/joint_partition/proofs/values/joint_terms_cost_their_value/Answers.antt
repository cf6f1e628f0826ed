use Rattle.joint_partition.proofs.JointValues.{joint-terms-cost-their-value}
use Rattle.joint_partition.proofs.values.joint_terms_cost_their_value.Goals as goal

pub returns : goal.returns
returns c =
    joint-terms-cost-their-value c.parts_are_sound.ensures c.joint_families_are_sound.ensures c.joint_groups_are_apart.ensures c.walk_pieces_cover.ensures c.terms_have_the_value.ensures
    c.joint_claims_cost.ensures
