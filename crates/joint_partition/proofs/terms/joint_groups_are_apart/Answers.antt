use Rattle.joint_partition.proofs.GroupsApart.{joint-groups-are-apart}
use Rattle.joint_partition.proofs.terms.joint_groups_are_apart.Goals as goal

pub returns : goal.returns
returns c = joint-groups-are-apart c.walk_pieces_cover.ensures c.disjoint_pieces_are_apart.ensures.two
