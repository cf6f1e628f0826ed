use Rattle.k_partition.proofs.PartitionSound.{partitions-sound, partitions-apart}
use Rattle.k_partition.proofs.partitions.partitions_are_sound.Goals as goal

pub returns-clause-sound : goal.returns-clause-sound
returns-clause-sound c = partitions-sound c.families_are_sound.ensures

pub returns-clause-apart : goal.returns-clause-apart
returns-clause-apart c = partitions-apart c.family_pieces_cover.ensures c.disjoint_pieces_are_apart.ensures.several
