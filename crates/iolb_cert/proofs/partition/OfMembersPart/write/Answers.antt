use Rattle.std.proofs.Common.{refl}
use Rattle.json_parts.specs.Fields.{object_shape}
use Rattle.json_parts.proofs.Back.{made_read}
use Rattle.iolb_cert.specs.PartitionTexts.{partition_fields, partition_made, partition_parts, members_shape}
use Rattle.iolb_cert.specs.Written.{written_partition}
use Rattle.joint_text.specs.Joint.{IsCreditTerm}
use Rattle.k_partition.specs.View.{credit_term_of}
use Rattle.json_parts.proofs.Related.{all-mapped}
use Rattle.iolb_cert.proofs.partition.OfMembersPart.write.Goals as goal

pub returns-clause-read : goal.returns-clause-read
unfolding members_shape
returns-clause-read c = made_read (object_shape partition_fields) partition_made partition_parts (written_partition c.args.part.now) refl (rw (← c.sums.ensures, ← c.shown.ensures) c.in_ok-value.ensures.read)

pub returns-clause-is : goal.returns-clause-is
returns-clause-is c =
    let are = c.in_ok-value.ensures.are in
    record {
      claims = refl;
      sums = rw (← c.sums.ensures) are.1.1.1.1.1.1.1.1.1.1.1.1.1.0;
      credits = all-mapped IsCreditTerm credit_term_of _ c.args.part.now.credits.items are.1.1.1.0;
    }
