use Rattle.std.proofs.Common.{sym, subst}
use Rattle.iolb_check.specs.declared.term.Term.{Term}
use Rattle.json_parts.specs.Shape.{IsReadBack}
use Rattle.iolb_cert.specs.Terms.{term_shape}
use Rattle.iolb_cert.specs.Written.{written_cold, written_partition, written_front, written_term}
use Rattle.iolb_cert.proofs.ReadTerms.{cold_term_read, partition_term_read, front_term_read, joint_term_read}
use Rattle.joint_text.specs.Joint.{written_joint}
use Rattle.iolb_cert.proofs.terms.OfTermPart.write.Goals as goal

abbrev IsRead : Term → Type 0
IsRead term = IsReadBack term_shape (written_term term)

pub returns-in_ok-value-in-Cold-clause-read : goal.returns-in_ok-value-in-Cold-clause-read
returns-in_ok-value-in-Cold-clause-read c = subst IsRead (sym c.in-Cold.is) (cold_term_read (written_cold c.in-Cold.cold) c.in_ok-value-in-Cold.ensures.read)

pub returns-in_ok-value-in-Partition-clause-read : goal.returns-in_ok-value-in-Partition-clause-read
returns-in_ok-value-in-Partition-clause-read c = subst IsRead (sym c.in-Partition.is) (partition_term_read (written_partition c.in-Partition.partition) c.in_ok-value-in-Partition.ensures.read)

pub returns-in_ok-value-in-Wavefront-clause-read : goal.returns-in_ok-value-in-Wavefront-clause-read
returns-in_ok-value-in-Wavefront-clause-read c = subst IsRead (sym c.in-Wavefront.is) (front_term_read (written_front c.in-Wavefront.front) c.in_ok-value-in-Wavefront.ensures.read)

pub returns-in_ok-value-in-Joint-clause-read : goal.returns-in_ok-value-in-Joint-clause-read
returns-in_ok-value-in-Joint-clause-read c = subst IsRead (sym c.in-Joint.is) (joint_term_read (written_joint c.in-Joint.joint) c.in_ok-value-in-Joint.ensures.read)
