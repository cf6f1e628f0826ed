-- What the text of a certificate says.
use Rattle.std.specs.Prelude.{map}
use Rattle.k_partition.specs.declared.term.Partition.{Partition}
use Rattle.k_partition.specs.View.{partition_of}
use Rattle.wavefront.specs.declared.cold.Cold.{Cold}
use Rattle.wavefront.specs.declared.front.Wavefront.{Wavefront}
use Rattle.iolb_check.specs.Limits.{CertificateParts}
use Rattle.iolb_check.specs.declared.term.Term.{Term}
use Rattle.iolb_check.specs.declared.term.Term.TheVariants as terms
use Rattle.iolb_check.specs.declared.term.Branch.{Branch}
use Rattle.dep_quast.specs.Quasts.{row_trees}
use Rattle.iolb_check.specs.Claims.{claim_of_cold, claim_of_front, claim_of_term, claim_of_branch, claim_of_certificate}
use Rattle.json_parts.specs.Related.{Link, other_link}
use Rattle.certificate_parts.specs.Credits.{written_credit}
use Rattle.certificate_parts.specs.Polynomials.{written_polynomial}
use Rattle.iolb_cert.specs.Read.{WrittenCold, WrittenPartition, WrittenFront, WrittenTerm, as_cold, as_partition, as_front, as_joint, WrittenBranch, WrittenCertificate, claim_of_partition, IsCold, IsPartition, IsFront, IsTerm, IsBranch, IsCertificate}
use Rattle.joint_text.specs.Joint.{written_joint}

abbrev pub written_cold : Cold → WrittenCold
written_cold cold = record { claim = claim_of_cold cold; sums = map written_polynomial cold.sums.sums }

abbrev pub written_partition : Partition → WrittenPartition
written_partition partition = record {
  claim = claim_of_partition (partition_of partition);
  sums = map written_polynomial partition.sums.sums;
  credits = map written_credit partition.credits.items;
}

abbrev pub written_front : Wavefront → WrittenFront
written_front front = record {
  claim = claim_of_front front;
  sums = map written_polynomial front.sums.sums;
  outer_sums = map written_polynomial front.outer_sums.items;
}

abbrev pub written_term : Term → WrittenTerm
written_term (terms.Cold cold) = as_cold (written_cold cold)
written_term (terms.Partition partition) = as_partition (written_partition partition)
written_term (terms.Wavefront front) = as_front (written_front front)
written_term (terms.Joint joint) = as_joint (written_joint joint)

abbrev pub written_branch : Branch → WrittenBranch
written_branch branch = record { terms = map written_term branch.terms.items; disjoint = branch.disjoint.items }

-- a certificate: all that its parts claim
abbrev pub written_of : CertificateParts → WrittenCertificate
written_of parts = record { branches = map written_branch parts.branches; trees = map row_trees parts.quasts.rows.items }

-- ---- what the code holds, beside what a text says

abbrev pub cold_link : Link WrittenCold Cold
cold_link = other_link written_cold (λ said cold. IsCold said (claim_of_cold cold) cold.sums.sums)

abbrev pub partition_link : Link WrittenPartition Partition
partition_link = other_link written_partition (λ said partition. IsPartition said (partition_of partition))

abbrev pub front_link : Link WrittenFront Wavefront
front_link = other_link written_front (λ said front. IsFront said (claim_of_front front) front.sums.sums front.outer_sums.items)

abbrev pub term_link : Link WrittenTerm Term
term_link = other_link written_term (λ said term. IsTerm said (claim_of_term term))

abbrev pub branch_link : Link WrittenBranch Branch
branch_link = other_link written_branch (λ said branch. IsBranch said (claim_of_branch branch))

abbrev pub certificate_link : Link WrittenCertificate CertificateParts
certificate_link = other_link written_of (λ said parts. IsCertificate said (claim_of_certificate parts))
