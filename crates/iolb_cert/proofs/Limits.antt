-- What is read is within the limits of certificates.
use Rattle.std.proofs.Common.{◌≡◌, ◌+◌, ◌≤◌, length, map, None, Some, sym, subst, arith}
use Rattle.std.proofs.lemmas.Bool.{leb-true}
use Rattle.std.proofs.lemmas.List.{length-map}
use Rattle.std.specs.Prelude.{Option, IfSome}
use Rattle.certificate_fit.specs.Limits.{IsSmallCredit, NameRows, IsSmallReach, IsSmallWay, IsSmallSpot}
use Rattle.k_partition.specs.declared.term.Partition.{Partition}
use Rattle.k_partition.specs.View.{credit_term_of, partition_of}
use Rattle.reuse_paths.specs.Families.{family_of}
use Rattle.reuse_paths.specs.Walks.{SpotForms, ReachClaim}
use Rattle.wavefront.specs.declared.cold.Cold.{Cold}
use Rattle.wavefront.specs.declared.front.Wavefront.{Wavefront}
use Rattle.iolb_check.specs.Claims.{ColdClaim, FrontClaim, claim_of_cold, claim_of_front, claim_of_term, claim_of_branch, claim_of_certificate}
use Rattle.iolb_check.specs.Limits.{IsSmallCold, IsSmallFront, IsSmallPartition, IsSmallTerm, IsSmallBranch, CertificateParts, IsWithinLimits}
use Rattle.iolb_check.specs.declared.term.Term.{Term}
use Rattle.iolb_check.specs.declared.term.Term.TheVariants as terms
use Rattle.iolb_check.specs.declared.term.Branch.{Branch}
use Rattle.certificate_parts.specs.Credits.{IsSmallWrittenCredit, credit_shape}
use Rattle.certificate_parts.specs.Families.{AreSmallFamilies, families_shape}
use Rattle.certificate_parts.specs.Polynomials.{all_read_small}
use Rattle.certificate_parts.specs.Reaches.{spot_shape}
use Rattle.certificate_parts.proofs.ReadTrees.{quasts_small}
use Rattle.iolb_cert.specs.Certificates.{certificate_shape}
use Rattle.iolb_cert.specs.ColdTexts.{cold_fields, cold_parts, cold_shape}
use Rattle.iolb_cert.specs.FrontTexts.{front_fields, front_parts, front_shape}
use Rattle.iolb_cert.specs.PartitionTexts.{partition_fields, partition_parts, members_shape, partition_shape}
use Rattle.iolb_cert.specs.Read.{PartitionClaim, WrittenCold, WrittenPartition, WrittenFront, WrittenTerm, as_cold, as_partition, as_front, as_joint, WrittenBranch, WrittenCertificate, IsCold, IsPartition, IsFront, IsTerm, IsBranch, IsCertificate}
use Rattle.joint_text.specs.Joint.{IsCreditTerm}
use Rattle.joint_text.proofs.Limits.{read_credit_small, read_joint_small}
use Rattle.certificate_parts.specs.Inverses.{inverse_shape}
use Rattle.iolb_cert.specs.Terms.{term_shape, branch_shape}
use Rattle.json_parts.proofs.Related.{all_related, as_many}

read_cold_small : (said : WrittenCold) (cold : Cold) → IsCold said (claim_of_cold cold) cold.sums.sums → cold_shape.IsWithin said → IsSmallCold cold
unfolding cold_shape inverse_shape
read_cold_small said cold is small =
    let all = subst (λ (claim : ColdClaim). cold_fields.IsWithin (cold_parts (record { claim = claim; sums = said.sums }))) (sym is.claims) small in
    record {
      variables = all.1.1.1.0.1;
      bounds = all.1.1.1.0.0;
      shown = all.1.1.1.1.1.1.0;
      sums = all_read_small said.sums cold.sums.sums is.sums all.1.1.1.1.1.1.1.1.0;
      point = all.1.1.1.1.0;
      inside = all.0;
      some_scale = all.1.0.1.0.0;
      scale = all.1.0.1.0.1;
      leaves = all.1.1.0;
    }

pub small-way : (way : Option ReachClaim) → IfSome way IsSmallReach → IsSmallWay way
small-way None small = tt
small-way (Some reach) small = small

small-spot : (spot : Option SpotForms) → IfSome spot spot_shape.IsWithin → IsSmallSpot spot
unfolding spot_shape
small-spot None small = tt
small-spot (Some spot) small = small

read_front_small : (said : WrittenFront) (front : Wavefront) → IsFront said (claim_of_front front) front.sums.sums front.outer_sums.items → front_shape.IsWithin said → IsSmallFront front
unfolding front_shape inverse_shape spot_shape
read_front_small said front is small =
    let claim = claim_of_front front in
    let all = subst (λ (claim : FrontClaim). front_fields.IsWithin (front_parts (record { claim = claim; sums = said.sums; outer_sums = said.outer_sums }))) (sym is.claims) small in
    record {
      variables = all.1.1.1.1.0.1;
      bounds = all.1.1.1.1.0.0;
      shown = all.1.1.1.1.1.1.1.1.1.0;
      sums = all_read_small said.sums front.sums.sums is.sums all.1.1.1.1.1.1.1.1.1.1.1.0;
      outer_sums = all_read_small said.outer_sums front.outer_sums.items is.outer_sums all.1.1.1.1.1.1.0;
      vertex = all.1.1.1.1.1.1.1.1.1.1.1.1.1.0;
      user = all.1.1.1.1.1.1.1.1.1.1.1.1.0;
      source = small-spot claim.source all.1.1.1.1.1.1.1.1.1.1.0;
      inside = all.1.1.0;
      some_scale = all.1.1.1.0.1.0.0;
      scale = all.1.1.1.0.1.0.1;
      edge = all.1.0;
      reach = small-way claim.reach all.1.1.1.1.1.1.1.0;
      back = all.0;
    }

read_partition_small : (said : WrittenPartition) (partition : Partition) → IsPartition said (partition_of partition) → partition_shape.IsWithin said → IsSmallPartition partition
unfolding partition_shape members_shape families_shape credit_shape
read_partition_small said partition is small =
    let all = subst (λ (claim : PartitionClaim). partition_fields.IsWithin (partition_parts (record { claim = claim; sums = said.sums; credits = said.credits }))) (sym is.claims) small.0 in
    let families : AreSmallFamilies (map family_of partition.families.items) = all.1.1.1.1.0 in
    let many : length partition.families.items ≡ length (map family_of partition.families.items) = sym (length-map partition.families.items family_of) in
    record {
      variables = all.1.1.1.1.1.1.1.1.0.1;
      bounds = all.1.1.1.1.1.1.1.1.0.0;
      shown = all.1.1.1.1.1.1.1.1.1.1.1.0;
      sums = all_read_small said.sums partition.sums.sums is.sums all.1.1.1.1.1.1.1.1.1.1.1.1.1.0;
      inside = all.1.1.1.1.1.0;
      some_q = all.1.1.1.1.1.1.1.1.1.0.0;
      q = all.1.1.1.1.1.1.1.1.1.0.1;
      a = all.0.1;
      b = all.1.1.0.1;
      some_events = subst (λ (claim : PartitionClaim). 1 ≤ claim.a + claim.b) (sym is.claims) (leb-true 1 (said.claim.a + said.claim.b) small.1);
      few_credits = omega (arith, all.1.1.1.0.1, as_many IsCreditTerm said.credits (map credit_term_of partition.credits.items) is.credits, length-map partition.credits.items credit_term_of);
      credits = all_related IsCreditTerm credit_term_of IsSmallWrittenCredit IsSmallCredit read_credit_small said.credits partition.credits.items is.credits all.1.1.1.0.0;
      some_families = omega (arith, many, families.some);
      few_families = omega (arith, many, families.few);
      families = families.all;
      weights = families.light;
      apart = all.1.0;
    }

read_term_small : (said : WrittenTerm) (term : Term) → IsTerm said (claim_of_term term) → term_shape.IsWithin said → IsSmallTerm term
read_term_small (as_cold said) (terms.Cold cold) is small = read_cold_small said cold is small
read_term_small (as_partition said) (terms.Partition partition) is small = read_partition_small said partition is small
read_term_small (as_front said) (terms.Wavefront front) is small = read_front_small said front is small
read_term_small (as_joint said) (terms.Joint joint) is small = read_joint_small said joint is small
read_term_small (as_cold said) (terms.Partition partition) is small = absurd is
read_term_small (as_cold said) (terms.Wavefront front) is small = absurd is
read_term_small (as_cold said) (terms.Joint joint) is small = absurd is
read_term_small (as_partition said) (terms.Cold cold) is small = absurd is
read_term_small (as_partition said) (terms.Wavefront front) is small = absurd is
read_term_small (as_partition said) (terms.Joint joint) is small = absurd is
read_term_small (as_front said) (terms.Cold cold) is small = absurd is
read_term_small (as_front said) (terms.Partition partition) is small = absurd is
read_term_small (as_front said) (terms.Joint joint) is small = absurd is
read_term_small (as_joint said) (terms.Cold cold) is small = absurd is
read_term_small (as_joint said) (terms.Partition partition) is small = absurd is
read_term_small (as_joint said) (terms.Wavefront front) is small = absurd is

read_branch_small : (said : WrittenBranch) (branch : Branch) → IsBranch said (claim_of_branch branch) → branch_shape.IsWithin said → IsSmallBranch branch
unfolding branch_shape
read_branch_small said branch is small = record {
  few = omega (arith, small.1.0.1, as_many IsTerm said.terms (map claim_of_term branch.terms.items) is.0, length-map branch.terms.items claim_of_term);
  terms = all_related IsTerm claim_of_term term_shape.IsWithin IsSmallTerm read_term_small said.terms branch.terms.items is.0 small.1.0.0;
  disjoint = subst NameRows (sym is.1) small.0;
}

pub read_certificate_small : (said : WrittenCertificate) (parts : CertificateParts) → IsCertificate said (claim_of_certificate parts) → certificate_shape.IsWithin said → IsWithinLimits parts
unfolding certificate_shape
read_certificate_small said parts is small = record {
  trees = quasts_small said.trees parts.quasts is.0 small.1.0;
  few = omega (arith, small.0.1, as_many IsBranch said.branches (map claim_of_branch parts.branches) is.1, length-map parts.branches claim_of_branch);
  branches = all_related IsBranch claim_of_branch branch_shape.IsWithin IsSmallBranch read_branch_small said.branches parts.branches is.1 small.0.0;
}
