-- What is read is within the limits of joint terms.
use Rattle.std.proofs.Common.{◌≡◌, ◌+◌, ◌≤◌, ℕ, List, length, map, sym, subst, sum_by, arith}
use Rattle.std.proofs.lemmas.Bool.{leb-true}
use Rattle.std.proofs.lemmas.List.{length-map}
use Rattle.std.specs.List.{AllByRecursion}
use Rattle.affine_form.specs.Multipliers.{FarkasMultipliers}
use Rattle.certificate_fit.specs.Limits.{IsSmallCredit, NameRows}
use Rattle.k_partition.specs.View.{credit_term_of}
use Rattle.reuse_paths.specs.declared.family.Credit.{Credit}
use Rattle.certificate_parts.specs.Credits.{IsSmallWrittenCredit, WrittenCredit, credit_shape}
use Rattle.certificate_parts.specs.Inverses.{inverse_shape}
use Rattle.certificate_parts.specs.Nests.{IsSmallNest}
use Rattle.certificate_parts.specs.Polynomials.{all_read_small}
use Rattle.json_parts.proofs.Related.{all_related, as_many}
use Rattle.reuse_paths.specs.Families.{CreditedNest}
use Rattle.joint_partition.specs.declared.term.Joint.{Joint}
use Rattle.joint_partition.specs.declared.term.Part.{Part}
use Rattle.joint_partition.specs.Limits.{IsSmallJoint, IsSmallPart, IsSmallSplit}
use Rattle.joint_partition.specs.Splits.{SplitTree}
use Rattle.joint_partition.specs.Term.{JointFamily, PartTerm}
use Rattle.joint_partition.specs.View.{family_of, joint_of, part_of, split_of}
use Rattle.joint_text.specs.Families.{AreSmallFamilies, families_shape}
use Rattle.joint_text.specs.Joint.{IsCreditTerm, IsJoint, WrittenJoint, joint_shape, members_shape}
use Rattle.json_parts.specs.OneToMost.{AreOneToMost}
use Rattle.joint_text.specs.Parts.{IsPart, WrittenPart, part_fields, part_members, part_shape}

-- the members of a part with these polynomials
read_part_small : (said : WrittenPart) (part : Part) → IsPart said (part_of part) → part_shape.IsWithin said → IsSmallPart part
unfolding part_shape inverse_shape
read_part_small said part is small =
    let written : PartTerm → WrittenPart = λ claim. record { statement = claim.statement; nest = claim.nest; shown = claim.count.shown; sums = said.sums; inside = claim.inside; image = claim.image; matrix = claim.inverse; scale = claim.scale } in
    let all = subst (λ (claim : PartTerm). part_fields.IsWithin (part_members (written claim))) (sym is.claims) small in
    record {
      variables = all.1.1.1.0.1;
      bounds = all.1.1.1.0.0;
      shown = all.1.1.1.1.0;
      sums = all_read_small said.sums part.sums.sums is.sums all.1.1.1.1.1.1.0;
      inside = all.0;
      some_image = all.1.1.0.some;
      few_image = all.1.1.0.few;
      image = all.1.1.0.all;
      some_scale = all.1.0.1.0.0;
      scale = all.1.0.1.0.1;
    }

pub read_credit_small : (said : WrittenCredit) (credit : Credit) → IsCreditTerm said (credit_term_of credit) → IsSmallWrittenCredit said → IsSmallCredit credit
read_credit_small said credit is small =
    let nest : IsSmallNest credit.nest = subst (λ (credited : CreditedNest). IsSmallNest credited.nest) (sym is.nest) small.nest in
    record {
      variables = nest.1;
      bounds = nest.0;
      shown = subst NameRows (sym is.shown) small.shown;
      sums = all_read_small said.sums credit.sums.sums is.sums small.sums;
    }

pub read_joint_small : (said : WrittenJoint) (joint : Joint) → IsJoint said (joint_of joint) → joint_shape.IsWithin said → IsSmallJoint joint
unfolding joint_shape members_shape families_shape credit_shape
read_joint_small said joint is small =
    let all = small.0 in
    let families : AreSmallFamilies (map family_of joint.families.items) = subst AreSmallFamilies (sym is.families) all.1.1.1.1.1.0 in
    let many : length joint.families.items ≡ length (map family_of joint.families.items) = sym (length-map joint.families.items family_of) in
    let parts_many : length (map part_of joint.parts.items) ≡ length said.parts = as_many IsPart said.parts (map part_of joint.parts.items) is.parts in
    let parts_same : length (map part_of joint.parts.items) ≡ length joint.parts.items = length-map joint.parts.items part_of in
    record {
      some_parts = omega (arith, parts_many, parts_same, all.1.1.1.1.1.1.0.some);
      few_parts = omega (arith, parts_many, parts_same, all.1.1.1.1.1.1.0.few);
      parts = all_related IsPart part_of part_shape.IsWithin IsSmallPart read_part_small said.parts joint.parts.items is.parts all.1.1.1.1.1.1.0.all;
      distinct = subst (AllByRecursion IsSmallSplit) (sym is.distinct) all.1.1.1.1.0;
      some_q = subst (λ (n : ℕ). 1 ≤ n) (sym is.q) all.1.1.1.1.1.1.1.0.0;
      q = subst (λ (n : ℕ). n ≤ 12) (sym is.q) all.1.1.1.1.1.1.1.0.1;
      a = subst (λ (n : ℕ). n ≤ 64) (sym is.a) all.0.1;
      b = subst (λ (n : ℕ). n ≤ 1048576) (sym is.b) all.1.1.0.1;
      some_events = omega (arith, is.a, is.b, leb-true 1 (said.a + said.b) small.1);
      few_credits = omega (arith, all.1.1.1.0.1, as_many IsCreditTerm said.credits (map credit_term_of joint.credits.items) is.credits, length-map joint.credits.items credit_term_of);
      credits = all_related IsCreditTerm credit_term_of IsSmallWrittenCredit IsSmallCredit read_credit_small said.credits joint.credits.items is.credits all.1.1.1.0.0;
      some_families = omega (arith, many, families.some.some);
      few_families = omega (arith, many, families.some.few);
      families = families.some.all;
      weights = families.light;
      apart = subst NameRows (sym is.apart) all.1.0;
    }
