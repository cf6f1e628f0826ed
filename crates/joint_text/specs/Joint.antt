-- The texts of joint terms.
use Rattle.std.specs.Prelude.{◌≡◌, ℕ, ◌+◌, List, Bool, nat_le, codes, map, refl}
use Rattle.iolb_model.specs.declared.limits.TheConstants.{STRETCH, STRETCH_MORE, WEIGHT}
use Rattle.affine_form.specs.Multipliers.{FarkasMultipliers}
use Rattle.json_parts.specs.Fields.{Fields, no_fields, field, record_shape}
use Rattle.json_parts.specs.Related.{AreAll, Link, other_link}
use Rattle.json_parts.specs.Shape.{Shape, few_shape, list_shape, natural_shape, tested_at_shape}
use Rattle.certificate_parts.specs.Credits.{IsCredited, WrittenCredit, credit_shape, written_credit}
use Rattle.certificate_parts.specs.Multipliers.{all_multipliers_shape}
use Rattle.k_partition.specs.Term.{CreditTerm}
use Rattle.joint_partition.specs.declared.limits.TheConstants.{JOINT_CREDITS, PARTS}
use Rattle.joint_partition.specs.declared.term.Joint.{Joint}
use Rattle.joint_partition.specs.Limits.{IsSmallJoint}
use Rattle.joint_partition.specs.Splits.{SplitTree}
use Rattle.joint_partition.specs.Term.{JointFamily, JointTerm}
use Rattle.joint_partition.specs.View.{family_of, joint_of, split_of}
use Rattle.joint_text.specs.Families.{families_shape}
use Rattle.json_parts.specs.OneToMost.{one_to_most_shape}
use Rattle.joint_text.specs.Parts.{IsPart, WrittenPart, part_shape, written_part}
use Rattle.joint_text.specs.Splits.{split_shape}

-- what a joint term claims, the polynomials of its parts and credits as they are written
pub record WrittenJoint : Type 0 where
  pub parts : List WrittenPart
  pub distinct : List SplitTree
  pub q : ℕ
  pub a : ℕ
  pub b : ℕ
  pub credits : List WrittenCredit
  pub families : List JointFamily
  pub apart : List FarkasMultipliers

abbrev pub JointMembers : Type 0
JointMembers = ℕ × (List FarkasMultipliers × (ℕ × (List WrittenCredit × (List SplitTree × (List JointFamily × (List WrittenPart × (ℕ × Unit {0})))))))

abbrev pub joint_fields : Fields JointMembers
joint_fields =
    field (codes "a") (natural_shape 0 STRETCH)
    (field (codes "apart") all_multipliers_shape
    (field (codes "b") (natural_shape 0 STRETCH_MORE)
    (field (codes "credits") (few_shape JOINT_CREDITS credit_shape)
    (field (codes "distinct") (list_shape split_shape)
    (field (codes "families") families_shape
    (field (codes "parts") (one_to_most_shape PARTS part_shape)
    (field (codes "q") (natural_shape 1 WEIGHT)
    no_fields)))))))

abbrev pub joint_made : JointMembers → WrittenJoint
joint_made b = record { parts = b.1.1.1.1.1.1.0; distinct = b.1.1.1.1.0; q = b.1.1.1.1.1.1.1.0; a = b.0; b = b.1.1.0; credits = b.1.1.1.0; families = b.1.1.1.1.1.0; apart = b.1.0 }

abbrev pub joint_members : WrittenJoint → JointMembers
joint_members joint = (joint.a, (joint.apart, (joint.b, (joint.credits, (joint.distinct, (joint.families, (joint.parts, (joint.q, tt))))))))

unfoldable pub members_shape : Shape WrittenJoint
members_shape = record_shape joint_fields joint_made joint_members (λ b. refl)

-- its stretches have events
abbrev pub has_events : WrittenJoint → Bool
has_events joint = nat_le 1 (joint.a + joint.b)

-- A joint term. That its stretches have events is tested behind its members; else a is at fault.
unfoldable pub joint_shape : Shape WrittenJoint
joint_shape = tested_at_shape (codes "a") members_shape has_events

-- a credited nest with what is claimed of it is the one that is written
abbrev pub IsCreditTerm : WrittenCredit → CreditTerm → Type 0
IsCreditTerm written credit = IsCredited written credit.nest credit.count

-- A term is the one that is written: its numbers, splits, families and multipliers are, and its parts and credits, which claim the
-- same by polynomials with the values of those that are written.
pub record IsJoint (written : WrittenJoint) (term : JointTerm) : Type 0 where
  pub parts : AreAll IsPart written.parts term.parts
  pub distinct : term.distinct ≡ written.distinct
  pub q : term.q ≡ written.q
  pub a : term.a ≡ written.a
  pub b : term.b ≡ written.b
  pub credits : AreAll IsCreditTerm written.credits term.credits
  pub families : term.families ≡ written.families
  pub apart : term.apart ≡ written.apart

-- a term as it is written, its polynomials by their terms in the order in which they are printed
abbrev pub written_joint : Joint → WrittenJoint
written_joint joint = record {
  parts = map written_part joint.parts.items;
  distinct = map split_of joint.distinct.items;
  q = joint.q;
  a = joint.a;
  b = joint.b;
  credits = map written_credit joint.credits.items;
  families = map family_of joint.families.items;
  apart = joint.apart.items;
}

abbrev pub joint_link : Link WrittenJoint Joint
joint_link = other_link written_joint (λ said joint. IsJoint said (joint_of joint))

-- A term that is one that is written within the limits of texts is within the limits.
abbrev pub JointsAreWithinLimits : Type 0
JointsAreWithinLimits = (said : WrittenJoint) (joint : Joint) → IsJoint said (joint_of joint) → joint_shape.IsWithin said → IsSmallJoint joint
