-- The texts of terms and branches.
use Rattle.std.specs.Prelude.{◌≡◌, List, codes, true, IfOk, refl}
use Rattle.affine_form.specs.Multipliers.{FarkasMultipliers}
use Rattle.serde_json.specs.Data.{Data, null, object}
use Rattle.json_parts.specs.Fields.{Fields, no_fields, field, record_shape, told, told-kept}
use Rattle.json_parts.specs.Json.{has_keys}
use Rattle.json_parts.specs.Outcome.{Outcome, fault}
use Rattle.json_parts.specs.Shape.{Shape, few_shape}
use Rattle.certificate_parts.specs.Multipliers.{all_multipliers_shape}
use Rattle.iolb_cert.specs.ColdTexts.{cold_shape}
use Rattle.iolb_cert.specs.FrontTexts.{front_shape}
use Rattle.iolb_cert.specs.PartitionTexts.{partition_shape}
use Rattle.iolb_cert.specs.Read.{WrittenCold, WrittenPartition, WrittenFront, WrittenTerm, as_cold, as_partition, as_front, as_joint, WrittenBranch}
use Rattle.joint_text.specs.Joint.{WrittenJoint, joint_shape}
use Rattle.iolb_model.specs.declared.limits.TheConstants.{TERMS as MOST}

-- ---- a term, told by its key

abbrev pub cold_term_fields : Fields (WrittenCold × Unit {0})
cold_term_fields = field (codes "cold") cold_shape no_fields

abbrev pub partition_term_fields : Fields (WrittenPartition × Unit {0})
partition_term_fields = field (codes "partition") partition_shape no_fields

abbrev pub front_term_fields : Fields (WrittenFront × Unit {0})
front_term_fields = field (codes "wavefront") front_shape no_fields

abbrev pub joint_term_fields : Fields (WrittenJoint × Unit {0})
joint_term_fields = field (codes "joint") joint_shape no_fields

abbrev pub reads_joint_term : Data → Outcome WrittenTerm
reads_joint_term = told joint_term_fields (λ b. as_joint b.0) (λ _. fault 2)

abbrev pub reads_front_term : Data → Outcome WrittenTerm
reads_front_term = told front_term_fields (λ b. as_front b.0) reads_joint_term

abbrev pub reads_later_term : Data → Outcome WrittenTerm
reads_later_term = told partition_term_fields (λ b. as_partition b.0) reads_front_term

unfoldable pub reads_term : Data → Outcome WrittenTerm
reads_term d = told cold_term_fields (λ b. as_cold b.0) reads_later_term d

abbrev pub term_data : WrittenTerm → Data
term_data (as_cold cold) = object (cold_term_fields.members (cold, tt))
term_data (as_partition partition) = object (partition_term_fields.members (partition, tt))
term_data (as_front front) = object (front_term_fields.members (front, tt))
term_data (as_joint joint) = object (joint_term_fields.members (joint, tt))

-- a term as it is written is within its limits
abbrev pub IsSmallWrittenTerm : WrittenTerm → Type 0
IsSmallWrittenTerm (as_cold cold) = cold_shape.IsWithin cold
IsSmallWrittenTerm (as_partition partition) = partition_shape.IsWithin partition
IsSmallWrittenTerm (as_front front) = front_shape.IsWithin front
IsSmallWrittenTerm (as_joint joint) = joint_shape.IsWithin joint

pub term-kept : (d : Data) → IfOk (reads_term d) IsSmallWrittenTerm
unfolding reads_term
term-kept d =
    told-kept cold_term_fields (λ b. as_cold b.0) reads_later_term IsSmallWrittenTerm (λ b small. small.0)
    (told-kept partition_term_fields (λ b. as_partition b.0) reads_front_term IsSmallWrittenTerm (λ b small. small.0)
    (told-kept front_term_fields (λ b. as_front b.0) reads_joint_term IsSmallWrittenTerm (λ b small. small.0)
    (told-kept joint_term_fields (λ b. as_joint b.0) (λ _. fault 2) IsSmallWrittenTerm (λ b small. small.0) (λ d. tt)))) d

pub term-null : reads_term null ≡ fault 2
unfolding reads_term has_keys
term-null = refl

abbrev pub term_shape : Shape WrittenTerm
term_shape = record { reads = reads_term; data_of = term_data; IsWithin = IsSmallWrittenTerm; kept = term-kept; is_present = true; present = λ _. term-null }

-- ---- a branch: at most 16 terms

abbrev pub BranchMembers : Type 0
BranchMembers = List FarkasMultipliers × (List WrittenTerm × Unit {0})

abbrev pub branch_fields : Fields BranchMembers
branch_fields = field (codes "disjoint") all_multipliers_shape (field (codes "terms") (few_shape MOST term_shape) no_fields)

abbrev pub branch_made : BranchMembers → WrittenBranch
branch_made b = record { terms = b.1.0; disjoint = b.0 }

unfoldable pub branch_shape : Shape WrittenBranch
branch_shape = record_shape branch_fields branch_made (λ branch. (branch.disjoint, (branch.terms, tt))) (λ b. refl)
