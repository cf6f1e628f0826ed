-- The texts of families.
use Rattle.std.specs.Prelude.{◌≡◌, ℕ, ◌≤◌, List, [], ◌∷◌, Bool, true, nat_le, codes, sum_by, Option, None, Some, IfSome}
use Rattle.std.proofs.Common.{arith}
use Rattle.std.proofs.lemmas.Bool.{leb-true}
use Rattle.std.specs.List.{AllByRecursion}
use Rattle.iolb_model.specs.declared.limits.TheConstants.{FAMILIES, SCALE as GREATEST_SCALE, WEIGHT as GREATEST_WEIGHT}
use Rattle.iolb_model.specs.Form.{AffineForm}
use Rattle.certificate_fit.specs.Limits.{IsSmallNode}
use Rattle.reuse_paths.specs.Walks.{WalkRegion, WalkTree}
use Rattle.json_parts.specs.Fields.{Fields, no_fields, field, object_shape}
use Rattle.json_parts.specs.Shape.{Shape, list_shape, made_shape, natural_shape, or_null_shape, tested_shape}
use Rattle.certificate_parts.specs.Families.{small-labels}
use Rattle.certificate_parts.specs.Forms.{forms_shape}
use Rattle.certificate_parts.specs.Reaches.{region_shape}
use Rattle.certificate_parts.specs.Walks.{walk_shape}
use Rattle.joint_partition.specs.declared.limits.TheConstants.{JOINT_WEIGHTS, LABELINGS, WAYS}
use Rattle.joint_partition.specs.Limits.{IsSmallJointFamily, IsSmallLabeling, IsSmallStart, IsSmallWay}
use Rattle.joint_partition.specs.Term.{JointFamily, LabelForms, StartTerm, WayTerm}
use Rattle.json_parts.specs.OneToMost.{AreOneToMost, one_to_most_shape}

-- ---- labelings: for each array and each statement a label or null

abbrev pub LabelingMembers : Type 0
LabelingMembers = List (Option (List AffineForm)) × (List (Option (List AffineForm)) × Unit {0})

abbrev pub labeling_fields : Fields LabelingMembers
labeling_fields = field (codes "inputs") (list_shape (or_null_shape forms_shape)) (field (codes "nodes") (list_shape (or_null_shape forms_shape)) no_fields)

abbrev pub labeling_made : LabelingMembers → LabelForms
labeling_made b = record { nodes = b.1.0; inputs = b.0 }

unfoldable pub labeling_shape : Shape LabelForms
labeling_shape =
    made_shape (object_shape labeling_fields) labeling_made (λ labels. (labels.inputs, (labels.nodes, tt))) IsSmallLabeling (λ b small. (small-labels b.1.0 small.1.0, small-labels b.0 small.0))

-- ---- ways: the number of a labeling, and for each statement a region or null

abbrev pub way_fields : Fields (ℕ × (List (Option WalkRegion) × Unit {0}))
way_fields = field (codes "labels") (natural_shape 0 255) (field (codes "regions") (list_shape (or_null_shape region_shape)) no_fields)

abbrev pub way_made : ℕ × (List (Option WalkRegion) × Unit {0}) → WayTerm
way_made b = record { labels = b.0; regions = b.1.0 }

pub small-regions : (regions : List (Option WalkRegion)) → AllByRecursion (λ region. IfSome region region_shape.IsWithin) regions → AllByRecursion IsSmallNode regions
unfolding region_shape
small-regions [] all = tt
small-regions (None ∷ regions) all = (tt, small-regions regions all.1)
small-regions (Some region ∷ regions) all = (all.0, small-regions regions all.1)

unfoldable pub way_shape : Shape WayTerm
way_shape = made_shape (object_shape way_fields) way_made (λ way. (way.labels, (way.regions, tt))) IsSmallWay (λ b small. small-regions b.1.0 small.1.0)

-- ---- starts: a walk, and the number of the way that it enters

abbrev pub start_fields : Fields (WalkTree × (ℕ × Unit {0}))
start_fields = field (codes "tree") walk_shape (field (codes "way") (natural_shape 0 255) no_fields)

abbrev pub start_made : WalkTree × (ℕ × Unit {0}) → StartTerm
start_made b = record { way = b.1.0; tree = b.0 }

unfoldable pub start_shape : Shape StartTerm
start_shape = made_shape (object_shape start_fields) start_made (λ start. (start.tree, (start.way, tt))) IsSmallStart (λ b small. small.0)

-- ---- a family: one of 6 groups, 1 to 4 labelings, a scale from 1 to 2^20, 1 to 8 ways, and a weight from 1 to 12

abbrev pub JointFamilyMembers : Type 0
JointFamilyMembers = ℕ × (List LabelForms × (ℕ × (List ℕ × (List StartTerm × (List WayTerm × (ℕ × Unit {0}))))))

abbrev pub joint_family_fields : Fields JointFamilyMembers
joint_family_fields =
    field (codes "group") (natural_shape 0 5)
    (field (codes "labels") (one_to_most_shape LABELINGS labeling_shape)
    (field (codes "scale") (natural_shape 1 GREATEST_SCALE)
    (field (codes "set") (list_shape (natural_shape 0 255))
    (field (codes "starts") (list_shape start_shape)
    (field (codes "ways") (one_to_most_shape WAYS way_shape)
    (field (codes "weight") (natural_shape 1 GREATEST_WEIGHT)
    no_fields))))))

abbrev pub family_made : JointFamilyMembers → JointFamily
family_made b = record { group = b.0; scale = b.1.1.0; set = b.1.1.1.0; weight = b.1.1.1.1.1.1.0; labels = b.1.0; ways = b.1.1.1.1.1.0; starts = b.1.1.1.1.0 }

abbrev pub family_parts : JointFamily → JointFamilyMembers
family_parts family = (family.group, (family.labels, (family.scale, (family.set, (family.starts, (family.ways, (family.weight, tt)))))))

pub family-kept : (b : JointFamilyMembers) → (object_shape joint_family_fields).IsWithin b → IsSmallJointFamily (family_made b)
unfolding labeling_shape way_shape start_shape
family-kept b small = record {
  group = omega (arith, small.0.1);
  some_scale = small.1.1.0.0;
  scale = small.1.1.0.1;
  some_weight = small.1.1.1.1.1.1.0.0;
  weight = small.1.1.1.1.1.1.0.1;
  some_labels = small.1.0.some;
  few_labels = small.1.0.few;
  labels = small.1.0.all;
  some_ways = small.1.1.1.1.1.0.some;
  few_ways = small.1.1.1.1.1.0.few;
  ways = small.1.1.1.1.1.0.all;
  starts = small.1.1.1.1.0;
}

unfoldable pub family_shape : Shape JointFamily
family_shape = made_shape (object_shape joint_family_fields) family_made family_parts IsSmallJointFamily family-kept

-- ---- one to six families, their weights 16 together at most

-- the weights of families together
abbrev pub weights_of : List JointFamily → ℕ
weights_of families = sum_by (λ (family : JointFamily). family.weight) families

abbrev pub are_light : List JointFamily → Bool
are_light families = nat_le (weights_of families) JOINT_WEIGHTS

pub record AreSmallFamilies (families : List JointFamily) : Type 0 where
  pub some : AreOneToMost FAMILIES IsSmallJointFamily families
  pub light : weights_of families ≤ JOINT_WEIGHTS

pub families-kept : (families : List JointFamily) → (one_to_most_shape FAMILIES family_shape).IsWithin families → are_light families ≡ true → AreSmallFamilies families
unfolding family_shape
families-kept families small is = record { some = small; light = leb-true (weights_of families) JOINT_WEIGHTS is }

unfoldable pub families_shape : Shape (List JointFamily)
families_shape = tested_shape (one_to_most_shape FAMILIES family_shape) are_light AreSmallFamilies families-kept
