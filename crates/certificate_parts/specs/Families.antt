-- The texts of families of walks.
use Rattle.std.specs.Prelude.{◌≡◌, ℕ, ◌≤◌, List, [], ◌∷◌, length, sum_by, Bool, true, nat_le, codes, Option, None, Some, IfSome}
use Rattle.std.proofs.lemmas.Bool.{leb-true}
use Rattle.std.specs.List.{AllByRecursion}
use Rattle.iolb_model.specs.Form.{AffineForm}
use Rattle.iolb_model.specs.declared.limits.TheConstants.{FAMILIES, SCALE as GREATEST_SCALE, WEIGHT as GREATEST_WEIGHT, WEIGHTS}
use Rattle.certificate_fit.specs.Limits.{AreSmall, IsSmallWalk, IsSmallNode, IsSmallLabel, IsSmallFamilyNode, IsSmallFamily}
use Rattle.reuse_paths.specs.Families.{NodeForms, FamilyForms}
use Rattle.reuse_paths.specs.Walks.{WalkTree, WalkRegion}
use Rattle.serde_json.specs.Data.{Data}
use Rattle.json_parts.specs.Fields.{Fields, no_fields, field, object_shape}
use Rattle.json_parts.specs.OneToMost.{one_to_most_shape}
use Rattle.json_parts.specs.Shape.{Shape, natural_shape, list_shape, or_null_shape, made_shape, tested_shape}
use Rattle.certificate_parts.specs.Forms.{forms_shape}
use Rattle.certificate_parts.specs.Reaches.{region_shape}
use Rattle.certificate_parts.specs.Walks.{walk_shape}

-- ---- what is said of a statement: the label of an instance, and a region or null

abbrev pub node_fields : Fields (List AffineForm × (Option WalkRegion × Unit {0}))
node_fields = field (codes "label") forms_shape (field (codes "region") (or_null_shape region_shape) no_fields)

abbrev pub node_made : List AffineForm × (Option WalkRegion × Unit {0}) → NodeForms
node_made b = record { label = b.0; region = b.1.0 }

-- what is said of a statement is within its limits
pub record IsSmallForms (node : NodeForms) : Type 0 where
  pub label : AreSmall node.label
  pub region : IsSmallNode node.region

pub small-node : (node : Option WalkRegion) → IfSome node region_shape.IsWithin → IsSmallNode node
unfolding region_shape
small-node None small = tt
small-node (Some region) small = small

unfoldable pub node_shape : Shape NodeForms
node_shape = made_shape (object_shape node_fields) node_made (λ node. (node.label, (node.region, tt))) IsSmallForms (λ b small. record { label = small.0; region = small-node b.1.0 small.1.0 })

-- ---- the label of an instance that is counted, and its walk

abbrev pub start_fields : Fields (List AffineForm × (WalkTree × Unit {0}))
start_fields = field (codes "label") forms_shape (field (codes "tree") walk_shape no_fields)

abbrev pub IsSmallStart : List AffineForm × WalkTree → Type 0
IsSmallStart start = AreSmall start.0 × IsSmallWalk start.1

abbrev pub start_made : List AffineForm × (WalkTree × Unit {0}) → List AffineForm × WalkTree
start_made b = (b.0, b.1.0)

unfoldable pub start_shape : Shape (List AffineForm × WalkTree)
start_shape = made_shape (object_shape start_fields) start_made (λ start. (start.0, (start.1, tt))) IsSmallStart (λ b small. (small.0, small.1.0))

-- ---- a family: a scale from 1 to 2^20, and a weight from 1 to 12

abbrev pub FamilyMembers : Type 0
FamilyMembers = List (Option (List AffineForm)) × (List (Option NodeForms) × (ℕ × (List ℕ × ((List AffineForm × WalkTree) × (ℕ × Unit {0})))))

abbrev pub family_fields : Fields FamilyMembers
family_fields =
    field (codes "inputs") (list_shape (or_null_shape forms_shape))
    (field (codes "nodes") (list_shape (or_null_shape node_shape))
    (field (codes "scale") (natural_shape 1 GREATEST_SCALE)
    (field (codes "set") (list_shape (natural_shape 0 255))
    (field (codes "start") start_shape
    (field (codes "weight") (natural_shape 1 GREATEST_WEIGHT)
    no_fields)))))

abbrev pub family_made : FamilyMembers → FamilyForms
family_made b = record { scale = b.1.1.0; set = b.1.1.1.0; weight = b.1.1.1.1.1.0; start_label = b.1.1.1.1.0.0; start = b.1.1.1.1.0.1; nodes = b.1.0; inputs = b.0 }

abbrev pub family_parts : FamilyForms → FamilyMembers
family_parts family = (family.inputs, (family.nodes, (family.scale, (family.set, ((family.start_label, family.start), (family.weight, tt))))))

pub small-labels : (labels : List (Option (List AffineForm))) → AllByRecursion (λ label. IfSome label forms_shape.IsWithin) labels → AllByRecursion IsSmallLabel labels
small-labels [] all = tt
small-labels (None ∷ labels) all = (tt, small-labels labels all.1)
small-labels (Some label ∷ labels) all = (all.0, small-labels labels all.1)

pub small-nodes : (nodes : List (Option NodeForms)) → AllByRecursion (λ node. IfSome node node_shape.IsWithin) nodes → AllByRecursion IsSmallFamilyNode nodes
unfolding node_shape
small-nodes [] all = tt
small-nodes (None ∷ nodes) all = (tt, small-nodes nodes all.1)
small-nodes (Some node ∷ nodes) all = ((all.0.label, all.0.region), small-nodes nodes all.1)

pub family-kept : (b : FamilyMembers) → (object_shape family_fields).IsWithin b → IsSmallFamily (family_made b)
unfolding start_shape
family-kept b small = record {
  some_scale = small.1.1.0.0;
  scale = small.1.1.0.1;
  some_weight = small.1.1.1.1.1.0.0;
  weight = small.1.1.1.1.1.0.1;
  start_label = small.1.1.1.1.0.0;
  start = small.1.1.1.1.0.1;
  nodes = small-nodes b.1.0 small.1.0;
  inputs = small-labels b.0 small.0;
}

unfoldable pub family_shape : Shape FamilyForms
family_shape = made_shape (object_shape family_fields) family_made family_parts IsSmallFamily family-kept

-- ---- one to six families, their weights 24 together at most

-- the weights of families together
abbrev pub weights_of : List FamilyForms → ℕ
weights_of families = sum_by (λ (family : FamilyForms). family.weight) families

abbrev pub are_light : List FamilyForms → Bool
are_light families = nat_le (weights_of families) WEIGHTS

pub record AreSmallFamilies (families : List FamilyForms) : Type 0 where
  pub all : AllByRecursion IsSmallFamily families
  pub some : 1 ≤ length families
  pub few : length families ≤ FAMILIES
  pub light : weights_of families ≤ WEIGHTS

pub families-kept : (families : List FamilyForms) → (one_to_most_shape FAMILIES family_shape).IsWithin families → are_light families ≡ true → AreSmallFamilies families
unfolding family_shape
families-kept families small is = record { all = small.all; some = small.some; few = small.few; light = leb-true (weights_of families) WEIGHTS is }

unfoldable pub families_shape : Shape (List FamilyForms)
families_shape = tested_shape (one_to_most_shape FAMILIES family_shape) are_light AreSmallFamilies families-kept

abbrev pub family_data : FamilyForms → Data
family_data = family_shape.data_of

abbrev pub families_data : List FamilyForms → Data
families_data = families_shape.data_of
