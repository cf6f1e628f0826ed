-- Families of walks, as plain values: walks back along the sources of reads whose words all have the label of their start.
-- (Reuse paths, as in Olivry et al. 2020; labels in place of paths.)
use Rattle.std.specs.Prelude.{ℕ, List, map, Option, None, option_map, option_and_then, slice_index_or, Vec, Box}
use Rattle.std.specs.Global.{Global}
use Rattle.std.specs.Box.{box_value}
use Rattle.iolb_model.specs.Form.{AffineForm}
use Rattle.reuse_paths.specs.Walks.{WalkTree, tree_of_walk, WalkRegion, boxed_region}
use Rattle.reuse_paths.specs.declared.family.Credit.{Credit}
use Rattle.reuse_paths.specs.declared.family.Family.{Family}
use Rattle.reuse_paths.specs.declared.family.FamilyNode.{FamilyNode}
use Rattle.reuse_paths.specs.declared.family.Nodes.{Nodes}
use Rattle.reuse_paths.specs.declared.family.Nodes.TheVariants as held

-- A nest of instances of a statement, by their loop values, in which walks may stop.
pub record CreditedNest : Type 0 where
  pub statement : ℕ
  pub nest : List (AffineForm × AffineForm)

-- What a family says of a statement: the label of an instance, as forms over the parameters and the loop values; and, where
-- walks go on from some of the instances, from which and how.
pub record NodeForms : Type 0 where
  pub label : List AffineForm
  pub region : Option WalkRegion

-- A family: the label of an instance that is counted, as forms over the parameters and the loop values, and how its walk
-- begins; one or no node for each statement; and for each array no label, or that of a cell, as forms over the parameters
-- and the subscripts. The numbers of the start label's loop values are the scale times the rows of a matrix in the set,
-- which has a weight.
pub record FamilyForms : Type 0 where
  pub scale : ℕ
  pub set : List ℕ
  pub weight : ℕ
  pub start_label : List AffineForm
  pub start : WalkTree
  pub nodes : List (Option NodeForms)
  pub inputs : List (Option (List AffineForm))

-- the label and the region of a node, where there is one
abbrev pub node_label : Option NodeForms → Option (List AffineForm)
node_label node = option_map (λ (n : NodeForms). n.label) node

abbrev pub node_region : Option NodeForms → Option WalkRegion
node_region node = option_and_then (λ (n : NodeForms). n.region) node

-- the label with this number in a list, where there is one
abbrev pub label_at : List (Option (List AffineForm)) → ℕ → Option (List AffineForm)
label_at labels number = slice_index_or labels number None

-- ---- what the code holds

abbrev pub credit_of : Credit → CreditedNest
credit_of credit = record { statement = credit.statement; nest = credit.nest }

abbrev pub node_of : FamilyNode → NodeForms
node_of node = record { label = node.label.items; region = option_map boxed_region node.region }

-- a node in its box
abbrev pub boxed_node : Box FamilyNode Global → NodeForms
boxed_node node = node_of (box_value node)

-- a label in its box
abbrev pub boxed_forms : Box (Vec AffineForm Global) Global → List AffineForm
boxed_forms forms = (box_value forms).items

abbrev pub family_of : Family → FamilyForms
family_of family = record {
  scale = family.scale;
  set = family.set;
  weight = family.weight;
  start_label = family.start_label.items;
  start = tree_of_walk family.start;
  nodes = map (option_map boxed_node) family.nodes.items;
  inputs = map (option_map boxed_forms) family.inputs.items;
}

-- the labels of statements, and the regions, that the code holds
abbrev pub labels_of : Nodes → List (Option (List AffineForm))
labels_of (held.Together nodes) = map node_label (map (option_map boxed_node) nodes.now)
labels_of (held.Apart labels regions) = map (option_map boxed_forms) labels.now

abbrev pub regions_of : Nodes → List (Option WalkRegion)
regions_of (held.Together nodes) = map node_region (map (option_map boxed_node) nodes.now)
regions_of (held.Apart labels regions) = map (option_map boxed_region) regions.now
