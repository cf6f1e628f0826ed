-- Joint partition terms, as plain values: points of several statements, or of one under several images, are counted in one space.
use Rattle.std.specs.Prelude.{ℕ, pos, List, [], ◌∷◌, map, Option, None, slice_index_or, option_map}
use Rattle.iolb_model.specs.Form.{AffineForm}
use Rattle.affine_form.specs.Combination.{scale_form}
use Rattle.affine_form.specs.Matrix.{IntegerMatrix}
use Rattle.affine_form.specs.Multipliers.{FarkasMultipliers}
use Rattle.domain_count.specs.Claims.{SumClaims}
use Rattle.k_partition.specs.Term.{CreditTerm}
use Rattle.reuse_paths.specs.Families.{CreditedNest, FamilyForms, NodeForms}
use Rattle.reuse_paths.specs.Walks.{WalkRegion, WalkTree, take}
use Rattle.joint_partition.specs.Splits.{SplitTree}

-- A part: the instances of a statement in a nest, with what is claimed of their number and what shows that they are instances;
-- the map to their images, as forms over the parameters and the loop values; and a scaled inverse of its matrix.
pub record PartTerm : Type 0 where
  pub statement : ℕ
  pub nest : List (AffineForm × AffineForm)
  pub count : SumClaims
  pub inside : List FarkasMultipliers
  pub image : List AffineForm
  pub inverse : IntegerMatrix
  pub scale : ℕ

-- A labeling: for each statement no label, or that of its instances, as forms over the parameters and the loop values; and for
-- each array no label, or that of its cells, as forms over the parameters and the subscripts.
pub record LabelForms : Type 0 where
  pub nodes : List (Option (List AffineForm))
  pub inputs : List (Option (List AffineForm))

-- A way: the number of a labeling, and for each statement none, or the region from which walks go on.
pub record WayTerm : Type 0 where
  pub labels : ℕ
  pub regions : List (Option WalkRegion)

-- How walks start from the points of a part, and the number of the way that they enter.
pub record StartTerm : Type 0 where
  pub way : ℕ
  pub tree : WalkTree

-- A family: the coordinates of its set with a weight; the scale with which a start label has them; the number of its group; its
-- labelings and its ways; and a start for each part.
pub record JointFamily : Type 0 where
  pub group : ℕ
  pub scale : ℕ
  pub set : List ℕ
  pub weight : ℕ
  pub labels : List LabelForms
  pub ways : List WayTerm
  pub starts : List StartTerm

-- A joint partition term: its parts; what shows that the images of each two of them differ; how often the families' sets cover
-- the coordinates; a and b, which say how many events a stretch has; the credited nests; the families; and what shows that no
-- two families of different groups have a word in common.
pub record JointTerm : Type 0 where
  pub parts : List PartTerm
  pub distinct : List SplitTree
  pub q : ℕ
  pub a : ℕ
  pub b : ℕ
  pub credits : List CreditTerm
  pub families : List JointFamily
  pub apart : List FarkasMultipliers

-- the nests that are credited
abbrev pub credited_nests : JointTerm → List CreditedNest
credited_nests term = map (λ (credit : CreditTerm). credit.nest) term.credits

-- ---- the walks of a family from a part

abbrev pub no_labels : LabelForms
no_labels = record { nodes = []; inputs = [] }

abbrev pub no_way : WayTerm
no_way = record { labels = 0; regions = [] }

abbrev pub no_form : AffineForm
no_form = record { coefficients = []; constant = pos 0 }

-- the way and the labeling with a number
abbrev pub way_at : JointFamily → ℕ → WayTerm
way_at family number = slice_index_or family.ways number no_way

abbrev pub labels_of : JointFamily → ℕ → LabelForms
labels_of family number = slice_index_or family.labels number no_labels

-- The start label: the scale times the coordinates of the set.
abbrev pub start_label : PartTerm → JointFamily → List AffineForm
start_label part family = map (λ (i : ℕ). scale_form (pos family.scale) (slice_index_or part.image i no_form)) family.set

-- what a way says of a statement: its label, and its region, where it has a label
abbrev pub way_node : Option WalkRegion → List AffineForm → NodeForms
way_node region label = record { label = label; region = region }

abbrev pub way_nodes : List (Option (List AffineForm)) → List (Option WalkRegion) → List (Option NodeForms)
way_nodes [] regions = []
way_nodes (label ∷ labels) [] = option_map (way_node None) label ∷ way_nodes labels []
way_nodes (label ∷ labels) (region ∷ regions) = option_map (way_node region) label ∷ way_nodes labels regions

-- Walks with a labeling, which go on in these regions, as a family of one nest: they start by this tree with this label.
abbrev pub walks_with : JointFamily → LabelForms → List (Option WalkRegion) → List AffineForm → WalkTree → FamilyForms
walks_with family labels regions label tree = record {
  scale = family.scale;
  set = family.set;
  weight = family.weight;
  start_label = label;
  start = tree;
  nodes = way_nodes labels.nodes regions;
  inputs = labels.inputs;
}

-- The walks of a family from a part's points: the part, the number of their labeling, and the walks by the part's start, which
-- go on in the regions of the way that they enter.
pub record PartWalks : Type 0 where
  pub part : PartTerm
  pub labeling : ℕ
  pub walks : FamilyForms

abbrev pub walks_from : JointFamily → PartTerm → StartTerm → PartWalks
walks_from family part start =
    let way = way_at family start.way in
    record { part = part; labeling = way.labels; walks = walks_with family (labels_of family way.labels) way.regions (start_label part family) start.tree }

-- those from each part
abbrev pub part_walks : JointFamily → List PartTerm → List StartTerm → List PartWalks
part_walks family [] starts = []
part_walks family (part ∷ parts) [] = []
part_walks family (part ∷ parts) (start ∷ starts) = walks_from family part start ∷ part_walks family parts starts

-- a way as walks with its labeling, of which only the regions count
abbrev pub way_walks : JointFamily → WayTerm → FamilyForms
way_walks family way = walks_with family (labels_of family way.labels) way.regions [] (take 0 [])
