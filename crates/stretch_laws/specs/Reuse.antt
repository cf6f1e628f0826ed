-- Words that counted points of a computation graph reuse, along walks from each point back from reader to source. (Reuse paths, as in
-- Olivry et al. 2020, with labels in place of paths.) Points of several statements are counted in one space, and an instance that
-- is counted under several images is several points; families of walks stand in groups, and may share words within theirs.
use Rattle.std.specs.Prelude.{◌≡◌, ℕ, ◌*◌, ◌^◌, ◌<◌, ◌≤◌, Bool, true, false, cond, ℤ, pos, List, flat_map, map, length, slice_index_or, sum_by, Contains, IsTrue}
use Rattle.std.specs.List.{AllByRecursion, IsDistinct}
use Rattle.iolb_model.specs.Graph.{ComputationGraph}
use Rattle.iolb_model.specs.Game.{predecessors_at, stands_in}
use Rattle.iolb_model.specs.Footprint.{ArePairwiseDisjoint}
use Rattle.uniform_cover.specs.Products.{product_by}
use Rattle.uniform_cover.specs.Projection.{same_point}

-- a counted point: the vertex of an instance, and its image in the space of points
pub record CountedPoint : Type 0 where
  pub vertex : ℕ
  pub image : List ℤ

-- a labeling: the words on walks past their starts, and a label of each
pub record Labeling : Type 0 where
  pub words : List ℕ
  pub label : ℕ → List ℤ

-- A family of walks: its labelings, so a word has a label in each of them; a label of each point from which a walk starts; and a
-- set of coordinates with its weight.
pub record WalkFamily : Type 0 where
  pub labelings : List Labeling
  pub start : CountedPoint → List ℤ
  pub has : ℕ → Bool
  pub weight : ℕ

-- Counted points, whose images have so many coordinates each; the families of their walks, group by group; and the vertices that
-- are credited.
pub record JointPartition : Type 0 where
  pub points : List CountedPoint
  pub dimensions : ℕ
  pub groups : List (List WalkFamily)
  pub credited : List ℕ

-- a coordinate of a point's image
abbrev pub coordinate_of : CountedPoint → ℕ → ℤ
coordinate_of point i = slice_index_or point.image i (pos 0)

-- the words of a family in all its labelings, those of a group, and those of all groups
abbrev pub words_in : WalkFamily → List ℕ
words_in family = flat_map (λ (labeling : Labeling). labeling.words) family.labelings

abbrev pub group_words : List WalkFamily → List ℕ
group_words group = flat_map words_in group

abbrev pub joint_words : JointPartition → List ℕ
joint_words partition = flat_map group_words partition.groups

-- the sum of a group's weights, and that of all groups'
abbrev pub group_weight : List WalkFamily → ℕ
group_weight group = sum_by (λ (family : WalkFamily). family.weight) group

abbrev pub joint_weight : JointPartition → ℕ
joint_weight partition = sum_by group_weight partition.groups

-- one of a vertex's predecessors is one of these words, with this value of their label
pub record ReadsWord (graph : ComputationGraph) (words : List ℕ) (label : ℕ → List ℤ) (vertex : ℕ) (value : List ℤ) : Type 0 where
  pub word : ℕ
  pub read : Contains (predecessors_at graph vertex) word
  pub stands : stands_in words word ≡ true
  pub same : label word ≡ value

-- a point reads a word that has the label of its start, in one of the family's labelings
pub record BeginsWalk (graph : ComputationGraph) (family : WalkFamily) (point : CountedPoint) : Type 0 where
  pub labeling : Labeling
  pub is : Contains family.labelings labeling
  pub reads : ReadsWord graph labeling.words labeling.label point.vertex (family.start point)

-- each word of a labeling that is an instance and isn't credited reads a word with its own label in this labeling
abbrev pub GoesOn : ComputationGraph → List ℕ → Labeling → Type 0
GoesOn graph credited labeling = (vertex : ℕ) → stands_in labeling.words vertex ≡ true → vertex < graph.instances → stands_in credited vertex ≡ false
    → ReadsWord graph labeling.words labeling.label vertex (labeling.label vertex)

-- A family is sound: each point begins a walk, and each walk goes on in its labeling. So the words of a walk have one label there.
pub record IsSoundFamily (graph : ComputationGraph) (partition : JointPartition) (family : WalkFamily) : Type 0 where
  pub begins : (point : CountedPoint) → Contains partition.points point → BeginsWalk graph family point
  pub goes_on : AllByRecursion (GoesOn graph partition.credited) family.labelings

-- the label of a point's start fixes the coordinates of its image in the family's set
abbrev pub FixesCoordinates : JointPartition → WalkFamily → Type 0
FixesCoordinates partition family = (one other : CountedPoint) → Contains partition.points one → Contains partition.points other → family.start one ≡ family.start other
    → (i : ℕ) → i < partition.dimensions → IsTrue (family.has i) → coordinate_of one i ≡ coordinate_of other i

-- the weights of a group's families whose set has a coordinate, added up
abbrev pub weight_at : ℕ → List WalkFamily → ℕ
weight_at i group = sum_by (λ (family : WalkFamily). cond (family.has i) family.weight 0) group

-- The points' images differ and have so many coordinates, and each coordinate lies in sets of total weight at least q. (A uniform
-- cover, as in Bollobás and Thomason 1995.)
pub record IsCovered (q : ℕ) (partition : JointPartition) : Type 0 where
  pub positive : 1 ≤ q
  pub long : AllByRecursion (λ (point : CountedPoint). length point.image ≡ partition.dimensions) partition.points
  pub distinct : IsDistinct same_point (map (λ (point : CountedPoint). point.image) partition.points)
  pub fixed : AllByRecursion (AllByRecursion (FixesCoordinates partition)) partition.groups
  pub covered : (i : ℕ) → i < partition.dimensions → q ≤ sum_by (weight_at i) partition.groups

-- A joint partition is sound at a graph: each family is, the sets cover the coordinates q times, and no two groups have a word in
-- common.
pub record IsSoundJoint (graph : ComputationGraph) (q : ℕ) (partition : JointPartition) : Type 0 where
  pub sound : AllByRecursion (AllByRecursion (IsSoundFamily graph partition)) partition.groups
  pub cover : IsCovered q partition
  pub apart : ArePairwiseDisjoint (map group_words partition.groups)

-- How often the words of a group count, by the labelings of its families, each raised to the weight; and by its weight, raised to
-- itself (0^0 is 1).
abbrev pub labelings_factor : List WalkFamily → ℕ
labelings_factor group = product_by (λ (family : WalkFamily). length family.labelings ^ family.weight) group

abbrev pub weight_factor : List WalkFamily → ℕ
weight_factor group = group_weight group ^ group_weight group

-- Num over den, in any terms, is the factor with which the words of a stretch count: the product of both over all groups, over the
-- whole weight raised to itself.
pub record IsFactor (num den : ℕ) (partition : JointPartition) : Type 0 where
  pub positive : 1 ≤ den
  pub ratio : num * joint_weight partition ^ joint_weight partition ≡ den * (product_by labelings_factor partition.groups * product_by weight_factor partition.groups)
