-- Counted points that two words fix, which meet: at one time both are red. Two families of walks lead from each point back to such
-- words, and an order of the vertices tells which of two red words stands for which family, so each two words meet in one way alone.
-- (Walks and labels are those of `stretch_laws`, after the reuse paths of Olivry et al. 2020. That words that meet are counted at the
-- load of the later one, and their order, are this project's own.)
use Rattle.std.specs.Prelude.{◌≡◌, ◌⊎◌, ℕ, ◌*◌, ◌<◌, true, false, ℤ, ◌<ℤ◌, ◌≤ℤ◌, List, [], ◌∷◌, length, map, Contains, IsTrue}
use Rattle.std.specs.List.{AllByRecursion, IsDistinct}
use Rattle.iolb_model.specs.Game.{stands_in}
use Rattle.iolb_model.specs.Graph.{ComputationGraph}
use Rattle.uniform_cover.specs.Projection.{same_point}
use Rattle.stretch_laws.specs.Reuse.{CountedPoint, FixesCoordinates, JointPartition, Labeling, ReadsWord, WalkFamily, joint_words}

-- Counted points, whose images have so many coordinates each; two families of walks from them, whose weights aren't looked at; the
-- vertices that are credited; the rank of each vertex, and that of each point.
pub record PairPartition : Type 0 where
  pub points : List CountedPoint
  pub dimensions : ℕ
  pub first : WalkFamily
  pub second : WalkFamily
  pub credited : List ℕ
  pub rank : ℕ → ℤ
  pub point_rank : CountedPoint → ℤ

-- its points, families and credits as a joint partition of one group, since both families may share words
abbrev pub one_group : PairPartition → JointPartition
one_group pairs = record {
  points = pairs.points;
  dimensions = pairs.dimensions;
  groups = (pairs.first ∷ pairs.second ∷ []) ∷ [];
  credited = pairs.credited;
}

-- the words of both families
abbrev pub pair_words : PairPartition → List ℕ
pair_words pairs = joint_words (one_group pairs)

-- how many labels two words have at most, in this order: one for each labeling of the first family and each of the second
abbrev pub labels_of_two : PairPartition → ℕ
labels_of_two pairs = length pairs.first.labelings * length pairs.second.labelings

-- one of a vertex's predecessors is a word of a labeling with this label, and its rank is such a one
abbrev pub ReadsRanked : ComputationGraph → PairPartition → (ℤ → Type 0) → Labeling → ℕ → List ℤ → Type 0
ReadsRanked graph pairs IsSo labeling vertex value = (reads : ReadsWord graph labeling.words labeling.label vertex value) × IsSo (pairs.rank reads.word)

-- a point reads a word that has the label of its start, in one of the family's labelings, and a rank that stands so to the point's
pub record BeginsRanked (graph : ComputationGraph) (pairs : PairPartition) (family : WalkFamily) (Stands : ℤ → ℤ → Type 0) (point : CountedPoint) : Type 0 where
  pub labeling : Labeling
  pub is : Contains family.labelings labeling
  pub reads : ReadsRanked graph pairs (Stands (pairs.point_rank point)) labeling point.vertex (family.start point)

-- each word of a labeling that is an instance and isn't credited reads a word with its own label in this labeling, and of a rank that
-- stands so to its own
abbrev pub GoesOnRanked : ComputationGraph → PairPartition → (ℤ → ℤ → Type 0) → Labeling → Type 0
GoesOnRanked graph pairs Stands labeling = (vertex : ℕ) → stands_in labeling.words vertex ≡ true → vertex < graph.instances → stands_in pairs.credited vertex ≡ false
    → ReadsRanked graph pairs (Stands (pairs.rank vertex)) labeling vertex (labeling.label vertex)

-- A family is sound in an order: each point begins a walk, and each walk goes on in its labeling.
pub record IsOrdered (graph : ComputationGraph) (pairs : PairPartition) (family : WalkFamily) (Begins GoesOn : ℤ → ℤ → Type 0) : Type 0 where
  pub begins : (point : CountedPoint) → Contains pairs.points point → BeginsRanked graph pairs family Begins point
  pub goes_on : AllByRecursion (GoesOnRanked graph pairs GoesOn) family.labelings

-- Pairs are sound at a graph. Back along walks of the first family ranks never fall, and they begin above the point's; along those of
-- the second they never rise, and begin no higher than the point's. The images differ and have so many coordinates, and each
-- coordinate is fixed by the label of the one start or the other.
pub record IsSoundPairs (graph : ComputationGraph) (pairs : PairPartition) : Type 0 where
  pub first : IsOrdered graph pairs pairs.first (λ own source. own <ℤ source) (λ own source. own ≤ℤ source)
  pub second : IsOrdered graph pairs pairs.second (λ own source. source ≤ℤ own) (λ own source. source ≤ℤ own)
  pub long : AllByRecursion (λ (point : CountedPoint). length point.image ≡ pairs.dimensions) pairs.points
  pub distinct : IsDistinct same_point (map (λ (point : CountedPoint). point.image) pairs.points)
  pub first_fixes : FixesCoordinates (one_group pairs) pairs.first
  pub second_fixes : FixesCoordinates (one_group pairs) pairs.second
  pub covered : (i : ℕ) → i < pairs.dimensions → IsTrue (pairs.first.has i) ⊎ IsTrue (pairs.second.has i)
