-- Words that points of a computation graph reuse, along walks from each point back from reader to source. (Reuse paths, as in
-- Olivry et al. 2020; labels in place of paths.)
use Rattle.std.specs.Prelude.{◌≡◌, ℕ, ◌<◌, ◌≤◌, Bool, true, false, nat_eq, cond, ℤ, List, flat_map, map, sum_by, IsTrue}
use Rattle.std.specs.List.{AllByRecursion, IsDistinct}
use Rattle.iolb_model.specs.Graph.{ComputationGraph}
use Rattle.iolb_model.specs.Game.{stands_in}
use Rattle.iolb_model.specs.Footprint.{ArePairwiseDisjoint}
use Rattle.stretch_laws.specs.Reuse.{ReadsWord}

-- A family of walks: the vertices on them past their starts, which are its words; a label of each word; a label of each point
-- from which a walk starts; and a set of coordinates with its weight.
pub record ReuseFamily : Type 0 where
  pub words : List ℕ
  pub label : ℕ → List ℤ
  pub start : ℕ → List ℤ
  pub has : ℕ → Bool
  pub weight : ℕ

-- Points, which are vertices with so many coordinates each; the families of their walks; and the vertices that are credited.
pub record ReusePartition : Type 0 where
  pub points : List ℕ
  pub dimensions : ℕ
  pub coordinate : ℕ → ℕ → ℤ
  pub families : List ReuseFamily
  pub credited : List ℕ

-- the words of all families
abbrev pub words_of : ReusePartition → List ℕ
words_of partition = flat_map (λ (family : ReuseFamily). family.words) partition.families

-- the sum of the weights
abbrev pub total_weight : ReusePartition → ℕ
total_weight partition = sum_by (λ (family : ReuseFamily). family.weight) partition.families

-- A family is sound: each point reads a word with the label of its start, and each word that is an instance and isn't
-- credited reads a word with its own label. So the words of a walk have one label.
pub record IsSoundFamily (graph : ComputationGraph) (partition : ReusePartition) (family : ReuseFamily) : Type 0 where
  pub begins : (vertex : ℕ) → stands_in partition.points vertex ≡ true → ReadsWord graph family.words family.label vertex (family.start vertex)
  pub goes_on : (vertex : ℕ) → stands_in family.words vertex ≡ true → vertex < graph.instances → stands_in partition.credited vertex ≡ false
      → ReadsWord graph family.words family.label vertex (family.label vertex)

-- the label of a point's start fixes its coordinates in the family's set
abbrev pub FixesCoordinates : ReusePartition → ReuseFamily → Type 0
FixesCoordinates partition family = (u v : ℕ) → stands_in partition.points u ≡ true → stands_in partition.points v ≡ true → family.start u ≡ family.start v
    → (i : ℕ) → i < partition.dimensions → IsTrue (family.has i) → partition.coordinate u i ≡ partition.coordinate v i

-- The points differ, their coordinates tell them apart, and each coordinate lies in sets of total weight at least q.
pub record IsCovered (q : ℕ) (partition : ReusePartition) : Type 0 where
  pub positive : 1 ≤ q
  pub distinct : IsDistinct nat_eq partition.points
  pub told_apart : (u v : ℕ) → stands_in partition.points u ≡ true → stands_in partition.points v ≡ true
      → ((i : ℕ) → i < partition.dimensions → partition.coordinate u i ≡ partition.coordinate v i) → u ≡ v
  pub fixed : AllByRecursion (FixesCoordinates partition) partition.families
  pub covered : (i : ℕ) → i < partition.dimensions → q ≤ sum_by (λ (family : ReuseFamily). cond (family.has i) family.weight 0) partition.families

-- a partition is sound at a graph: each family is, and the sets cover the coordinates q times
pub record IsSoundPartition (graph : ComputationGraph) (q : ℕ) (partition : ReusePartition) : Type 0 where
  pub sound : AllByRecursion (IsSoundFamily graph partition) partition.families
  pub cover : IsCovered q partition

-- no two families have a word in common
abbrev pub AreApart : ReusePartition → Type 0
AreApart partition = ArePairwiseDisjoint (map (λ (family : ReuseFamily). family.words) partition.families)
