-- Sets of vertices whose loads pay for the terms of a bound. (The inputs of a set that is loaded, as in the lemmas of Hong and
-- Kung 1981.) A set of vertices is given by the list of its members. Which set belongs to a term is told by its kind, where the
-- terms are checked; here is what makes any set pay for a term.
use Rattle.std.specs.Prelude.{◌≡◌, ⊤, ℕ, ◌<◌, ◌≤◌, true, ℤ, List, [], ◌∷◌, map}
use Rattle.std.specs.List.{AllByRecursion, AllZip}
use Rattle.iolb_model.specs.declared.game.Move.{Move}
use Rattle.iolb_model.specs.Program.{AffineProgram}
use Rattle.iolb_model.specs.Graph.{ComputationGraph, computation_graph}
use Rattle.iolb_model.specs.Game.{IsCompletePebbling, vertices, stands_in, loads_of}
use Rattle.iolb_model.specs.Bound.{IsAdmitted, BoundTerm, term_value}

-- each member is a vertex of the graph
abbrev pub AreVertices : ComputationGraph → List ℕ → Type 0
AreVertices graph set = AllByRecursion (λ vertex. vertex < vertices graph) set

-- no vertex stands in both sets
abbrev pub AreDisjoint : List ℕ → List ℕ → Type 0
AreDisjoint one other = (vertex : ℕ) → stands_in one vertex ≡ true → stands_in other vertex ≡ true → ⊥

-- no vertex stands in two of the sets
abbrev pub ArePairwiseDisjoint : List (List ℕ) → Type 0
ArePairwiseDisjoint [] = ⊤
ArePairwiseDisjoint (set ∷ sets) = AllByRecursion (AreDisjoint set) sets × ArePairwiseDisjoint sets

-- A footprint: a set of vertices for each list of parameter values.
abbrev pub Footprint : Type 0
Footprint = List ℤ → List ℕ

-- A term costs its value in loads of a footprint, whatever set that is: at all admitted parameter values, of any size, its
-- members are vertices of the program's computation graph, and for every S of at least 1 every complete pebbling with S red
-- pebbles makes at least as many loads of these vertices as the term's value says.
pub record CostsItsValue (program : AffineProgram) (term : BoundTerm) (footprint : Footprint) : Type 0 where
  pub vertices : (values : List ℤ) → IsAdmitted program values → AreVertices (computation_graph program values) (footprint values)
  pub loaded : (values : List ℤ) (s : ℕ) (moves : List Move) → IsAdmitted program values → 1 ≤ s
      → IsCompletePebbling (computation_graph program values) s moves → term_value term values s ≤ loads_of (footprint values) moves

-- at all admitted parameter values the footprints are pairwise disjoint
abbrev pub AreApartFootprints : AffineProgram → List Footprint → Type 0
AreApartFootprints program footprints = (values : List ℤ) → IsAdmitted program values
    → ArePairwiseDisjoint (map (λ (footprint : Footprint). footprint values) footprints)

-- each term costs its value in loads of its footprint, one for each
abbrev pub CostTheirValues : AffineProgram → List BoundTerm → List Footprint → Type 0
CostTheirValues program terms footprints = AllZip (CostsItsValue program) terms footprints

-- The values of a branch's terms add up: the terms cost them in loads of footprints of which no two have a vertex in common.
pub record ValuesAddUp (program : AffineProgram) (terms : List BoundTerm) : Type 0 where
  pub footprints : List Footprint
  pub each : CostTheirValues program terms footprints
  pub apart : AreApartFootprints program footprints
