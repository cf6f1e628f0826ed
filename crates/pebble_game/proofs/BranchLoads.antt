-- The terms of a branch cost loads of their footprints, which add up.
use Rattle.std.proofs.Common.{ℕ, ◌≤◌, List, [], ◌∷◌, map, sum_by, arith}
use Rattle.std.specs.Prelude.{ℤ}
use Rattle.std.proofs.lemmas.List.Sums.{sum_by-cons, sum-map}
use Rattle.iolb_model.specs.declared.game.Move.{Move}
use Rattle.iolb_model.specs.Program.{AffineProgram}
use Rattle.iolb_model.specs.Bound.{IsAdmitted, BoundTerm, term_value}
use Rattle.iolb_model.specs.Footprint.{Footprint, CostTheirValues}
use Rattle.iolb_model.specs.Graph.{computation_graph}
use Rattle.iolb_model.specs.Game.{IsCompletePebbling, loads_of}
use Rattle.pebble_game.proofs.Disjoint.{disjoint_loads}
use Rattle.pebble_game.specs.Branches.{BranchesAreLoaded}

module _ (program : AffineProgram) (values : List ℤ) (s : ℕ) (moves : List Move) (admitted : IsAdmitted program values) (some : 1 ≤ s)
    (game : IsCompletePebbling (computation_graph program values) s moves) where
  -- each term's value is at most the loads of its footprint
  values-low : (terms : List BoundTerm) (footprints : List Footprint) → CostTheirValues program terms footprints
      → sum_by (λ term. term_value term values s) terms ≤ sum_by (λ set. loads_of set moves) (map (λ (footprint : Footprint). footprint values) footprints)
  values-low [] [] each = omega arith
  values-low [] (footprint ∷ footprints) each = absurd each
  values-low (term ∷ terms) [] each = absurd each
  values-low (term ∷ terms) (footprint ∷ footprints) each =
      omega (
        arith,
        sum_by-cons (λ (t : BoundTerm). term_value t values s) term terms,
        sum_by-cons (λ (set : List ℕ). loads_of set moves) (footprint values) (map (λ (f : Footprint). f values) footprints),
        each.0.loaded values s moves admitted some game,
        values-low terms footprints each.1,
      )

pub branches_loaded : BranchesAreLoaded
branches_loaded program terms values s moves has admitted some game =
    omega (
      arith,
      sum-map (λ (term : BoundTerm). term_value term values s) terms,
      values-low program values s moves admitted some game terms has.footprints has.each,
      disjoint_loads moves (map (λ (footprint : Footprint). footprint values) has.footprints) (has.apart values admitted),
    )
