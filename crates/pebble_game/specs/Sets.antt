-- Loads of sets of vertices, in any list of moves.
use Rattle.std.specs.Prelude.{ℕ, ◌≤◌, List, sum_by}
use Rattle.iolb_model.specs.declared.game.Move.{Move}
use Rattle.iolb_model.specs.Game.{loads, loads_of}
use Rattle.iolb_model.specs.Footprint.{ArePairwiseDisjoint}

-- The loads of sets of which no two have a vertex in common add up to at most all loads.
abbrev pub DisjointLoadsAddUp : Type 0
DisjointLoadsAddUp = (moves : List Move) (sets : List (List ℕ)) → ArePairwiseDisjoint sets
    → sum_by (λ set. loads_of set moves) sets ≤ loads moves
