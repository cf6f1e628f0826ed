-- Moves of one kind, which a test tells, and the vertices that they take, in any list of moves. Loads are a kind, and stores.
use Rattle.std.specs.Prelude.{◌≡◌, ℕ, ◌≤◌, nat_eq, Bool, ◌&&◌, List, map, filter, length, count_by, sum_by}
use Rattle.std.specs.List.{IsDistinct}
use Rattle.iolb_model.specs.declared.game.Move.{Move}
use Rattle.iolb_model.specs.Footprint.{ArePairwiseDisjoint}
use Rattle.iolb_model.specs.Game.{is_load, loads_of, stands_in}
use Rattle.pebble_game.specs.Boards.{moved}

-- the vertices that moves of a kind take, in order, each as often as it is taken
abbrev pub taken : (Move → Bool) → List Move → List ℕ
taken kind moves = map moved (filter kind moves)

-- whether a vertex is taken at least once
abbrev pub is_taken : (Move → Bool) → ℕ → List Move → Bool
is_taken kind vertex moves = stands_in (taken kind moves) vertex

-- of a list of vertices those that are taken at least once
abbrev pub taken_among : (Move → Bool) → List ℕ → List Move → List ℕ
taken_among kind set moves = filter (λ vertex. is_taken kind vertex moves) set

-- how many moves of a kind take vertices of a set
abbrev pub taken_of : (Move → Bool) → List ℕ → List Move → ℕ
taken_of kind set moves = count_by (λ move. kind move && stands_in set (moved move)) moves

-- Loads are such a kind.
abbrev pub LoadsAreAKind : Type 0
LoadsAreAKind = (moves : List Move) (set : List ℕ) → loads_of set moves ≡ taken_of is_load set moves

-- Of different vertices at least as many moves take some as there are taken ones among them.
abbrev pub DifferentAreTaken : Type 0
DifferentAreTaken = (kind : Move → Bool) (moves : List Move) (set : List ℕ) → IsDistinct nat_eq set
    → length (taken_among kind set moves) ≤ taken_of kind set moves

-- The moves that take vertices of sets of which no two have a vertex in common add up to at most all of the kind.
abbrev pub DisjointAddUp : Type 0
DisjointAddUp = (kind : Move → Bool) (moves : List Move) (sets : List (List ℕ)) → ArePairwiseDisjoint sets
    → sum_by (λ set. taken_of kind set moves) sets ≤ count_by kind moves
