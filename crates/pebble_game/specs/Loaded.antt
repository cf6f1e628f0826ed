-- Which vertices are loaded at all, in any list of moves.
use Rattle.std.specs.Prelude.{◌≡◌, ℕ, ◌≤◌, ◌↔◌, nat_eq, Bool, true, not, List, [], ◌∷◌, length, filter}
use Rattle.std.specs.List.{AllByRecursion, IsDistinct}
use Rattle.iolb_model.specs.declared.game.Move.{Move}
use Rattle.iolb_model.specs.declared.game.Move.TheVariants.{Load, Store, Compute, Drop, Erase}
use Rattle.iolb_model.specs.Game.{loads_of, stands_in}

-- the vertices that moves load, in order, each as often as it is loaded
abbrev pub loaded : List Move → List ℕ
loaded [] = []
loaded (Load v ∷ moves) = v ∷ loaded moves
loaded (Store v ∷ moves) = loaded moves
loaded (Compute v ∷ moves) = loaded moves
loaded (Drop v ∷ moves) = loaded moves
loaded (Erase v ∷ moves) = loaded moves

-- whether a vertex is loaded at least once
abbrev pub is_loaded : ℕ → List Move → Bool
is_loaded vertex moves = stands_in (loaded moves) vertex

-- of a list of vertices those that are loaded at least once, and those that are never loaded
abbrev pub loaded_among : List ℕ → List Move → List ℕ
loaded_among set moves = filter (λ vertex. is_loaded vertex moves) set

abbrev pub unloaded_among : List ℕ → List Move → List ℕ
unloaded_among set moves = filter (λ vertex. not (is_loaded vertex moves)) set

-- each is loaded at least once
abbrev pub AreLoaded : List ℕ → List Move → Type 0
AreLoaded set moves = AllByRecursion (λ vertex. is_loaded vertex moves ≡ true) set

-- A vertex is loaded at least once exactly where there is a load of it.
abbrev pub LoadedByALoad : Type 0
LoadedByALoad = (moves : List Move) (vertex : ℕ) → (is_loaded vertex moves ≡ true) ↔ (1 ≤ loads_of (vertex ∷ []) moves)

-- Of different vertices there are at least as many loads as there are loaded ones among them.
abbrev pub DifferentAreLoads : Type 0
DifferentAreLoads = (moves : List Move) (set : List ℕ) → IsDistinct nat_eq set → length (loaded_among set moves) ≤ loads_of set moves
