-- Instances that are loaded were stored, and last writers: between a board without a blue pebble and one with it, or a load,
-- stands a store.
use Rattle.std.proofs.Common.{◌≡◌, refl, sym, ◌∙◌, ap, subst, ℕ, ◌<◌, Bool, true, false, List, [], ◌∷◌, set, replicate, arith}
use Rattle.std.specs.Prelude.{nat_eq, ◌||◌}
use Rattle.std.proofs.lemmas.Bool.{eqb-false, eqb-true}
use Rattle.std.proofs.lemmas.List.{get_or_append_left}
use Rattle.std.proofs.lemmas.List.{length-replicate}
use Rattle.base_laws.proofs.Lists.{All-weaken}
use Rattle.iolb_model.specs.declared.game.Move.{Move}
use Rattle.iolb_model.specs.declared.game.Move.TheVariants.{Load, Store, Compute, Drop, Erase}
use Rattle.iolb_model.specs.Graph.{ComputationGraph}
use Rattle.iolb_model.specs.Game.{AreAllowed, Board, board_after, final_board, first_board, is_store, marked}
use Rattle.pebble_game.specs.Loaded.{is_loaded}
use Rattle.pebble_game.proofs.Loaded.{marked_other, or_true, unmarked}
use Rattle.pebble_game.proofs.Marks.{unmarked-at}
use Rattle.store_laws.specs.Stored.{IsLastWriter, LastWritersAreStored, LastWritersAreStores, LoadedInstancesAreStored, LoadedInstancesAreStores, is_stored}
use Rattle.store_laws.proofs.MovesTaken.{all-pass, different_are_taken, more-pass}

module _ (graph : ComputationGraph) (s v : ℕ) where
  -- a vertex that isn't blue is stored before it is loaded
  stored-then-loaded : (board : Board) (moves : List Move) → AreAllowed graph s board moves → marked board.blue v ≡ false
      → is_loaded v moves ≡ true → is_stored v moves ≡ true
  stored-then-loaded board [] allowed plain h = cc
  stored-then-loaded board (Load w ∷ moves) allowed plain h =
      stored-then-loaded (board_after board (Load w)) moves allowed.1 plain (later (nat_eq v w) (is_loaded v moves) other h) where
        other : nat_eq v w ≡ true → ⊥
        other e = let same : v ≡ w = eqb-true v w e in let blue : marked board.blue w ≡ true = allowed.0.0 in absurd (let on : marked board.blue v ≡ true = ap (marked board.blue) same ∙ blue in cc)

        later : (a b : Bool) → (a ≡ true → ⊥) → (a || b) ≡ true → b ≡ true
        later true b never e = absurd (never refl)
        later false b never e = e
  stored-then-loaded board (Store w ∷ moves) allowed plain h =
      or_true (nat_eq v w) (is_stored v moves) (λ apart. stored-then-loaded (board_after board (Store w)) moves allowed.1
      (marked_other board.blue v w true (eqb-false v w apart) ∙ plain) h)
  stored-then-loaded board (Compute w ∷ moves) allowed plain h = stored-then-loaded (board_after board (Compute w)) moves allowed.1 plain h
  stored-then-loaded board (Drop w ∷ moves) allowed plain h = stored-then-loaded (board_after board (Drop w)) moves allowed.1 plain h
  stored-then-loaded board (Erase w ∷ moves) allowed plain h = stored-then-loaded (board_after board (Erase w)) moves allowed.1 (unmarked board.blue v w plain) h

  -- so is one that is blue at the end
  stored-then-blue : (board : Board) (moves : List Move) → marked board.blue v ≡ false → marked (final_board board moves).blue v ≡ true → is_stored v moves ≡ true
  stored-then-blue board [] plain h = cc
  stored-then-blue board (Load w ∷ moves) plain h = stored-then-blue (board_after board (Load w)) moves plain h
  stored-then-blue board (Store w ∷ moves) plain h =
      or_true (nat_eq v w) (is_stored v moves) (λ apart. stored-then-blue (board_after board (Store w)) moves
      (marked_other board.blue v w true (eqb-false v w apart) ∙ plain) h)
  stored-then-blue board (Compute w ∷ moves) plain h = stored-then-blue (board_after board (Compute w)) moves plain h
  stored-then-blue board (Drop w ∷ moves) plain h = stored-then-blue (board_after board (Drop w)) moves plain h
  stored-then-blue board (Erase w ∷ moves) plain h = stored-then-blue (board_after board (Erase w)) moves (unmarked board.blue v w plain) h

-- no instance is blue at first
plain-first : (graph : ComputationGraph) (v : ℕ) → v < graph.instances → marked (first_board graph).blue v ≡ false
plain-first graph v there =
    get_or_append_left (replicate graph.instances false) (replicate graph.inputs true) false v (subst (λ (n : ℕ). v < n) (sym (length-replicate graph.instances false)) there)
    ∙ unmarked-at graph.instances v

pub loaded_stored : LoadedInstancesAreStored
loaded_stored graph s moves v game there h = stored-then-loaded graph s v (first_board graph) moves game.allowed (plain-first graph v there) h

pub last_stored : LastWritersAreStored
last_stored graph s moves v game last = stored-then-blue graph s v (first_board graph) moves (plain-first graph v last.0) (game.stored v last.0 last.1)

pub loaded_stores : LoadedInstancesAreStores
loaded_stores graph s moves set game distinct there =
    omega (
      arith,
      more-pass (λ (v : ℕ). is_loaded v moves) (λ (v : ℕ). is_stored v moves) set (All-weaken (λ (v : ℕ). v < graph.instances) (λ (v : ℕ). is_loaded v moves ≡ true → is_stored v moves ≡ true) set (λ v lt h. loaded_stored graph s moves v game lt h) there),
      different_are_taken is_store moves set distinct,
    )

pub last_stores : LastWritersAreStores
last_stores graph s moves set game distinct last =
    omega (
      arith,
      all-pass (λ (v : ℕ). is_stored v moves) set (All-weaken (IsLastWriter graph) (λ (v : ℕ). is_stored v moves ≡ true) set (λ v h. last_stored graph s moves v game h) last),
      different_are_taken is_store moves set distinct,
    )
