-- Predecessors are loaded one after the other.
use Rattle.std.proofs.Common.{◌≡◌, sym, subst, ℕ, suc, List, ◌++◌, drop}
use Rattle.std.specs.Prelude.{slice_index_or}
use Rattle.std.specs.Borrow.{Bor}
use Rattle.iolb_model.specs.declared.game.Move.{Move}
use Rattle.iolb_model.specs.Graph.{ComputationGraph}
use Rattle.iolb_model.specs.Game.{Board}
use Rattle.pebble_replay.specs.Played.{load_moves}
use Rattle.pebble_replay.specs.Turns.{current, later, IsInTurn, Gains}
use Rattle.pebble_replay.specs.declared.turn.Turn.{Turn}

-- the loads of a turn, as it began
abbrev pub loads_at : Turn → Board → List ℕ → List Move
loads_at turn board us = load_moves turn.graph.now turn.hand.board.s (later turn) (current turn) board us

-- some predecessors were loaded, and the rest of them are left
pub record IsLoading (initial self : Turn) (rest all : List ℕ) : Type 0 where
  pub made : List Move
  pub gains : Gains initial self made
  pub in_turn : IsInTurn self.graph.now (current self) (later self) self.hand
  pub left : made ++ loads_at initial self.hand.board.board rest ≡ loads_at initial initial.hand.board.board all

-- a turn that gains moves is of the same instance
pub same-turn : (old new : Turn) (moves : List Move) → Gains old new moves → (P : ComputationGraph → ℕ → List ℕ → Type 0)
    → P old.graph.now (current old) (later old) → P new.graph.now (current new) (later new)
same-turn old new moves g P h =
    subst (λ (n : ℕ). P new.graph.now (slice_index_or new.order.now n 0) (drop (suc n) new.order.now)) (sym g.place)
    (subst (λ (o : Bor (List ℕ)). P new.graph.now (slice_index_or o.now old.place 0) (drop (suc old.place) o.now)) (sym g.order)
    (subst (λ (gr : Bor ComputationGraph). P gr.now (current old) (later old)) (sym g.graph) h))
