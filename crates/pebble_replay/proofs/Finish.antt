-- The parts of a turn, one after the other.
use Rattle.std.proofs.Common.{◌≡◌, sym, ◌∙◌, ap, List, ◌++◌}
use Rattle.std.proofs.lemmas.List.{append_assoc}
use Rattle.iolb_model.specs.declared.game.Move.{Move}
use Rattle.iolb_model.specs.Game.{Board, predecessors_at, final_board}
use Rattle.pebble_game.specs.Boards.{PlayedBoard}
use Rattle.pebble_replay.specs.Played.{load_moves, compute_moves}
use Rattle.pebble_replay.specs.Turns.{current, later, Gains, IsSameTurn, moves_of}
use Rattle.pebble_replay.specs.declared.turn.Turn.{Turn}
use Rattle.pebble_replay.proofs.Moves.{final-append}
use Rattle.pebble_replay.proofs.Loading.{same-turn}
use Rattle.pebble_replay.proofs.Holding.{same-instance}

-- the loads of a turn's predecessors, and the moves that compute its instance
abbrev pub loads_of_turn : Turn → List Move
loads_of_turn turn = load_moves turn.graph.now turn.hand.board.s (later turn) (current turn) turn.hand.board.board (predecessors_at turn.graph.now (current turn))

abbrev pub computes_of_turn : Turn → List Move
computes_of_turn turn = compute_moves turn.graph.now turn.hand.board.s (later turn) (current turn) turn.hand.board.board

loads-same : (t0 t1 : Turn) → IsSameTurn t0 t1 → loads_of_turn t1 ≡ loads_of_turn t0
loads-same t0 t1 g =
    same-instance t0 t1 g (λ gr v l. load_moves gr t1.hand.board.s l v t1.hand.board.board (predecessors_at gr v) ≡ loads_of_turn t0)
    (ap (λ (b : PlayedBoard). load_moves t0.graph.now b.s (later t0) (current t0) b.board (predecessors_at t0.graph.now (current t0))) g.board)

module _ (t0 t1 t2 t3 t4 : Turn) (held : IsSameTurn t0 t1) (loaded : Gains t1 t2 (loads_of_turn t1)) (computed : Gains t2 t3 (computes_of_turn t2)) (released : IsSameTurn t3 t4) where
  after-loads : t2.hand.board ≡ record t0.hand.board { board = final_board t0.hand.board.board (loads_of_turn t0) }
  after-loads =
      loaded.board ∙ ap (λ (ms : List Move). record t1.hand.board { board = final_board t1.hand.board.board ms }) (loads-same t0 t1 held)
      ∙ ap (λ (b : PlayedBoard). record b { board = final_board b.board (loads_of_turn t0) }) held.board

  computes-same : computes_of_turn t2 ≡ compute_moves t0.graph.now t0.hand.board.s (later t0) (current t0) (final_board t0.hand.board.board (loads_of_turn t0))
  computes-same =
      same-turn t1 t2 (loads_of_turn t1) loaded
      (λ gr v l. compute_moves gr t2.hand.board.s l v t2.hand.board.board ≡ compute_moves t0.graph.now t0.hand.board.s (later t0) (current t0) (final_board t0.hand.board.board (loads_of_turn t0)))
      (same-instance t0 t1 held
      (λ gr v l. compute_moves gr t2.hand.board.s l v t2.hand.board.board ≡ compute_moves t0.graph.now t0.hand.board.s (later t0) (current t0) (final_board t0.hand.board.board (loads_of_turn t0)))
      (ap (λ (b : PlayedBoard). compute_moves t0.graph.now b.s (later t0) (current t0) b.board) after-loads))

  pub finished-moves : t4.moves.items ≡ t0.moves.items ++ moves_of t0
  finished-moves =
      released.moves ∙ computed.moves
      ∙ ap (λ (ms : List Move). ms ++ computes_of_turn t2) (loaded.moves ∙ ap (λ (ms : List Move). ms ++ loads_of_turn t1) held.moves ∙ ap (λ (ms : List Move). t0.moves.items ++ ms) (loads-same t0 t1 held))
      ∙ append_assoc t0.moves.items (loads_of_turn t0) (computes_of_turn t2)
      ∙ ap (λ (ms : List Move). t0.moves.items ++ (loads_of_turn t0 ++ ms)) computes-same

  pub finished-board : t4.hand.board ≡ record t0.hand.board { board = final_board t0.hand.board.board (moves_of t0) }
  finished-board =
      released.board ∙ computed.board
      ∙ ap (λ (b : PlayedBoard). record b { board = final_board b.board (computes_of_turn t2) }) after-loads
      ∙ ap (λ (ms : List Move). record t0.hand.board { board = final_board (final_board t0.hand.board.board (loads_of_turn t0)) ms }) computes-same
      ∙ ap (λ (b : Board). record t0.hand.board { board = b })
      (sym (final-append t0.hand.board.board (loads_of_turn t0) (compute_moves t0.graph.now t0.hand.board.s (later t0) (current t0) (final_board t0.hand.board.board (loads_of_turn t0)))))
