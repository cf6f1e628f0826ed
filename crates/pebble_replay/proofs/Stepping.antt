-- A player that played the turn of its place stands for the graph and the order at the next place.
use Rattle.std.proofs.Common.{◌≡◌, refl, sym, ◌∙◌, ap, subst, ℕ, suc, ◌+◌, ◌<◌, ◌^◌, List, drop, length, get_or, Some, None}
use Rattle.iolb_model.specs.declared.game.Move.{Move}
use Rattle.iolb_model.specs.Graph.{ComputationGraph}
use Rattle.iolb_model.specs.Game.{Board, first_board, final_board, loads, is_load, is_store, stores}
use Rattle.pebble_game.specs.Boards.{PlayedBoard}
use Rattle.pebble_game.specs.Graphs.{IsGraph}
use Rattle.pebble_replay.specs.Played.{instance_moves, is_compute, computes}
use Rattle.pebble_replay.specs.Turns.{IsBetween}
use Rattle.pebble_replay.specs.Player.{moves_before, moves_at, Holds, StandsFor, IsStopped}
use Rattle.pebble_replay.specs.declared.counts.Counts.{Counts}
use Rattle.pebble_replay.specs.declared.hand.Hand.{Hand}
use Rattle.pebble_replay.specs.declared.player.Player.{Player}
use Rattle.pebble_replay.proofs.Moves.{final-append}
use Rattle.pebble_replay.proofs.Counting.{count-append, few-loads, few-stores, few-computes, before-more}

-- a player that holds something stands for its graph and order
pub going : (graph : ComputationGraph) (order : List ℕ) (player : Player) (hand : Hand) → player.hand ≡ Some hand → (¬ IsStopped player → StandsFor graph order player)
    → StandsFor graph order player
going graph order player hand e stands = stands (λ stopped. let no : Some hand ≡ None = sym e ∙ stopped in cc)

same_hand : (a b : Hand) → Some a ≡ Some b → a ≡ b
same_hand a b e = cc

-- and what it holds is as its place says
pub holds-here : (graph : ComputationGraph) (order : List ℕ) (player : Player) (hand : Hand) → player.hand ≡ Some hand → StandsFor graph order player → Holds graph player.s order player.place hand
holds-here graph order player hand e stands =
    subst (λ (h : Hand). Holds graph player.s order player.place h) (same_hand stands.goes_on.hand hand (sym stands.goes_on.here ∙ e)) stands.goes_on.holds

module _ (graph : ComputationGraph) (order : List ℕ) (player : Player) (hand new : Hand) (here : player.hand ≡ Some hand) (stands : StandsFor graph order player)
    (below : player.place < length order) (moves : List Move)
    (made : moves ≡ instance_moves graph hand.board.s (drop (suc player.place) order) (get_or order player.place 0) hand.board.board) where
  pub made-at : moves ≡ moves_at graph player.s order player.place
  made-at = made ∙ ap (λ (b : PlayedBoard). instance_moves graph b.s (drop (suc player.place) order) (get_or order player.place 0) b.board) (holds-here graph order player hand here stands).board

  more-loads : loads (moves_before graph player.s order (suc player.place)) ≡ player.counts.loads + loads moves
  more-loads = ap loads (before-more graph player.s order player.place below) ∙ count-append is_load (moves_before graph player.s order player.place) (moves_at graph player.s order player.place)
      ∙ ap (λ (n : ℕ). n + loads (moves_at graph player.s order player.place)) (sym stands.loaded) ∙ ap (λ (ms : List Move). player.counts.loads + loads ms) (sym made-at)

  more-stores : stores (moves_before graph player.s order (suc player.place)) ≡ player.counts.stores + stores moves
  more-stores = ap stores (before-more graph player.s order player.place below) ∙ count-append is_store (moves_before graph player.s order player.place) (moves_at graph player.s order player.place)
      ∙ ap (λ (n : ℕ). n + stores (moves_at graph player.s order player.place)) (sym stands.stored) ∙ ap (λ (ms : List Move). player.counts.stores + stores ms) (sym made-at)

  more-computes : computes (moves_before graph player.s order (suc player.place)) ≡ player.counts.computes + computes moves
  more-computes = ap computes (before-more graph player.s order player.place below) ∙ count-append is_compute (moves_before graph player.s order player.place) (moves_at graph player.s order player.place)
      ∙ ap (λ (n : ℕ). n + computes (moves_at graph player.s order player.place)) (sym stands.computed) ∙ ap (λ (ms : List Move). player.counts.computes + computes ms) (sym made-at)

  pub loads-fit : IsGraph graph → player.counts.loads + loads moves < 2 ^ 64
  loads-fit well = subst (λ (n : ℕ). n < 2 ^ 64) more-loads (few-loads graph player.s well order stands.each (suc player.place) below)

  pub stores-fit : IsGraph graph → player.counts.stores + stores moves < 2 ^ 64
  stores-fit well = subst (λ (n : ℕ). n < 2 ^ 64) more-stores (few-stores graph player.s well order stands.each (suc player.place) below)

  pub computes-fit : IsGraph graph → player.counts.computes + computes moves < 2 ^ 64
  computes-fit well = subst (λ (n : ℕ). n < 2 ^ 64) more-computes (few-computes graph player.s well order stands.each (suc player.place) below)

  pub stands-next : (counts : Counts) → counts.loads ≡ player.counts.loads + loads moves → counts.stores ≡ player.counts.stores + stores moves
      → counts.computes ≡ player.counts.computes + computes moves → IsBetween graph (drop (suc player.place) order) new
      → new.board ≡ record hand.board { board = final_board hand.board.board (instance_moves graph hand.board.s (drop (suc player.place) order) (get_or order player.place 0) hand.board.board) }
      → StandsFor graph order (record { s = player.s; place = suc player.place; hand = Some new; counts = counts })
  stands-next counts l st c between board = record {
    each = stands.each;
    playable = stands.playable;
    place = below;
    goes_on = record { hand = new; here = refl; holds = record { between = between; board = after } };
    loaded = l ∙ sym more-loads;
    stored = st ∙ sym more-stores;
    computed = c ∙ sym more-computes;
  } where
    after : new.board ≡ record { s = player.s; board = final_board (first_board graph) (moves_before graph player.s order (suc player.place)) }
    after =
        board
        ∙ ap (λ (b : PlayedBoard). record b { board = final_board b.board (instance_moves graph b.s (drop (suc player.place) order) (get_or order player.place 0) b.board) }) (holds-here graph order player hand here stands).board
        ∙ ap (λ (b : Board). let p : PlayedBoard = record { s = player.s; board = b } in p)
        (sym (ap (final_board (first_board graph)) (before-more graph player.s order player.place below) ∙ final-append (first_board graph) (moves_before graph player.s order player.place) (moves_at graph player.s order player.place)))
