-- Room is made by allowed moves, which lose no word that is used later and take no predecessor of the next instance.
use Rattle.std.proofs.Common.{◌≡◌, refl, sym, ◌∙◌, subst, ℕ, ◌<◌, ◌≤◌, Bool, true, false, cond, not, List, [], ◌∷◌, length, set, Option, Some, arith}
use Rattle.std.specs.Prelude.{◌&&◌}
use Rattle.std.proofs.lemmas.Bool.{and_parts, and_from, leb-true, leb-false, not-true, not_from_false}
use Rattle.std.proofs.lemmas.List.{length-set}
use Rattle.iolb_model.specs.declared.game.Move.{Move}
use Rattle.iolb_model.specs.declared.game.Move.TheVariants.{Store, Drop}
use Rattle.iolb_model.specs.Graph.{ComputationGraph}
use Rattle.iolb_model.specs.Game.{Board, marked, mark_count, predecessors_at, AreAllowed, final_board}
use Rattle.pebble_game.specs.Boards.{is_full}
use Rattle.pebble_game.proofs.Marks.{dropped-marked, marked-below, put-here}
use Rattle.pebble_replay.specs.Played.{reads, is_used, may_go, victim, moves_out, room_moves}
use Rattle.pebble_replay.proofs.Marks.{put-stays, taken-other, count-taken, one-outside}
use Rattle.pebble_replay.proofs.Moves.{IsReady, gone-ready}
use Rattle.pebble_replay.proofs.Victim.{victim-some}

-- what the moves that make room before instance v do to a board
pub record MakesRoom (graph : ComputationGraph) (s : ℕ) (done : List ℕ) (v : ℕ) (later : List ℕ) (board : Board) (moves : List Move) : Type 0 where
  pub allowed : AreAllowed graph s board moves
  pub ready : IsReady graph s done (v ∷ later) (final_board board moves)
  pub space : mark_count (final_board board moves).red < s
  pub holds : (w : ℕ) → reads graph w v ≡ true → marked board.red w ≡ true → marked (final_board board moves).red w ≡ true
  pub fewer : (w : ℕ) → marked (final_board board moves).red w ≡ true → marked board.red w ≡ true

module _ (graph : ComputationGraph) (s : ℕ) (done : List ℕ) (v : ℕ) (later : List ℕ) (board : Board)
    (ready : IsReady graph s done (v ∷ later) board) where
  -- a red word that is no predecessor goes, with blue pebbles as they are then
  goes : (blue : List Bool) (x : ℕ) (moves : List Move) → marked board.red x ≡ true → reads graph x v ≡ false → AreAllowed graph s board moves
      → final_board board moves ≡ record board { red = set board.red x false; blue = blue } → length blue ≡ length board.blue
      → ((w : ℕ) → marked board.blue w ≡ true → marked blue w ≡ true) → (is_used graph later x ≡ true → marked blue x ≡ true)
      → MakesRoom graph s done v later board moves
  goes blue x moves red unread allowed final long grows saved = record {
    allowed = allowed;
    ready = subst (λ (b : Board). IsReady graph s done (v ∷ later) b) (sym final) (gone-ready graph s done v later board blue x ready unread long grows saved red);
    space = subst (λ (b : Board). mark_count b.red < s) (sym final) (omega (arith, count-taken board.red x red, ready.room));
    holds = λ w read on. subst (λ (b : Board). marked b.red w ≡ true) (sym final) (taken-other board.red x w (other w read) ∙ on);
    fewer = λ w on. dropped-marked board.red x w (subst (λ (b : Board). marked b.red w ≡ true) final on);
  } where
    other : (w : ℕ) → reads graph w v ≡ true → w ≡ x → ⊥
    other w read e = let same : reads graph x v ≡ true = subst (λ (u : ℕ). reads graph u v ≡ true) e read in cc

  used : (b c : Bool) → (b && not c) ≡ false → b ≡ true → c ≡ true
  used true true h e = refl
  used true false h e = absurd cc
  used false c h e = absurd cc

  out : (x : ℕ) → marked board.red x ≡ true → reads graph x v ≡ false → MakesRoom graph s done v later board (moves_out graph later board (Some x))
  out x red unread = by (is_used graph later x && not (marked board.blue x)) refl where
    below : x < length board.blue
    below = omega (arith, marked-below board.red x red, ready.fits.red, ready.fits.blue)

    by : (b : Bool) → (is_used graph later x && not (marked board.blue x)) ≡ b → MakesRoom graph s done v later board (cond b (Store x ∷ Drop x ∷ []) (Drop x ∷ []))
    by true e = goes (set board.blue x true) x (Store x ∷ Drop x ∷ []) red unread (red, (red, tt)) refl (length-set board.blue x true)
        (λ w on. put-stays board.blue x w on) (λ h. put-here board.blue x below)
    by false e = goes board.blue x (Drop x ∷ []) red unread (red, tt) refl refl (λ w on. on) (λ h. used (is_used graph later x) (marked board.blue x) e h)

  none : mark_count board.red < s → MakesRoom graph s done v later board []
  none space = record { allowed = tt; ready = ready; space = space; holds = λ w read on. on; fewer = λ w on. on }

  pub room-made : length (predecessors_at graph v) < s → MakesRoom graph s done v later board (room_moves graph s later v board)
  room-made enough = by (is_full s board) refl where
    found : s ≤ mark_count board.red → (x : ℕ) × (victim graph later v board ≡ Some x) × (may_go graph v board x ≡ true)
    found full =
        let one = one-outside board.red (predecessors_at graph v) (omega (arith, enough, full)) in
        victim-some graph later v board one.0 (omega (arith, marked-below board.red one.0 one.1, ready.fits.red))
        (and_from (marked board.red one.0) (not (reads graph one.0 v)) one.1 (not_from_false (reads graph one.0 v) one.2))

    leaves : (x : ℕ) → may_go graph v board x ≡ true → MakesRoom graph s done v later board (moves_out graph later board (Some x))
    leaves x may =
        let parts = and_parts (marked board.red x) (not (reads graph x v)) may in
        out x parts.0 (not-true (reads graph x v) parts.1)

    by : (b : Bool) → is_full s board ≡ b → MakesRoom graph s done v later board (cond b (moves_out graph later board (victim graph later v board)) [])
    by true e =
        let x = found (leb-true s (mark_count board.red) e) in
        subst (λ (o : Option ℕ). MakesRoom graph s done v later board (moves_out graph later board o)) (sym x.1) (leaves x.0 x.2)
    by false e = none (leb-false s (mark_count board.red) e)
