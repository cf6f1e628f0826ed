-- Moves one after the other, and what holds between them while an order is played.
use Rattle.std.proofs.Common.{◌≡◌, refl, sym, ◌∙◌, subst, inl, inr, ℕ, ◌<◌, ◌≤◌, Bool, true, false, List, ◌∷◌, ◌++◌, length, set, arith}
use Rattle.std.specs.Prelude.{◌⊎◌, ◌||◌, nat_eq}
use Rattle.std.proofs.lemmas.Bool.{cases_eq, or_cases, or_right, eq-eqb, eqb-true, or_parts}
use Rattle.std.proofs.lemmas.List.{length-set}
use Rattle.std.proofs.lemmas.List.Sums.{fold-append}
use Rattle.iolb_model.specs.declared.game.Move.{Move}
use Rattle.iolb_model.specs.declared.game.Move.TheVariants.{Load}
use Rattle.iolb_model.specs.Graph.{ComputationGraph}
use Rattle.iolb_model.specs.Game.{Board, marked, mark_count, vertices, stands_in, board_after, final_board}
use Rattle.pebble_game.specs.Boards.{IsBoardOf}
use Rattle.pebble_game.proofs.Marks.{count-put, put-here}
use Rattle.pebble_replay.specs.Played.{reads, is_used}
use Rattle.pebble_replay.proofs.Marks.{put-stays, put-other, taken-other, count-taken}

pub final-append : (board : Board) (xs ys : List Move) → final_board board (xs ++ ys) ≡ final_board (final_board board xs) ys
final-append board xs ys = fold-append board_after board xs ys

-- What holds after some instances were computed, and before the rest of the order is: no word is lost that is used later.
pub record IsReady (graph : ComputationGraph) (s : ℕ) (done rest : List ℕ) (board : Board) : Type 0 where
  pub fits : IsBoardOf graph board
  pub room : mark_count board.red ≤ s
  pub undone : (v : ℕ) → stands_in done v ≡ false → marked board.computed v ≡ false
  pub computed : (v : ℕ) → stands_in done v ≡ true → marked board.computed v ≡ true
  pub inputs : (u : ℕ) → graph.instances ≤ u → u < vertices graph → marked board.blue u ≡ true
  pub kept : (u : ℕ) → stands_in done u ≡ true → is_used graph rest u ≡ true → (marked board.red u ≡ true) ⊎ (marked board.blue u ≡ true)
  pub stored : (u : ℕ) → stands_in done u ≡ true → marked graph.last_writers u ≡ true → marked board.blue u ≡ true

-- where one of two holds, and not the first
pub second-holds : (b c : Bool) → b ≡ false → (b || c) ≡ true → c ≡ true
second-holds true c e h = absurd cc
second-holds false c e h = h

-- a word that is no predecessor of the next instance goes, and is in the slow memory where it is used later
pub gone-ready : (graph : ComputationGraph) (s : ℕ) (done : List ℕ) (v : ℕ) (later : List ℕ) (board : Board) (blue : List Bool) (x : ℕ)
    → IsReady graph s done (v ∷ later) board → reads graph x v ≡ false → length blue ≡ length board.blue
    → ((w : ℕ) → marked board.blue w ≡ true → marked blue w ≡ true) → (is_used graph later x ≡ true → marked blue x ≡ true) → marked board.red x ≡ true
    → IsReady graph s done (v ∷ later) (record board { red = set board.red x false; blue = blue })
gone-ready graph s done v later board blue x ready unread long grows saved red = record {
  fits = record { red = length-set board.red x false ∙ ready.fits.red; blue = long ∙ ready.fits.blue; computed = ready.fits.computed };
  room = omega (arith, count-taken board.red x red, ready.room);
  undone = ready.undone;
  computed = ready.computed;
  inputs = λ u past below. grows u (ready.inputs u past below);
  kept = λ u in_done used. still u in_done used (cases_eq u x);
  stored = λ u in_done last. grows u (ready.stored u in_done last);
} where
  other : (u : ℕ) → (u ≡ x → ⊥) → (marked board.red u ≡ true) ⊎ (marked board.blue u ≡ true) → (marked (set board.red x false) u ≡ true) ⊎ (marked blue u ≡ true)
  other u apart (inl h) = inl (taken-other board.red x u apart ∙ h)
  other u apart (inr h) = inr (grows u h)

  still : (u : ℕ) → stands_in done u ≡ true → is_used graph (v ∷ later) u ≡ true → (u ≡ x) ⊎ (u ≡ x → ⊥)
      → (marked (set board.red x false) u ≡ true) ⊎ (marked blue u ≡ true)
  still u in_done used (inl e) =
      inr (subst (λ (w : ℕ). marked blue w ≡ true) (sym e) (saved (second-holds (reads graph x v) (is_used graph later x) unread (subst (λ (w : ℕ). is_used graph (v ∷ later) w ≡ true) e used))))
  still u in_done used (inr apart) = other u apart (ready.kept u in_done used)

-- a word is loaded
pub loaded-ready : (graph : ComputationGraph) (s : ℕ) (done rest : List ℕ) (board : Board) (x : ℕ) → IsReady graph s done rest board → mark_count board.red < s
    → IsReady graph s done rest (board_after board (Load x))
loaded-ready graph s done rest board x ready space = record {
  fits = record { red = length-set board.red x true ∙ ready.fits.red; blue = ready.fits.blue; computed = ready.fits.computed };
  room = omega (arith, count-put board.red x, space);
  undone = ready.undone;
  computed = ready.computed;
  inputs = ready.inputs;
  kept = λ u in_done used. still u (ready.kept u in_done used);
  stored = ready.stored;
} where
  still : (u : ℕ) → (marked board.red u ≡ true) ⊎ (marked board.blue u ≡ true) → (marked (set board.red x true) u ≡ true) ⊎ (marked board.blue u ≡ true)
  still u (inl h) = inl (put-stays board.red x u h)
  still u (inr h) = inr h

-- an instance is computed, and stored if it is a last writer
pub computed-ready : (graph : ComputationGraph) (s : ℕ) (done : List ℕ) (v : ℕ) (later : List ℕ) (board : Board) (blue : List Bool)
    → IsReady graph s done (v ∷ later) board → v < vertices graph → mark_count board.red < s → length blue ≡ length board.blue
    → ((w : ℕ) → marked board.blue w ≡ true → marked blue w ≡ true) → (marked graph.last_writers v ≡ true → marked blue v ≡ true)
    → IsReady graph s (v ∷ done) later (record { red = set board.red v true; blue = blue; computed = set board.computed v true })
computed-ready graph s done v later board blue ready there space long grows saved = record {
  fits = record { red = length-set board.red v true ∙ ready.fits.red; blue = long ∙ ready.fits.blue; computed = length-set board.computed v true ∙ ready.fits.computed };
  room = omega (arith, count-put board.red v, space);
  undone = λ w h. undone_at w (cases_eq w v) h;
  computed = λ w h. computed_at w (cases_eq w v) h;
  inputs = λ u past below. grows u (ready.inputs u past below);
  kept = λ w h used. kept_at w (cases_eq w v) h used;
  stored = λ w h last. stored_at w (cases_eq w v) h last;
} where
  done_before : (w : ℕ) → (w ≡ v → ⊥) → stands_in (v ∷ done) w ≡ true → stands_in done w ≡ true
  done_before w apart h = by (or_cases (nat_eq w v) (stands_in done w) h) where
    by : (nat_eq w v ≡ true) ⊎ (stands_in done w ≡ true) → stands_in done w ≡ true
    by (inl e) = absurd (apart (eqb-true w v e))
    by (inr h) = h

  undone_at : (w : ℕ) → (w ≡ v) ⊎ (w ≡ v → ⊥) → stands_in (v ∷ done) w ≡ false → marked (set board.computed v true) w ≡ false
  undone_at w (inl e) h = let yes : nat_eq w v ≡ true = eq-eqb w v e in let no : nat_eq w v ≡ false = (or_parts (nat_eq w v) (stands_in done w) h).0 in absurd cc
  undone_at w (inr apart) h = put-other board.computed v w apart ∙ ready.undone w (or_parts (nat_eq w v) (stands_in done w) h).1

  computed_at : (w : ℕ) → (w ≡ v) ⊎ (w ≡ v → ⊥) → stands_in (v ∷ done) w ≡ true → marked (set board.computed v true) w ≡ true
  computed_at w (inl e) h = subst (λ (u : ℕ). marked (set board.computed v true) u ≡ true) (sym e) (put-here board.computed v (omega (arith, ready.fits.computed, there)))
  computed_at w (inr apart) h = put-stays board.computed v w (ready.computed w (done_before w apart h))

  other : (w : ℕ) → (marked board.red w ≡ true) ⊎ (marked board.blue w ≡ true) → (marked (set board.red v true) w ≡ true) ⊎ (marked blue w ≡ true)
  other w (inl h) = inl (put-stays board.red v w h)
  other w (inr h) = inr (grows w h)

  kept_at : (w : ℕ) → (w ≡ v) ⊎ (w ≡ v → ⊥) → stands_in (v ∷ done) w ≡ true → is_used graph later w ≡ true → (marked (set board.red v true) w ≡ true) ⊎ (marked blue w ≡ true)
  kept_at w (inl e) h used = inl (subst (λ (u : ℕ). marked (set board.red v true) u ≡ true) (sym e) (put-here board.red v (omega (arith, ready.fits.red, there))))
  kept_at w (inr apart) h used = other w (ready.kept w (done_before w apart h) (or_right (reads graph w v) (is_used graph later w) used))

  stored_at : (w : ℕ) → (w ≡ v) ⊎ (w ≡ v → ⊥) → stands_in (v ∷ done) w ≡ true → marked graph.last_writers w ≡ true → marked blue w ≡ true
  stored_at w (inl e) h last = subst (λ (u : ℕ). marked blue u ≡ true) (sym e) (saved (subst (λ (u : ℕ). marked graph.last_writers u ≡ true) e last))
  stored_at w (inr apart) h last = grows w (ready.stored w (done_before w apart h) last)
