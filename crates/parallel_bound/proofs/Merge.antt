-- The moves of several processors as those of one.
use Rattle.std.proofs.Common.{◌≡◌, refl, sym, ◌∙◌, ap, subst, inl, inr, ℕ, ◌*◌, ◌<◌, ◌≤◌, Bool, true, false, cond, List, [], ◌∷◌, length, get_or, set, arith, IsTrue}
use Rattle.std.specs.Prelude.{◌⊎◌, ◌||◌}
use Rattle.std.specs.List.{AllByRecursion}
use Rattle.std.proofs.lemmas.Bool.{cases_eq}
use Rattle.std.proofs.lemmas.List.{get_or-set_other, length-set, set-get_or}
use Rattle.base_laws.proofs.Lists.{All-weaken}
use Rattle.iolb_model.specs.declared.game.Move.{Move}
use Rattle.iolb_model.specs.declared.game.Move.TheVariants.{Load, Store, Compute, Drop, Erase}
use Rattle.iolb_model.specs.Graph.{ComputationGraph}
use Rattle.iolb_model.specs.Game.{AreAllowed, Board, IsAllowed, board_after, final_board, mark_count, marked, predecessors_at, vertices}
use Rattle.iolb_model.specs.Parallel.{AreAllowedThere, ParallelBoard, ParallelMove, final_parallel_board, parallel_board_after, view_of}
use Rattle.pebble_game.proofs.Marks.{count-put, marked-below, put-here, taken-here}
use Rattle.stretch_laws.proofs.CompletePebblings.{count-again, count-taken}
use Rattle.parallel_bound.proofs.HeldMarks.{AreFew, all-get, all-set, fewer-all, held-count, held-get, held-kept, held-set, is_held, others_hold}

-- A move as one of the player's, before the rest of them: a drop of a word that another processor still holds is left out.
abbrev pub kept : List (List Bool) → Move → List Move → List Move
kept reds (Load v) rest = Load v ∷ rest
kept reds (Store v) rest = Store v ∷ rest
kept reds (Compute v) rest = Compute v ∷ rest
kept reds (Drop v) rest = cond (is_held reds v) rest (Drop v ∷ rest)
kept reds (Erase v) rest = Erase v ∷ rest

abbrev pub merged : ParallelBoard → List ParallelMove → List Move
merged board [] = []
merged board (step ∷ steps) = kept (parallel_board_after board step).reds step.move (merged (parallel_board_after board step) steps)

-- the one board has these red marks, and the others of the board of several
abbrev pub one_board : List Bool → ParallelBoard → Board
one_board red board = record { red = red; blue = board.blue; computed = board.computed }

module _ (width s : ℕ) where
  -- these red marks are those that one of the processors has, of which none has more than s
  pub record AreRedsOf (red : List Bool) (reds : List (List Bool)) : Type 0 where
    pub held : (v : ℕ) → marked red v ≡ is_held reds v
    pub few : AreFew s reds
    pub wide : AllByRecursion (λ (marks : List Bool). length marks ≡ width) reds
    pub one_wide : length red ≡ width

  module _ (red : List Bool) (reds : List (List Bool)) (processor : ℕ) (are : AreRedsOf red reds) (there : processor < length reds) where
    abbrev own : List Bool
    own = get_or reds processor []

    own-wide : length own ≡ width
    own-wide = all-get (λ (marks : List Bool). length marks ≡ width) reds processor [] are.wide there

    own-few : mark_count own ≤ s
    own-few = all-get (λ (marks : List Bool). mark_count marks ≤ s) reds processor [] are.few there

    -- what a processor holds is red
    own-red : (v : ℕ) → marked own v ≡ true → marked red v ≡ true
    own-red v on = are.held v ∙ held-get reds processor v there ∙ ap (λ b. b || others_hold reds processor v) on

    fewer : mark_count own < s → mark_count red < length reds * s
    fewer less = omega (arith, held-count red reds (λ v on. sym (are.held v) ∙ on), fewer-all s reds processor are.few there less)

    same : AreRedsOf red (set reds processor own)
    same = subst (λ (l : List (List Bool)). AreRedsOf red l) (sym (set-get_or reds processor [])) are

    put : (v : ℕ) → v < width → mark_count (set own v true) ≤ s → AreRedsOf (set red v true) (set reds processor (set own v true))
    put v below few = record {
      held = λ w. by w (cases_eq w v);
      few = all-set (λ (marks : List Bool). mark_count marks ≤ s) reds processor (set own v true) are.few few;
      wide = all-set (λ (marks : List Bool). length marks ≡ width) reds processor (set own v true) are.wide (length-set own v true ∙ own-wide);
      one_wide = length-set red v true ∙ are.one_wide;
    } where
      by : (w : ℕ) → (w ≡ v) ⊎ (w ≡ v → ⊥) → marked (set red v true) w ≡ is_held (set reds processor (set own v true)) w
      by w (inl e) =
          ap (marked (set red v true)) e ∙ put-here red v (omega (arith, below, are.one_wide))
          ∙ sym (held-set reds processor (set own v true) w there
          ∙ ap (λ b. b || others_hold reds processor w) (ap (marked (set own v true)) e ∙ put-here own v (omega (arith, below, own-wide))))
      by w (inr apart) =
          get_or-set_other red v w true false apart ∙ are.held w
          ∙ sym (held-kept reds processor (set own v true) w there (get_or-set_other own v w true false apart))

    taken-few : (v : ℕ) → AreFew s (set reds processor (set own v false))
    taken-few v = all-set (λ (marks : List Bool). mark_count marks ≤ s) reds processor (set own v false) are.few (omega (arith, own-few, count-taken own v))

    taken-wide : (v : ℕ) → AllByRecursion (λ (marks : List Bool). length marks ≡ width) (set reds processor (set own v false))
    taken-wide v = all-set (λ (marks : List Bool). length marks ≡ width) reds processor (set own v false) are.wide (length-set own v false ∙ own-wide)

    -- a word that another still holds stays
    left : (v : ℕ) → marked own v ≡ true → is_held (set reds processor (set own v false)) v ≡ true → AreRedsOf red (set reds processor (set own v false))
    left v on still = record { held = λ w. by w (cases_eq w v); few = taken-few v; wide = taken-wide v; one_wide = are.one_wide } where
      by : (w : ℕ) → (w ≡ v) ⊎ (w ≡ v → ⊥) → marked red w ≡ is_held (set reds processor (set own v false)) w
      by w (inl e) = ap (marked red) e ∙ own-red v on ∙ sym (ap (is_held (set reds processor (set own v false))) e ∙ still)
      by w (inr apart) = are.held w ∙ sym (held-kept reds processor (set own v false) w there (get_or-set_other own v w false false apart))

    -- one that none holds goes
    gone : (v : ℕ) → is_held (set reds processor (set own v false)) v ≡ false → AreRedsOf (set red v false) (set reds processor (set own v false))
    gone v none = record { held = λ w. by w (cases_eq w v); few = taken-few v; wide = taken-wide v; one_wide = length-set red v false ∙ are.one_wide } where
      by : (w : ℕ) → (w ≡ v) ⊎ (w ≡ v → ⊥) → marked (set red v false) w ≡ is_held (set reds processor (set own v false)) w
      by w (inl e) = ap (marked (set red v false)) e ∙ taken-here red v ∙ sym (ap (is_held (set reds processor (set own v false))) e ∙ none)
      by w (inr apart) = get_or-set_other red v w false false apart ∙ are.held w
          ∙ sym (held-kept reds processor (set own v false) w there (get_or-set_other own v w false false apart))

module _ (graph : ComputationGraph) (s processors : ℕ) where
  -- the player may do what follows from each board
  abbrev MayGoOn : ParallelBoard → (ParallelBoard → List Move) → Type 0
  MayGoOn board rest = (red : List Bool) → AreRedsOf (vertices graph) s red board.reds → AreAllowed graph (processors * s) (one_board red board) (rest board)

  module _ (board : ParallelBoard) (processor : ℕ) (many : length board.reds ≡ processors) (blue : length board.blue ≡ vertices graph) (there : processor < length board.reds)
      (red : List Bool) (are : AreRedsOf (vertices graph) s red board.reds) (rest : List Move) where
    abbrev after : Move → ParallelBoard
    after move = parallel_board_after board (record { processor = processor; move = move })

    abbrev mine : List Bool
    mine = get_or board.reds processor []

    room : mark_count mine < s → mark_count red < processors * s
    room less = subst (λ (n : ℕ). mark_count red < n * s) many (fewer (vertices graph) s red board.reds processor are there less)

    loads-few : (v : ℕ) → IsTrue (marked mine v) ⊎ (mark_count mine < s) → mark_count (set mine v true) ≤ s
    loads-few v (inl here) = omega (arith, own-few (vertices graph) s red board.reds processor are there, count-again mine v here)
    loads-few v (inr less) = omega (arith, less, count-put mine v)

    has-room : (v : ℕ) → IsTrue (marked mine v) ⊎ (mark_count mine < s) → IsTrue (marked red v) ⊎ (mark_count red < processors * s)
    has-room v (inl here) = inl (own-red (vertices graph) s red board.reds processor are there v here)
    has-room v (inr less) = inr (room less)

    all-red : (us : List ℕ) → AllByRecursion (λ u. IsTrue (marked mine u)) us → AllByRecursion (λ u. IsTrue (marked red u)) us
    all-red us h = All-weaken (λ u. IsTrue (marked mine u)) (λ u. IsTrue (marked red u)) us (λ u on. own-red (vertices graph) s red board.reds processor are there u on) h

    step-allowed : (move : Move) → IsAllowed graph s (view_of board processor) move
        → ((now : List Bool) → AreRedsOf (vertices graph) s now (after move).reds → AreAllowed graph (processors * s) (one_board now (after move)) rest)
        → AreAllowed graph (processors * s) (one_board red board) (kept (after move).reds move rest)
    step-allowed (Load v) allowed on =
        ((allowed.0, has-room v allowed.1), on (set red v true) (put (vertices graph) s red board.reds processor are there v (omega (arith, marked-below board.blue v allowed.0, blue)) (loads-few v allowed.1)))
    step-allowed (Store v) allowed on = (own-red (vertices graph) s red board.reds processor are there v allowed, on red (same (vertices graph) s red board.reds processor are there))
    step-allowed (Compute v) allowed on = (
      (allowed.0, allowed.1, all-red (predecessors_at graph v) allowed.2, room allowed.3),
      on (set red v true) (put (vertices graph) s red board.reds processor are there v (omega (arith, allowed.0)) (loads-few v (inr allowed.3))),
    )
    step-allowed (Drop v) allowed on = by (is_held (set board.reds processor (set mine v false)) v) refl where
      by : (b : Bool) → b ≡ is_held (set board.reds processor (set mine v false)) v → AreAllowed graph (processors * s) (one_board red board) (cond b rest (Drop v ∷ rest))
      by true e = on red (left (vertices graph) s red board.reds processor are there v allowed (sym e))
      by false e = (own-red (vertices graph) s red board.reds processor are there v allowed, on (set red v false) (gone (vertices graph) s red board.reds processor are there v (sym e)))
    step-allowed (Erase v) allowed on = (allowed, on red (same (vertices graph) s red board.reds processor are there))

  blue-wide : (board : ParallelBoard) (processor : ℕ) (move : Move) → length (parallel_board_after board (record { processor = processor; move = move })).blue ≡ length board.blue
  blue-wide board processor (Load v) = refl
  blue-wide board processor (Store v) = length-set board.blue v true
  blue-wide board processor (Compute v) = refl
  blue-wide board processor (Drop v) = refl
  blue-wide board processor (Erase v) = length-set board.blue v false

  -- the player is allowed its moves, from the red marks of all processors
  pub merged-allowed : (steps : List ParallelMove) (board : ParallelBoard) → length board.reds ≡ processors → length board.blue ≡ vertices graph
      → AreAllowedThere graph s board steps → (red : List Bool) → AreRedsOf (vertices graph) s red board.reds → AreAllowed graph (processors * s) (one_board red board) (merged board steps)
  merged-allowed [] board many blue allowed red are = tt
  merged-allowed (step ∷ steps) board many blue allowed red are =
      step-allowed board step.processor many blue allowed.0.0 red are (merged (parallel_board_after board step) steps) step.move allowed.0.1
      (merged-allowed steps (parallel_board_after board step)
      (length-set board.reds step.processor (board_after (view_of board step.processor) step.move).red ∙ many)
      (blue-wide board step.processor step.move ∙ blue) allowed.1)

-- ---- the board that they leave

pub record LeavesAs (one : Board) (board : ParallelBoard) (moves : List Move) (steps : List ParallelMove) : Type 0 where
  pub blue : (final_board one moves).blue ≡ (final_parallel_board board steps).blue
  pub computed : (final_board one moves).computed ≡ (final_parallel_board board steps).computed

step-leaves : (move : Move) (processor : ℕ) (red : List Bool) (board : ParallelBoard) (rest : List Move) (steps : List ParallelMove)
    → ((now : List Bool) → LeavesAs (one_board now (parallel_board_after board (record { processor = processor; move = move }))) (parallel_board_after board (record { processor = processor; move = move })) rest steps)
    → LeavesAs (one_board red board) board (kept (parallel_board_after board (record { processor = processor; move = move })).reds move rest) (record { processor = processor; move = move } ∷ steps)
step-leaves (Load v) processor red board rest steps on = let is = on (set red v true) in record { blue = is.blue; computed = is.computed }
step-leaves (Store v) processor red board rest steps on = let is = on red in record { blue = is.blue; computed = is.computed }
step-leaves (Compute v) processor red board rest steps on = let is = on (set red v true) in record { blue = is.blue; computed = is.computed }
step-leaves (Drop v) processor red board rest steps on = by (is_held (set board.reds processor (set (get_or board.reds processor []) v false)) v) where
  by : (b : Bool) → LeavesAs (one_board red board) board (cond b rest (Drop v ∷ rest)) (record { processor = processor; move = Drop v } ∷ steps)
  by true = let is = on red in record { blue = is.blue; computed = is.computed }
  by false = let is = on (set red v false) in record { blue = is.blue; computed = is.computed }
step-leaves (Erase v) processor red board rest steps on = let is = on red in record { blue = is.blue; computed = is.computed }

pub merged-leaves : (steps : List ParallelMove) (board : ParallelBoard) (red : List Bool) → LeavesAs (one_board red board) board (merged board steps) steps
merged-leaves [] board red = record { blue = refl; computed = refl }
merged-leaves (step ∷ steps) board red =
    step-leaves step.move step.processor red board (merged (parallel_board_after board step) steps) steps (merged-leaves steps (parallel_board_after board step))
