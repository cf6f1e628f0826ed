-- Words of waves are loaded, but for those that are red when a wave's vertex is computed.
use Rattle.std.proofs.Common.{◌≡◌, ◌≢◌, refl, sym, ◌∙◌, ap, subst, inl, inr, ℕ, zero, suc, ◌+◌, ◌*◌, ◌<◌, ◌≤◌, Bool, true, false, not, List, [], ◌∷◌, ◌++◌, length, map, set, arith, IsTrue, zero-add}
use Rattle.std.specs.Prelude.{◌⊎◌, nat_eq, Contains}
use Rattle.std.specs.List.{AllByRecursion, IsDistinct}
use Rattle.std.specs.Cmp.{nat_eq_equiv}
use Rattle.std.proofs.lemmas.Bool.{eqb-false, cases_eq, cases_Bool}
use Rattle.std.proofs.lemmas.List.{get_or-set_other, get_or-set_same, length-append}
use Rattle.std.proofs.lemmas.List.Elements.{filter-append}
use Rattle.std.proofs.lemmas.List.Filters.{length-filter_both}
use Rattle.std.proofs.lemmas.Map.Made.{length-le_from_is_member}
use Rattle.iolb_model.specs.declared.game.Move.{Move}
use Rattle.iolb_model.specs.declared.game.Move.TheVariants.{Load, Store, Compute, Drop, Erase}
use Rattle.iolb_model.specs.Graph.{ComputationGraph}
use Rattle.iolb_model.specs.Game.{AreAllowed, Board, IsCompletePebbling, board_after, final_board, first_board, mark_count, marked, predecessors_at, vertices}
use Rattle.execution_laws.proofs.Members.{Member}
use Rattle.pebble_game.specs.Loaded.{is_loaded, unloaded_among}
use Rattle.pebble_game.proofs.Loaded.{different_are_loads, or_true}
use Rattle.pebble_game.proofs.Marks.{all-contained, count-put, distinct-filtered, filtered-member, length-marked_from, marked-member, marked_from, member-stands, standing-member, unmarked-at}
use Rattle.reuse_paths.specs.Reached.{IsReached}
use Rattle.wavefront.specs.Waves.{IsSoundPoint, IsSoundWave, Wave, WavePoint, WavesAreLoaded, WavesAreReloaded, WavesLeaveFew, all_words, words_of}
use Rattle.wavefront.proofs.Kept.{IsKept, kept-first, kept-next, reached-computed}

module _ (graph : ComputationGraph) (s : ℕ) where
  -- Between a board where a word that is an input, or was computed, has no red pebble and the computing of its reader, it is
  -- loaded.
  loaded-before : (word reader : ℕ) → Contains (predecessors_at graph reader) word → (board : Board) (moves : List Move) → graph.instances ≤ length board.computed
      → AreAllowed graph s board moves → (graph.instances ≤ word) ⊎ (marked board.computed word ≡ true) → marked board.red word ≡ false → marked board.computed reader ≡ false
      → marked (final_board board moves).computed reader ≡ true → is_loaded word moves ≡ true
  loaded-before word reader reads board [] wide allowed there white before after = cc
  loaded-before word reader reads board (Load w ∷ moves) wide allowed there white before after =
      or_true (nat_eq word w) (is_loaded word moves)
      (λ apart. loaded-before word reader reads (board_after board (Load w)) moves wide allowed.1 there (get_or-set_other board.red w word true false (eqb-false word w apart) ∙ white) before after)
  loaded-before word reader reads board (Store w ∷ moves) wide allowed there white before after =
      loaded-before word reader reads (board_after board (Store w)) moves wide allowed.1 there white before after
  loaded-before word reader reads board (Compute w ∷ moves) wide allowed there white before after =
      loaded-before word reader reads (board_after board (Compute w)) moves (omega (arith, wide, length-set-is)) allowed.1 (later there)
      (get_or-set_other board.red w word true false other-word ∙ white) (get_or-set_other board.computed w reader true false other-reader ∙ before) after where
        length-set-is : length (set board.computed w true) ≡ length board.computed
        length-set-is = same-length board.computed w where
          same-length : (l : List Bool) (i : ℕ) → length (set l i true) ≡ length l
          same-length [] i = refl
          same-length (x ∷ l) zero = refl
          same-length (x ∷ l) (suc i) = ap suc (same-length l i)

        computed-now : marked board.computed word ≡ true → word ≡ w → ⊥
        computed-now on e = let off : marked board.computed word ≡ false = ap (marked board.computed) e ∙ allowed.0.1 in cc

        other-word : word ≢ w
        other-word e = by there where
          by : (graph.instances ≤ word) ⊎ (marked board.computed word ≡ true) → ⊥
          by (inl input) = omega (arith, input, e, allowed.0.0)
          by (inr on) = computed-now on e

        other-reader : reader ≢ w
        other-reader e =
            let red : marked board.red word ≡ true = all-contained (λ (u : ℕ). IsTrue (marked board.red u)) (predecessors_at graph w) word allowed.0.2 (subst (λ (x : ℕ). Contains (predecessors_at graph x) word) e reads) in
            cc

        later : (graph.instances ≤ word) ⊎ (marked board.computed word ≡ true) → (graph.instances ≤ word) ⊎ (marked (set board.computed w true) word ≡ true)
        later (inl input) = inl input
        later (inr on) = inr (get_or-set_other board.computed w word true false other-word ∙ on)
  loaded-before word reader reads board (Drop w ∷ moves) wide allowed there white before after =
      loaded-before word reader reads (board_after board (Drop w)) moves wide allowed.1 there (unmarked board.red w word white) before after where
        unmarked : (marks : List Bool) (x v : ℕ) → marked marks v ≡ false → marked (set marks x false) v ≡ false
        unmarked [] x v h = h
        unmarked (m ∷ marks) zero zero h = refl
        unmarked (m ∷ marks) zero (suc v) h = h
        unmarked (m ∷ marks) (suc x) zero h = h
        unmarked (m ∷ marks) (suc x) (suc v) h = unmarked marks x v h
  loaded-before word reader reads board (Erase w ∷ moves) wide allowed there white before after =
      loaded-before word reader reads (board_after board (Erase w)) moves wide allowed.1 there white before after

  -- the red marks when a wave's vertex is computed: each word has one, or is loaded
  record IsFront (wave : Wave) (moves : List Move) : Type 0 where
    red : List Bool
    few : mark_count red ≤ s
    each : (point : WavePoint) → IsSoundPoint graph wave.vertex point → (is_loaded point.word moves ≡ true) ⊎ (marked red point.word ≡ true)

  module _ (wave : Wave) (there : wave.vertex < graph.instances) where
    -- right after the vertex is computed
    front-here : (board : Board) (moves : List Move) → IsKept graph board → AreAllowed graph s board (Compute wave.vertex ∷ moves)
        → ((v : ℕ) → v < graph.instances → marked (final_board board (Compute wave.vertex ∷ moves)).computed v ≡ true)
        → (point : WavePoint) → IsSoundPoint graph wave.vertex point → (is_loaded point.word moves ≡ true) ⊎ (marked (set board.red wave.vertex true) point.word ≡ true)
    front-here board moves kept allowed ends point sound =
        by (cases_Bool (marked (set board.red wave.vertex true) point.word)) where
          next : Board
          next = board_after board (Compute wave.vertex)

          kept-there : IsKept graph next
          kept-there = kept-next graph s board (Compute wave.vertex) kept allowed.0

          computed-there : marked next.computed wave.vertex ≡ true
          computed-there = get_or-set_same board.computed wave.vertex true false (omega (arith, kept.wide, there))

          -- its reader isn't the vertex, whose predecessors are red
          other : marked (set board.red wave.vertex true) point.word ≡ false → point.reader ≢ wave.vertex
          other white e =
              let red : marked board.red point.word ≡ true = all-contained (λ (u : ℕ). IsTrue (marked board.red u)) (predecessors_at graph wave.vertex) point.word allowed.0.2
              (subst (λ (x : ℕ). Contains (predecessors_at graph x) point.word) e sound.reads) in
              still red (cases_eq point.word wave.vertex) where
                still : marked board.red point.word ≡ true → (point.word ≡ wave.vertex) ⊎ (point.word ≢ wave.vertex) → ⊥
                still red (inl same) =
                    let computed : marked board.computed point.word ≡ true = kept.red point.word (subst (λ (x : ℕ). x < graph.instances) (sym same) there) red in
                    let off : marked board.computed point.word ≡ false = ap (marked board.computed) same ∙ allowed.0.1 in cc
                still red (inr apart) = let on : marked (set board.red wave.vertex true) point.word ≡ true = get_or-set_other board.red wave.vertex point.word true false apart ∙ red in cc

          -- and it wasn't computed before
          not-yet : point.reader ≢ wave.vertex → (marked next.computed point.reader ≡ true) ⊎ (marked next.computed point.reader ≡ false) → marked next.computed point.reader ≡ false
          not-yet apart (inr off) = off
          not-yet apart (inl on) =
              let before : marked board.computed point.reader ≡ true = sym (get_or-set_other board.computed wave.vertex point.reader true false apart) ∙ on in
              let vertex : marked board.computed wave.vertex ≡ true = reached-computed graph s board kept sound.behind.0 point.reader wave.vertex before there sound.behind.1 in
              let off : marked board.computed wave.vertex ≡ false = allowed.0.1 in cc

          available : (graph.instances ≤ point.word) ⊎ IsReached graph wave.vertex point.word → (graph.instances ≤ point.word) ⊎ (marked next.computed point.word ≡ true)
          available (inl input) = inl input
          available (inr reach) = by (order graph.instances point.word) where
            order : (m n : ℕ) → (m ≤ n) ⊎ (n < m)
            order m n = grind arith

            by : (graph.instances ≤ point.word) ⊎ (point.word < graph.instances) → (graph.instances ≤ point.word) ⊎ (marked next.computed point.word ≡ true)
            by (inl input) = inl input
            by (inr less) = inr (reached-computed graph s next kept-there reach.0 wave.vertex point.word computed-there less reach.1)

          by : (marked (set board.red wave.vertex true) point.word ≡ true) ⊎ (marked (set board.red wave.vertex true) point.word ≡ false)
              → (is_loaded point.word moves ≡ true) ⊎ (marked (set board.red wave.vertex true) point.word ≡ true)
          by (inl on) = inr on
          by (inr white) =
              inl (loaded-before point.word point.reader sound.reads next moves kept-there.wide allowed.1 (available sound.before) white
              (not-yet (other white) (cases_Bool (marked next.computed point.reader))) (ends point.reader sound.reader_there))

    load-later : (move : Move) (moves : List Move) (v : ℕ) → is_loaded v moves ≡ true → is_loaded v (move ∷ moves) ≡ true
    load-later (Load w) moves v h = or_true (nat_eq v w) (is_loaded v moves) (λ apart. h)
    load-later (Store w) moves v h = h
    load-later (Compute w) moves v h = h
    load-later (Drop w) moves v h = h
    load-later (Erase w) moves v h = h

    later-front : (move : Move) (moves : List Move) → IsFront wave moves → IsFront wave (move ∷ moves)
    later-front move moves front = record {
      red = front.red;
      few = front.few;
      each = λ point sound. by point (front.each point sound);
    } where
      by : (point : WavePoint) → (is_loaded point.word moves ≡ true) ⊎ (marked front.red point.word ≡ true) → (is_loaded point.word (move ∷ moves) ≡ true) ⊎ (marked front.red point.word ≡ true)
      by point (inl h) = inl (load-later move moves point.word h)
      by point (inr h) = inr h

    front : (board : Board) (moves : List Move) → IsKept graph board → AreAllowed graph s board moves → marked board.computed wave.vertex ≡ false
        → ((v : ℕ) → v < graph.instances → marked (final_board board moves).computed v ≡ true) → IsFront wave moves
    front board [] kept allowed before ends = absurd (none (ends wave.vertex there) before) where
      none : {b : Bool} → b ≡ true → b ≡ false → ⊥
      none p q = cc
    front board (Load w ∷ moves) kept allowed before ends = later-front (Load w) moves (front (board_after board (Load w)) moves (kept-next graph s board (Load w) kept allowed.0) allowed.1 before ends)
    front board (Store w ∷ moves) kept allowed before ends = later-front (Store w) moves (front (board_after board (Store w)) moves (kept-next graph s board (Store w) kept allowed.0) allowed.1 before ends)
    front board (Compute w ∷ moves) kept allowed before ends =
        by (cases_eq wave.vertex w)
        (λ apart. front (board_after board (Compute w)) moves (kept-next graph s board (Compute w) kept allowed.0) allowed.1
        (get_or-set_other board.computed w wave.vertex true false apart ∙ before) ends) where
          by : (wave.vertex ≡ w) ⊎ (wave.vertex ≢ w) → (wave.vertex ≢ w → IsFront wave moves) → IsFront wave (Compute w ∷ moves)
          by (inr apart) rest = later-front (Compute w) moves (rest apart)
          by (inl e) rest = record {
            red = set board.red wave.vertex true;
            few = omega (arith, allowed.0.3, count-put board.red wave.vertex);
            each = front-here board moves kept (subst (λ (x : ℕ). AreAllowed graph s board (Compute x ∷ moves)) (sym e) allowed)
                (subst (λ (x : ℕ). (v : ℕ) → v < graph.instances → marked (final_board board (Compute x ∷ moves)).computed v ≡ true) (sym e) ends);
          }
    front board (Drop w ∷ moves) kept allowed before ends = later-front (Drop w) moves (front (board_after board (Drop w)) moves (kept-next graph s board (Drop w) kept allowed.0) allowed.1 before ends)
    front board (Erase w ∷ moves) kept allowed before ends = later-front (Erase w) moves (front (board_after board (Erase w)) moves (kept-next graph s board (Erase w) kept allowed.0) allowed.1 before ends)

-- ---- counting

-- different vertices that are marked are at most as many as the marks
marked-few : (marks : List Bool) (xs : List ℕ) → IsDistinct nat_eq xs → ((v : ℕ) → Member v xs → marked marks v ≡ true) → length xs ≤ mark_count marks
marked-few marks xs distinct on =
    subst (λ (n : ℕ). length xs ≤ n) (length-marked_from 0 marks)
    (length-le_from_is_member nat_eq_equiv xs (marked_from 0 marks) distinct
    (λ v h. member-stands (marked_from 0 marks) v (subst (λ (n : ℕ). Member n (marked_from 0 marks)) (zero-add v) (marked-member 0 marks v (on v (standing-member xs v h))))))

word-point : (points : List WavePoint) (v : ℕ) → Member v (map (λ (point : WavePoint). point.word) points) → (graph : ComputationGraph) (vertex : ℕ) → AllByRecursion (IsSoundPoint graph vertex) points
    → (point : WavePoint) × (v ≡ point.word) × IsSoundPoint graph vertex point
word-point [] v m graph vertex sound = absurd m
word-point (p ∷ points) v (inl e) graph vertex sound = (p, e, sound.0)
word-point (p ∷ points) v (inr m) graph vertex sound = word-point points v m graph vertex sound.1

distinct-parts : (xs ys : List ℕ) → IsDistinct nat_eq (xs ++ ys) → IsDistinct nat_eq xs × IsDistinct nat_eq ys
unfolding IsDistinct
distinct-parts [] ys h = (tt, h)
distinct-parts (x ∷ xs) ys h = let rest = distinct-parts xs ys h.1 in ((apart xs ys h.0, rest.0), rest.1) where
  apart : (as_ bs : List ℕ) → AllByRecursion (λ (y : ℕ). nat_eq x y ≡ false) (as_ ++ bs) → AllByRecursion (λ (y : ℕ). nat_eq x y ≡ false) as_
  apart [] bs h = tt
  apart (y ∷ as_) bs h = (h.0, apart as_ bs h.1)

not-true : (b : Bool) → not b ≡ true → b ≡ true → ⊥
not-true true h e = cc
not-true false h e = cc

module _ (graph : ComputationGraph) (s : ℕ) (moves : List Move) (game : IsCompletePebbling graph s moves) where
  -- at most s words of a wave are never loaded
  left-few : (wave : Wave) → IsSoundWave graph wave → IsDistinct nat_eq (words_of wave) → length (unloaded_among (words_of wave) moves) ≤ s
  left-few wave sound distinct =
      let at : IsFront graph s wave moves =
      front graph s wave sound.there (first_board graph) moves (kept-first graph s) game.allowed (unmarked-at (vertices graph) wave.vertex) game.computed in
      omega (arith, at.few, marked-few at.red (unloaded_among (words_of wave) moves) (distinct-filtered (λ v. not (is_loaded v moves)) (words_of wave) distinct) (λ v m. red at v (filtered-member (λ u. not (is_loaded u moves)) (words_of wave) v m))) where
        red : (at : IsFront graph s wave moves) (v : ℕ) → Member v (words_of wave) × (not (is_loaded v moves) ≡ true) → marked at.red v ≡ true
        red at v m =
            let point = word-point wave.points v m.0 graph wave.vertex sound.points in
            by point (at.each point.0 point.2) where
              by : (point : (p : WavePoint) × (v ≡ p.word) × IsSoundPoint graph wave.vertex p) → (is_loaded point.0.word moves ≡ true) ⊎ (marked at.red point.0.word ≡ true) → marked at.red v ≡ true
              by point (inl h) = absurd (not-true (is_loaded v moves) m.1 (ap (λ (x : ℕ). is_loaded x moves) point.1 ∙ h))
              by point (inr h) = ap (marked at.red) point.1 ∙ h

  all-left : (waves : List Wave) → AllByRecursion (IsSoundWave graph) waves → IsDistinct nat_eq (all_words waves) → length (unloaded_among (all_words waves) moves) ≤ s * length waves
  all-left [] sound distinct = omega arith
  all-left (wave ∷ waves) sound distinct =
      let parts = distinct-parts (words_of wave) (all_words waves) distinct in
      omega (
        arith,
        ap length (filter-append (λ v. not (is_loaded v moves)) (words_of wave) (all_words waves)),
        length-append (unloaded_among (words_of wave) moves) (unloaded_among (all_words waves) moves),
        left-few wave sound.0 parts.0,
        all-left waves sound.1 parts.1,
        product s (length waves),
      ) where
        product : (m n : ℕ) → m * suc n ≡ m + m * n
        product m n = grind arith

pub waves-leave-few : WavesLeaveFew
waves-leave-few graph s moves wave game sound distinct = left-few graph s moves game wave sound distinct

pub waves-reloaded : WavesAreReloaded
waves-reloaded graph s moves waves game sound distinct =
    omega (
      arith,
      length-filter_both (λ v. is_loaded v moves) (λ v. not (is_loaded v moves)) (λ v. refl) (all_words waves),
      all-left graph s moves game waves sound distinct,
    )

pub waves-loaded : WavesAreLoaded
waves-loaded graph s moves waves game sound distinct =
    omega (arith, different_are_loads moves (all_words waves) distinct, waves-reloaded graph s moves waves game sound distinct)
