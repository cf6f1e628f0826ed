-- The labels that are held in a stretch of moves: those of the words that are red at its start, and of those of its events.
use Rattle.std.proofs.Common.{◌≡◌, refl, sym, ◌∙◌, subst, inl, inr, ℕ, ◌+◌, Bool, true, false, cond, List, [], ◌∷◌, length, arith}
use Rattle.std.specs.Prelude.{◌⊎◌, ℤ, Contains}
use Rattle.std.specs.List.{AllByRecursion}
use Rattle.std.proofs.lemmas.List.Sums.{sum_by-cons}
use Rattle.execution_laws.proofs.Members.{Member}
use Rattle.iolb_model.specs.declared.game.Move.{Move}
use Rattle.iolb_model.specs.declared.game.Move.TheVariants.{Load, Store, Compute, Drop, Erase}
use Rattle.iolb_model.specs.Graph.{ComputationGraph}
use Rattle.iolb_model.specs.Game.{marked, predecessors_at, stands_in}
use Rattle.pebble_game.proofs.Marks.{all-contained, dropped-marked, set-marked}
use Rattle.stretch_laws.specs.Reuse.{Labeling, GoesOn, ReadsWord}
use Rattle.stretch_laws.specs.Runs.{IsRedRun, computed_vertices, count_events, is_event_of, red_after}

module _ (words credited : List ℕ) where
  -- the vertices of events, in order
  pub event_vertices : List Move → List ℕ
  event_vertices [] = []
  event_vertices (Load v ∷ moves) = cond (stands_in words v) (v ∷ event_vertices moves) (event_vertices moves)
  event_vertices (Store v ∷ moves) = event_vertices moves
  event_vertices (Compute v ∷ moves) = cond (stands_in credited v) (v ∷ event_vertices moves) (event_vertices moves)
  event_vertices (Drop v ∷ moves) = event_vertices moves
  event_vertices (Erase v ∷ moves) = event_vertices moves

  longer-if : (b : Bool) (v n : ℕ) (rest : List ℕ) → length rest ≡ n → length (cond b (v ∷ rest) rest) ≡ cond b 1 0 + n
  longer-if true v n rest e = omega (arith, e)
  longer-if false v n rest e = omega (arith, e)

  pub length-event_vertices : (moves : List Move) → length (event_vertices moves) ≡ count_events words credited moves
  unfolding event_vertices
  length-event_vertices [] = refl
  length-event_vertices (Load v ∷ moves) =
      longer-if (stands_in words v) v (count_events words credited moves) (event_vertices moves) (length-event_vertices moves)
      ∙ sym (sum_by-cons (λ (move : Move). cond (is_event_of words credited move) 1 0) (Load v) moves)
  length-event_vertices (Store v ∷ moves) = length-event_vertices moves
  length-event_vertices (Compute v ∷ moves) =
      longer-if (stands_in credited v) v (count_events words credited moves) (event_vertices moves) (length-event_vertices moves)
      ∙ sym (sum_by-cons (λ (move : Move). cond (is_event_of words credited move) 1 0) (Compute v) moves)
  length-event_vertices (Drop v ∷ moves) = length-event_vertices moves
  length-event_vertices (Erase v ∷ moves) = length-event_vertices moves

  first-if : (b : Bool) (v : ℕ) (rest : List ℕ) → b ≡ true → Member v (cond b (v ∷ rest) rest)
  first-if true v rest e = inl refl
  first-if false v rest e = absurd cc

  later-if : (b : Bool) (v w : ℕ) (rest : List ℕ) → Member v rest → Member v (cond b (w ∷ rest) rest)
  later-if true v w rest m = inr m
  later-if false v w rest m = m

  module _ (graph : ComputationGraph) (s : ℕ) (labeling : Labeling) (goes_on : GoesOn graph credited labeling)
      (inside : (v : ℕ) → stands_in labeling.words v ≡ true → stands_in words v ≡ true) (labels : List (List ℤ)) where
    -- the label of each red word is listed
    abbrev pub AreRedHeld : List Bool → Type 0
    AreRedHeld red = (v : ℕ) → marked red v ≡ true → stands_in labeling.words v ≡ true → Contains labels (labeling.label v)

    -- and of each word of an event
    abbrev pub AreEventsHeld : List Move → Type 0
    AreEventsHeld moves = (v : ℕ) → Member v (event_vertices moves) → stands_in labeling.words v ≡ true → Contains labels (labeling.label v)

    -- a vertex reads a word with this label
    abbrev pub Reads : ℕ → List ℤ → Type 0
    Reads vertex value = ReadsWord graph labeling.words labeling.label vertex value

    -- what is read of red predecessors is listed
    read-held : (red : List Bool) (v : ℕ) (value : List ℤ) → AreRedHeld red → AllByRecursion (λ (u : ℕ). marked red u ≡ true) (predecessors_at graph v)
        → Reads v value → Contains labels value
    read-held red v value held all reads =
        subst (Contains labels) reads.same
        (held reads.word (all-contained (λ (u : ℕ). marked red u ≡ true) (predecessors_at graph v) reads.word all reads.read) reads.stands)

    true_or : (b : Bool) → (b ≡ true) ⊎ (b ≡ false)
    true_or true = inl refl
    true_or false = inr refl

    -- so the label of what is read by each vertex that is computed is listed
    pub value-held : (red : List Bool) (moves : List Move) → IsRedRun graph s red moves → AreRedHeld red → AreEventsHeld moves
        → (v : ℕ) (value : List ℤ) → Reads v value → Member v (computed_vertices moves) → Contains labels value
    unfolding event_vertices
    value-held red [] run held brought v value reads m = absurd m
    value-held red (Load w ∷ moves) run held brought v value reads m =
        value-held (red_after red (Load w)) moves run.2 after (λ u n word. brought u (later-if (stands_in words w) u w (event_vertices moves) n) word) v value reads m where
          after : AreRedHeld (red_after red (Load w))
          after u on word = by (set-marked red w u on) where
            by : (u ≡ w) ⊎ (marked red u ≡ true) → Contains labels (labeling.label u)
            by (inl e) = brought u (subst (λ (x : ℕ). Member x (cond (stands_in words w) (w ∷ event_vertices moves) (event_vertices moves))) (sym e)
                (first-if (stands_in words w) w (event_vertices moves) (inside w (subst (λ (x : ℕ). stands_in labeling.words x ≡ true) e word)))) word
            by (inr before) = held u before word
    value-held red (Store w ∷ moves) run held brought v value reads m = value-held red moves run.2 held brought v value reads m
    value-held red (Compute w ∷ moves) run held brought v value reads m =
        by m
        (λ later. value-held (red_after red (Compute w)) moves run.2 after (λ u n word. brought u (later-if (stands_in credited w) u w (event_vertices moves) n) word) v value reads later) where
          after : AreRedHeld (red_after red (Compute w))
          after u on word = by (set-marked red w u on) where
            itself : (stands_in credited w ≡ true) ⊎ (stands_in credited w ≡ false) → stands_in labeling.words w ≡ true → Contains labels (labeling.label w)
            itself (inl is) standing = brought w (first-if (stands_in credited w) w (event_vertices moves) is) standing
            itself (inr not) standing = read-held red w (labeling.label w) held run.1.1 (goes_on w standing run.1.0 not)

            by : (u ≡ w) ⊎ (marked red u ≡ true) → Contains labels (labeling.label u)
            by (inl e) = subst (λ (x : ℕ). Contains labels (labeling.label x)) (sym e) (itself (true_or (stands_in credited w)) (subst (λ (x : ℕ). stands_in labeling.words x ≡ true) e word))
            by (inr before) = held u before word

          by : (v ≡ w) ⊎ Member v (computed_vertices moves) → (Member v (computed_vertices moves) → Contains labels value) → Contains labels value
          by (inl e) behind = read-held red w value held run.1.1 (subst (λ (x : ℕ). Reads x value) e reads)
          by (inr later) behind = behind later
    value-held red (Drop w ∷ moves) run held brought v value reads m =
        value-held (red_after red (Drop w)) moves run.2 (λ u on word. held u (dropped-marked red w u on) word) brought v value reads m
    value-held red (Erase w ∷ moves) run held brought v value reads m = value-held red moves run.2 held brought v value reads m
