-- The labels of each two red words that stand in order are among those that were red at the start, or were brought.
use Rattle.std.proofs.Common.{◌≡◌, refl, sym, ◌∙◌, ap, subst, inl, inr, ℕ, Bool, true, false, cond, List, [], ◌∷◌, ◌++◌, arith, ℤ, ◌<ℤ◌, ◌≤ℤ◌}
use Rattle.std.specs.Prelude.{◌⊎◌, ◌<◌, Contains}
use Rattle.std.specs.List.{AllByRecursion}
use Rattle.std.proofs.lemmas.Int.{ints}
use Rattle.execution_laws.proofs.Members.{Member, Member-append_left, Member-append_right, Member-flat_map}
use Rattle.execution_laws.proofs.Ordered.{All-member}
use Rattle.iolb_model.specs.declared.game.Move.{Move}
use Rattle.iolb_model.specs.declared.game.Move.TheVariants.{Load, Store, Compute, Drop, Erase}
use Rattle.iolb_model.specs.Graph.{ComputationGraph}
use Rattle.iolb_model.specs.Game.{marked, predecessors_at, stands_in}
use Rattle.pebble_game.proofs.Marks.{all-contained, dropped-marked, marked_from, member-stands, set-marked, standing-member}
use Rattle.stretch_laws.specs.Reuse.{CountedPoint, Labeling, ReadsWord, group_words, words_in}
use Rattle.stretch_laws.specs.Runs.{IsRedRun, computed_vertices, red_after}
use Rattle.stretch_laws.proofs.Points.{member-of}
use Rattle.pair_laws.specs.Pairs.{GoesOnRanked, IsSoundPairs, PairPartition, one_group, pair_words}
use Rattle.pair_laws.proofs.TwoWords.{Labels, meetings, meetings-above, meetings-below}
use Rattle.pair_laws.proofs.Brought.{arrivals, brought, red-member}

true_or : (b : Bool) → (b ≡ true) ⊎ (b ≡ false)
true_or true = inl refl
true_or false = inr refl

lower-higher : (a b c : ℤ) → a <ℤ b → b ≤ℤ c → a <ℤ c
lower-higher a b c p q = omega (arith, ints)

lower-below : (a b c : ℤ) → a ≤ℤ b → b <ℤ c → a <ℤ c
lower-below a b c p q = omega (arith, ints)

module _ (graph : ComputationGraph) (s : ℕ) (pairs : PairPartition) (sound : IsSoundPairs graph pairs) (held : List Labels) where
  -- words of either family are words
  first-word : (l : Labeling) (v : ℕ) → Member l pairs.first.labelings → stands_in l.words v ≡ true → stands_in (pair_words pairs) v ≡ true
  first-word l v is word =
      member-stands (pair_words pairs) v (Member-flat_map group_words (pairs.first ∷ pairs.second ∷ []) (one_group pairs).groups v (inl refl)
      (Member-flat_map words_in pairs.first (pairs.first ∷ pairs.second ∷ []) v (inl refl)
      (Member-flat_map (λ (k : Labeling). k.words) l pairs.first.labelings v is (standing-member l.words v word))))

  second-word : (m : Labeling) (v : ℕ) → Member m pairs.second.labelings → stands_in m.words v ≡ true → stands_in (pair_words pairs) v ≡ true
  second-word m v is word =
      member-stands (pair_words pairs) v (Member-flat_map group_words (pairs.first ∷ pairs.second ∷ []) (one_group pairs).groups v (inl refl)
      (Member-flat_map words_in pairs.second (pairs.first ∷ pairs.second ∷ []) v (inr (inl refl))
      (Member-flat_map (λ (k : Labeling). k.words) m pairs.second.labelings v is (standing-member m.words v word))))

  -- two vertices are words, the first in a labeling of the first family, the other in one of the second, and stand in order
  pub record AreOrdered (x y : ℕ) (l m : Labeling) : Type 0 where
    pub first : Member l pairs.first.labelings
    pub second : Member m pairs.second.labelings
    pub first_word : stands_in l.words x ≡ true
    pub second_word : stands_in m.words y ≡ true
    pub lower : pairs.rank y <ℤ pairs.rank x

  -- the labels of each two red words that stand so are held
  abbrev pub AreRedHeld : List Bool → Type 0
  AreRedHeld red = (x y : ℕ) (l m : Labeling) → marked red x ≡ true → marked red y ≡ true → AreOrdered x y l m → Member (l.label x, m.label y) held

  -- and so is what is brought
  abbrev pub AreBroughtHeld : List Bool → List Move → Type 0
  AreBroughtHeld red moves = (two : Labels) → Member two (brought pairs red moves) → Member two held

  -- ---- an event

  arrives : (red : List Bool) (w x y : ℕ) (l m : Labeling) → marked red x ≡ true → marked red y ≡ true → (x ≡ w) ⊎ (y ≡ w) → AreOrdered x y l m
      → Member (l.label x, m.label y) (arrivals pairs w red)
  arrives red w x y l m on also (inl e) ordered =
      let here : marked red w ≡ true = subst (λ (v : ℕ). marked red v ≡ true) e on in
      subst (λ (b : Bool). Member (l.label x, m.label y) (cond b (meetings pairs w (marked_from 0 red)) [])) (sym here)
      (subst (λ (v : ℕ). Member (l.label x, m.label y) (meetings pairs v (marked_from 0 red))) e
      (meetings-above pairs x y l m (marked_from 0 red) ordered.first ordered.second ordered.lower (red-member red y also)))
  arrives red w x y l m on also (inr e) ordered =
      let here : marked red w ≡ true = subst (λ (v : ℕ). marked red v ≡ true) e also in
      subst (λ (b : Bool). Member (l.label x, m.label y) (cond b (meetings pairs w (marked_from 0 red)) [])) (sym here)
      (subst (λ (v : ℕ). Member (l.label x, m.label y) (meetings pairs v (marked_from 0 red))) e
      (meetings-below pairs x y l m (marked_from 0 red) ordered.first ordered.second ordered.lower (red-member red x on)))

  -- a vertex that comes at an event leaves all held
  after-event : (red : List Bool) (w : ℕ) (rest : List Labels) → AreRedHeld red → (is : Bool)
      → ((two : Labels) → Member two (cond is (arrivals pairs w (red_after red (Load w))) [] ++ rest) → Member two held) → is ≡ true → AreRedHeld (red_after red (Load w))
  after-event red w rest before is brings event x y l m on also ordered = by (set-marked red w x on) (set-marked red w y also) where
    came : (x ≡ w) ⊎ (y ≡ w) → Member (l.label x, m.label y) held
    came which =
        brings (l.label x, m.label y)
        (Member-append_left (l.label x, m.label y) (cond is (arrivals pairs w (red_after red (Load w))) []) rest
        (subst (λ (b : Bool). Member (l.label x, m.label y) (cond b (arrivals pairs w (red_after red (Load w))) [])) (sym event)
        (arrives (red_after red (Load w)) w x y l m on also which ordered)))

    by : (x ≡ w) ⊎ (marked red x ≡ true) → (y ≡ w) ⊎ (marked red y ≡ true) → Member (l.label x, m.label y) held
    by (inl e) other = came (inl e)
    by (inr one) (inl e) = came (inr e)
    by (inr one) (inr other) = before x y l m one other ordered

  -- ---- other moves

  -- a load of no word leaves all held
  after-load : (red : List Bool) (w : ℕ) → AreRedHeld red → stands_in (pair_words pairs) w ≡ false → AreRedHeld (red_after red (Load w))
  after-load red w before none x y l m on also ordered = by (set-marked red w x on) (set-marked red w y also) where
    never : (v : ℕ) → v ≡ w → stands_in (pair_words pairs) v ≡ true → ⊥
    never v e word = let is : stands_in (pair_words pairs) w ≡ true = subst (λ (u : ℕ). stands_in (pair_words pairs) u ≡ true) e word in cc

    by : (x ≡ w) ⊎ (marked red x ≡ true) → (y ≡ w) ⊎ (marked red y ≡ true) → Member (l.label x, m.label y) held
    by (inl e) other = absurd (never x e (first-word l x ordered.first ordered.first_word))
    by (inr one) (inl e) = absurd (never y e (second-word m y ordered.second ordered.second_word))
    by (inr one) (inr other) = before x y l m one other ordered

  -- what a vertex reads is red where it is computed
  read-red : (red : List Bool) (v : ℕ) (l : Labeling) (value : List ℤ) → AllByRecursion (λ (u : ℕ). marked red u ≡ true) (predecessors_at graph v)
      → (reads : ReadsWord graph l.words l.label v value) → marked red reads.word ≡ true
  read-red red v l value all reads = all-contained (λ (u : ℕ). marked red u ≡ true) (predecessors_at graph v) reads.word all reads.read

  -- a computation that is no event leaves all held: each word has the label of one that is read, and stands beyond it
  after-compute : (red : List Bool) (w : ℕ) → AreRedHeld red → w < graph.instances → AllByRecursion (λ (u : ℕ). marked red u ≡ true) (predecessors_at graph w)
      → stands_in pairs.credited w ≡ false → AreRedHeld (red_after red (Compute w))
  after-compute red w before below all none x y l m on also ordered = by (set-marked red w x on) (set-marked red w y also) where
    goes_first : GoesOnRanked graph pairs (λ own source. own ≤ℤ source) l
    goes_first = All-member (GoesOnRanked graph pairs (λ own source. own ≤ℤ source)) pairs.first.labelings l sound.first.goes_on ordered.first

    goes_second : GoesOnRanked graph pairs (λ own source. source ≤ℤ own) m
    goes_second = All-member (GoesOnRanked graph pairs (λ own source. source ≤ℤ own)) pairs.second.labelings m sound.second.goes_on ordered.second

    one-comes : x ≡ w → marked red y ≡ true → Member (l.label x, m.label y) held
    one-comes e other =
        let word : stands_in l.words w ≡ true = subst (λ (v : ℕ). stands_in l.words v ≡ true) e ordered.first_word in
        let reads = goes_first w word below none in
        let less : pairs.rank y <ℤ pairs.rank w = subst (λ (v : ℕ). pairs.rank y <ℤ pairs.rank v) e ordered.lower in
        subst (λ (value : List ℤ). Member (value, m.label y) held) (reads.0.same ∙ ap l.label (sym e))
        (before reads.0.word y l m (read-red red w l (l.label w) all reads.0) other (record {
          first = ordered.first;
          second = ordered.second;
          first_word = reads.0.stands;
          second_word = ordered.second_word;
          lower = lower-higher (pairs.rank y) (pairs.rank w) (pairs.rank reads.0.word) less reads.1;
        }))

    other-comes : marked red x ≡ true → y ≡ w → Member (l.label x, m.label y) held
    other-comes one e =
        let word : stands_in m.words w ≡ true = subst (λ (v : ℕ). stands_in m.words v ≡ true) e ordered.second_word in
        let reads = goes_second w word below none in
        let less : pairs.rank w <ℤ pairs.rank x = subst (λ (v : ℕ). pairs.rank v <ℤ pairs.rank x) e ordered.lower in
        subst (λ (value : List ℤ). Member (l.label x, value) held) (reads.0.same ∙ ap m.label (sym e))
        (before x reads.0.word l m one (read-red red w m (m.label w) all reads.0) (record {
          first = ordered.first;
          second = ordered.second;
          first_word = ordered.first_word;
          second_word = reads.0.stands;
          lower = lower-below (pairs.rank reads.0.word) (pairs.rank w) (pairs.rank x) reads.1 less;
        }))

    both-come : x ≡ w → y ≡ w → ⊥
    both-come e f = let same : pairs.rank y ≡ pairs.rank x = ap pairs.rank (f ∙ sym e) in let less = ordered.lower in omega (arith, ints)

    by : (x ≡ w) ⊎ (marked red x ≡ true) → (y ≡ w) ⊎ (marked red y ≡ true) → Member (l.label x, m.label y) held
    by (inl e) (inl f) = absurd (both-come e f)
    by (inl e) (inr other) = one-comes e other
    by (inr one) (inl f) = other-comes one f
    by (inr one) (inr other) = before x y l m one other ordered

  -- ---- points

  -- the labels of the starts of a point whose instance is computed now
  begins-now : (red : List Bool) (point : CountedPoint) → AreRedHeld red → Contains pairs.points point
      → AllByRecursion (λ (u : ℕ). marked red u ≡ true) (predecessors_at graph point.vertex) → Member (pairs.first.start point, pairs.second.start point) held
  begins-now red point before is all =
      let one = sound.first.begins point is in
      let other = sound.second.begins point is in
      subst (λ (value : List ℤ). Member (value, pairs.second.start point) held) one.reads.0.same
      (subst (λ (value : List ℤ). Member (one.labeling.label one.reads.0.word, value) held) other.reads.0.same
      (before one.reads.0.word other.reads.0.word one.labeling other.labeling
      (read-red red point.vertex one.labeling (pairs.first.start point) all one.reads.0)
      (read-red red point.vertex other.labeling (pairs.second.start point) all other.reads.0)
      (record {
        first = member-of one.labeling pairs.first.labelings one.is;
        second = member-of other.labeling pairs.second.labelings other.is;
        first_word = one.reads.0.stands;
        second_word = other.reads.0.stands;
        lower = lower-below (pairs.rank other.reads.0.word) (pairs.point_rank point) (pairs.rank one.reads.0.word) other.reads.1 one.reads.1;
      })))

  -- so the labels of the starts of each point whose instance is computed are held
  pub starts-held : (red : List Bool) (moves : List Move) → IsRedRun graph s red moves → AreRedHeld red → AreBroughtHeld red moves
      → (point : CountedPoint) → Contains pairs.points point → Member point.vertex (computed_vertices moves) → Member (pairs.first.start point, pairs.second.start point) held
  unfolding brought
  starts-held red [] run before brings point is m = absurd m
  starts-held red (Load w ∷ moves) run before brings point is m =
      starts-held (red_after red (Load w)) moves run.2 (by (true_or (stands_in (pair_words pairs) w)))
      (λ two n. brings two (Member-append_right two (cond (stands_in (pair_words pairs) w) (arrivals pairs w (red_after red (Load w))) []) (brought pairs (red_after red (Load w)) moves) n)) point is m where
        by : (stands_in (pair_words pairs) w ≡ true) ⊎ (stands_in (pair_words pairs) w ≡ false) → AreRedHeld (red_after red (Load w))
        by (inl event) = after-event red w (brought pairs (red_after red (Load w)) moves) before (stands_in (pair_words pairs) w) brings event
        by (inr none) = after-load red w before none
  starts-held red (Store w ∷ moves) run before brings point is m = starts-held red moves run.2 before brings point is m
  starts-held red (Compute w ∷ moves) run before brings point is m =
      at m (λ later. starts-held (red_after red (Compute w)) moves run.2 (by (true_or (stands_in pairs.credited w)))
      (λ two n. brings two (Member-append_right two (cond (stands_in pairs.credited w) (arrivals pairs w (red_after red (Compute w))) []) (brought pairs (red_after red (Compute w)) moves) n)) point is later) where
        by : (stands_in pairs.credited w ≡ true) ⊎ (stands_in pairs.credited w ≡ false) → AreRedHeld (red_after red (Compute w))
        by (inl event) = after-event red w (brought pairs (red_after red (Compute w)) moves) before (stands_in pairs.credited w) brings event
        by (inr none) = after-compute red w before run.1.0 run.1.1 none

        at : (point.vertex ≡ w) ⊎ Member point.vertex (computed_vertices moves) → (Member point.vertex (computed_vertices moves) → Member (pairs.first.start point, pairs.second.start point) held)
            → Member (pairs.first.start point, pairs.second.start point) held
        at (inl e) behind = begins-now red point before is (subst (λ (v : ℕ). AllByRecursion (λ (u : ℕ). marked red u ≡ true) (predecessors_at graph v)) (sym e) run.1.1)
        at (inr later) behind = behind later
  starts-held red (Drop w ∷ moves) run before brings point is m =
      starts-held (red_after red (Drop w)) moves run.2 (λ x y l n on also ordered. before x y l n (dropped-marked red w x on) (dropped-marked red w y also) ordered) brings point is m
  starts-held red (Erase w ∷ moves) run before brings point is m = starts-held red moves run.2 before brings point is m
