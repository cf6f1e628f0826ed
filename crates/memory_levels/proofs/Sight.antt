-- What a boundary sees of moves over levels is a list of moves of the game of one fast memory.
use Rattle.std.proofs.Common.{◌≡◌, refl, sym, ◌∙◌, ap, subst, inl, inr, ℕ, zero, suc, ◌+◌, ◌-◌, ◌<◌, ◌≤◌, Bool, true, false, cond, ◌||◌, leb, List, [], ◌∷◌, ◌++◌, length, get_or, take, drop, set, replicate, IsTrue, arith}
use Rattle.std.specs.Prelude.{◌⊎◌}
use Rattle.std.specs.List.{AllByRecursion}
use Rattle.std.proofs.lemmas.Bool.{cases_eq, cases_Bool, eq-eqb, ne_eqb, leb-false, leb-true}
use Rattle.std.proofs.lemmas.List.{length-set, get_or-set_same, get_or-set_other, take-set-le, drop-set-lt, length-replicate, length-append}
use Rattle.std.proofs.lemmas.List.Sums.{fold-append}
use Rattle.iolb_model.specs.Graph.{ComputationGraph}
use Rattle.iolb_model.specs.Game.{Board, marked, mark_count, vertices, predecessors_at, first_board, board_after, AreAllowed, final_board}
use Rattle.iolb_model.specs.Tower.{TowerBoard, IsFastLevel, HasRoom, IsTowerAllowed, level_at, tower_board_after, first_tower_board, capacity_up_to, AreTowerAllowed, final_tower_board, tower_left, stands_at_one, seen_move, seen_moves}
use Rattle.iolb_model.specs.declared.game.Move.{Move}
use Rattle.iolb_model.specs.declared.game.Move.TheVariants as moves
use Rattle.iolb_model.specs.declared.tower.TowerMove.{TowerMove}
use Rattle.iolb_model.specs.declared.tower.TowerMove.TheVariants.{Bring, Send, Compute, Drop}
use Rattle.pebble_game.proofs.Allowed.{allowed-append}
use Rattle.pebble_game.proofs.Marks.{unmarked-at}
use Rattle.memory_levels.specs.Seen.{SeenAreAllowed, SeenIsComplete}
use Rattle.memory_levels.proofs.Unions.{count-of-union, stands-first, stands-last, first-stays, last-stays}
use Rattle.memory_levels.proofs.Held.{IsHeld, placed, moved-held, first-held, counts-below}

-- A board of one fast memory is what a boundary sees: red where a word stands at a level up to it, blue where at one behind it.
pub record Sees (n i : ℕ) (tower : TowerBoard) (board : Board) : Type 0 where
  pub red : (u : ℕ) → marked board.red u ≡ stands_at_one (take i tower.levels) u
  pub blue : (u : ℕ) → marked board.blue u ≡ stands_at_one (drop i tower.levels) u
  pub computed : board.computed ≡ tower.computed
  pub reds : length board.red ≡ n
  pub blues : length board.blue ≡ n

-- ---- marks of one side after one of its vertices changed

put-agrees : (marks : List Bool) (v : ℕ) (before after : ℕ → Bool) → v < length marks → ((u : ℕ) → marked marks u ≡ before u)
    → after v ≡ true → ((u : ℕ) → (u ≡ v → ⊥) → after u ≡ before u) → (u : ℕ) → marked (set marks v true) u ≡ after u
put-agrees marks v before after below agrees here others u = by (cases_eq u v) where
  by : (u ≡ v) ⊎ (u ≡ v → ⊥) → marked (set marks v true) u ≡ after u
  by (inl e) = ap (λ (w : ℕ). marked (set marks v true) w) e ∙ get_or-set_same marks v true false below ∙ sym (ap after e ∙ here)
  by (inr apart) = get_or-set_other marks v u true false apart ∙ agrees u ∙ sym (others u apart)

taken-agrees : (marks : List Bool) (v : ℕ) (before after : ℕ → Bool) → v < length marks → ((u : ℕ) → marked marks u ≡ before u)
    → after v ≡ false → ((u : ℕ) → (u ≡ v → ⊥) → after u ≡ before u) → (u : ℕ) → marked (set marks v false) u ≡ after u
taken-agrees marks v before after below agrees here others u = by (cases_eq u v) where
  by : (u ≡ v) ⊎ (u ≡ v → ⊥) → marked (set marks v false) u ≡ after u
  by (inl e) = ap (λ (w : ℕ). marked (set marks v false) w) e ∙ get_or-set_same marks v false false below ∙ sym (ap after e ∙ here)
  by (inr apart) = get_or-set_other marks v u false false apart ∙ agrees u ∙ sym (others u apart)

stay-agrees : (marks : List Bool) (v : ℕ) (before after : ℕ → Bool) → ((u : ℕ) → marked marks u ≡ before u)
    → before v ≡ true → after v ≡ true → ((u : ℕ) → (u ≡ v → ⊥) → after u ≡ before u) → (u : ℕ) → marked marks u ≡ after u
stay-agrees marks v before after agrees was here others u = by (cases_eq u v) where
  by : (u ≡ v) ⊎ (u ≡ v → ⊥) → marked marks u ≡ after u
  by (inl e) = agrees u ∙ ap before e ∙ was ∙ sym (ap after e ∙ here)
  by (inr apart) = agrees u ∙ sym (others u apart)

-- ---- a change of one vertex at one level

module _ (n : ℕ) (capacities : List ℕ) (levels : List (List Bool)) (held : IsHeld n capacities levels) (k v : ℕ) (there : k ≤ length capacities) (below : v < n) where
  pub own : (b : Bool) → marked (get_or (set levels k (set (get_or levels k []) v b)) k []) v ≡ b
  own b = ap (λ (m : List Bool). marked m v) (get_or-set_same levels k (set (get_or levels k []) v b) [] (omega (arith, held.many)))
      ∙ get_or-set_same (get_or levels k []) v b false (omega (arith, held.long k there))

  first-others : (i : ℕ) (b : Bool) (u : ℕ) → (u ≡ v → ⊥)
      → stands_at_one (take i (set levels k (set (get_or levels k []) v b))) u ≡ stands_at_one (take i levels) u
  first-others i b u apart = first-stays levels i k u (set (get_or levels k []) v b) (get_or-set_other (get_or levels k []) v u b false apart)

  last-others : (i : ℕ) (b : Bool) (u : ℕ) → (u ≡ v → ⊥)
      → stands_at_one (drop i (set levels k (set (get_or levels k []) v b))) u ≡ stands_at_one (drop i levels) u
  last-others i b u apart = last-stays levels i k u (set (get_or levels k []) v b) (get_or-set_other (get_or levels k []) v u b false apart)

  -- at a level on the other side nothing changes
  first-same : (i : ℕ) (b : Bool) → i ≤ k → (u : ℕ) → stands_at_one (take i (set levels k (set (get_or levels k []) v b))) u ≡ stands_at_one (take i levels) u
  first-same i b le u = ap (λ (ls : List (List Bool)). stands_at_one ls u) (take-set-le i levels k (set (get_or levels k []) v b) le)

  last-same : (i : ℕ) (b : Bool) → k < i → (u : ℕ) → stands_at_one (drop i (set levels k (set (get_or levels k []) v b))) u ≡ stands_at_one (drop i levels) u
  last-same i b lt u = ap (λ (ls : List (List Bool)). stands_at_one ls u) (drop-set-lt i levels k (set (get_or levels k []) v b) lt)

  module _ (i : ℕ) (computed : List Bool) (board : Board) (sees : Sees n i (record { levels = levels; computed = computed }) board) (after_computed : List Bool) where
    -- a word comes to the side up to the boundary
    pub load-sees : k < i → Sees n i (record { levels = set levels k (set (get_or levels k []) v true); computed = after_computed })
        (record { red = set board.red v true; blue = board.blue; computed = after_computed })
    load-sees lt = record {
      red = put-agrees board.red v (λ u. stands_at_one (take i levels) u) (λ u. stands_at_one (take i (set levels k (set (get_or levels k []) v true))) u) (omega (arith, sees.reds)) sees.red
          (stands-first (set levels k (set (get_or levels k []) v true)) i k v lt (own true)) (first-others i true);
      blue = λ u. sees.blue u ∙ sym (last-same i true lt u);
      computed = refl;
      reds = length-set board.red v true ∙ sees.reds;
      blues = sees.blues;
    }

    -- a word comes to the side behind it
    pub store-sees : i ≤ k → Sees n i (record { levels = set levels k (set (get_or levels k []) v true); computed = after_computed })
        (record { red = board.red; blue = set board.blue v true; computed = after_computed })
    store-sees le = record {
      red = λ u. sees.red u ∙ sym (first-same i true le u);
      blue = put-agrees board.blue v (λ u. stands_at_one (drop i levels) u) (λ u. stands_at_one (drop i (set levels k (set (get_or levels k []) v true))) u) (omega (arith, sees.blues)) sees.blue
          (stands-last (set levels k (set (get_or levels k []) v true)) i k v le (own true)) (last-others i true);
      computed = refl;
      reds = sees.reds;
      blues = length-set board.blue v true ∙ sees.blues;
    }

    -- a word comes, or goes, where it stands on the same side before and after
    pub up-sees : (b : Bool) → k < i → stands_at_one (take i levels) v ≡ true → stands_at_one (take i (set levels k (set (get_or levels k []) v b))) v ≡ true
        → Sees n i (record { levels = set levels k (set (get_or levels k []) v b); computed = computed }) board
    up-sees b lt was is = record {
      red = stay-agrees board.red v (λ u. stands_at_one (take i levels) u) (λ u. stands_at_one (take i (set levels k (set (get_or levels k []) v b))) u) sees.red was is (first-others i b);
      blue = λ u. sees.blue u ∙ sym (last-same i b lt u);
      computed = sees.computed;
      reds = sees.reds;
      blues = sees.blues;
    }

    pub behind-sees : (b : Bool) → i ≤ k → stands_at_one (drop i levels) v ≡ true → stands_at_one (drop i (set levels k (set (get_or levels k []) v b))) v ≡ true
        → Sees n i (record { levels = set levels k (set (get_or levels k []) v b); computed = computed }) board
    behind-sees b le was is = record {
      red = λ u. sees.red u ∙ sym (first-same i b le u);
      blue = stay-agrees board.blue v (λ u. stands_at_one (drop i levels) u) (λ u. stands_at_one (drop i (set levels k (set (get_or levels k []) v b))) u) sees.blue was is (last-others i b);
      computed = sees.computed;
      reds = sees.reds;
      blues = sees.blues;
    }

    -- a word leaves its side
    pub drop-sees : k < i → stands_at_one (take i (set levels k (set (get_or levels k []) v false))) v ≡ false
        → Sees n i (record { levels = set levels k (set (get_or levels k []) v false); computed = computed })
        (record { red = set board.red v false; blue = board.blue; computed = board.computed })
    drop-sees lt gone = record {
      red = taken-agrees board.red v (λ u. stands_at_one (take i levels) u) (λ u. stands_at_one (take i (set levels k (set (get_or levels k []) v false))) u) (omega (arith, sees.reds)) sees.red gone (first-others i false);
      blue = λ u. sees.blue u ∙ sym (last-same i false lt u);
      computed = sees.computed;
      reds = length-set board.red v false ∙ sees.reds;
      blues = sees.blues;
    }

    pub erase-sees : i ≤ k → stands_at_one (drop i (set levels k (set (get_or levels k []) v false))) v ≡ false
        → Sees n i (record { levels = set levels k (set (get_or levels k []) v false); computed = computed })
        (record { red = board.red; blue = set board.blue v false; computed = board.computed })
    erase-sees le gone = record {
      red = λ u. sees.red u ∙ sym (first-same i false le u);
      blue = taken-agrees board.blue v (λ u. stands_at_one (drop i levels) u) (λ u. stands_at_one (drop i (set levels k (set (get_or levels k []) v false))) u) (omega (arith, sees.blues)) sees.blue gone (last-others i false);
      computed = sees.computed;
      reds = sees.reds;
      blues = length-set board.blue v false ∙ sees.blues;
    }

-- ---- one move

-- what is seen of a move is allowed, and leaves what is seen of the board that the move leaves
pub record IsSeen (graph : ComputationGraph) (s i : ℕ) (after : TowerBoard) (board : Board) (seen : List Move) : Type 0 where
  pub allowed : AreAllowed graph s board seen
  pub sees : Sees (vertices graph) i after (final_board board seen)

-- reds are fewer than all that the levels up to the boundary hold, where one of these has room
room-seen : (n i k : ℕ) (capacities : List ℕ) (tower : TowerBoard) (board : Board) → IsHeld n capacities tower.levels → Sees n i tower board → i ≤ length capacities
    → k < i → mark_count (get_or tower.levels k []) < get_or capacities k 0 → mark_count board.red < capacity_up_to capacities i
room-seen n i k capacities tower board held sees within lt room =
    omega (arith, count-of-union board.red (take i tower.levels) (λ v h. sym (sees.red v) ∙ h), counts-below tower.levels capacities i k within lt held.kept room)

by-eq : {P : Type 0} (a b : ℕ) → (a ≡ b → P) → ((a ≡ b → ⊥) → P) → P
by-eq a b same apart = elim (cases_eq a b) [ inl e ↦ same e | inr e ↦ apart e ]

bring-seen : (graph : ComputationGraph) (capacities : List ℕ) (i : ℕ) (tower : TowerBoard) (board : Board) (j v : ℕ) → IsFastLevel capacities i
    → IsHeld (vertices graph) capacities tower.levels → Sees (vertices graph) i tower board → IsTowerAllowed graph capacities tower (Bring j v)
    → IsSeen graph (capacity_up_to capacities i) i (tower_board_after tower (Bring j v)) board (seen_move i tower (Bring j v))
bring-seen graph capacities i tower board j v fast held sees allowed =
    by-eq j i
    (λ e. subst (λ (b : Bool). IsSeen graph (capacity_up_to capacities i) i (tower_board_after tower (Bring j v)) board (cond b (moves.Load v ∷ []) [])) (sym (eq-eqb j i e)) (loaded e))
    (λ apart. subst (λ (b : Bool). IsSeen graph (capacity_up_to capacities i) i (tower_board_after tower (Bring j v)) board (cond b (moves.Load v ∷ []) [])) (sym (ne_eqb j i apart)) (passed apart)) where
      there : j - 1 ≤ length capacities
      there = omega (arith, allowed.0.1)

      below : v < vertices graph
      below = placed (vertices graph) capacities tower.levels (j + 1 - 1) v held (omega (arith, allowed.0.1)) allowed.1

      loaded : j ≡ i → IsSeen graph (capacity_up_to capacities i) i (tower_board_after tower (Bring j v)) board (moves.Load v ∷ [])
      loaded e = record {
        allowed = ((sees.blue v ∙ stands-last tower.levels i (j + 1 - 1) v (omega (arith, e)) allowed.1, may allowed.2), tt);
        sees = subst (λ (c : List Bool). Sees (vertices graph) i (record { levels = set tower.levels (j - 1) (set (get_or tower.levels (j - 1) []) v true); computed = tower.computed }) (record { red = set board.red v true; blue = board.blue; computed = c })) (sym sees.computed)
            (load-sees (vertices graph) capacities tower.levels held (j - 1) v there below i tower.computed board sees tower.computed (omega (arith, e, allowed.0.0)));
      } where
        may : IsTrue (marked (level_at tower j) v) ⊎ HasRoom capacities tower j → IsTrue (marked board.red v) ⊎ (mark_count board.red < capacity_up_to capacities i)
        may (inl h) = inl (sees.red v ∙ stands-first tower.levels i (j - 1) v (omega (arith, e, allowed.0.0)) h)
        may (inr room) = inr (room-seen (vertices graph) i (j - 1) capacities tower board held sees fast.1 (omega (arith, e, allowed.0.0)) (room allowed.0.1))

      passed : (j ≡ i → ⊥) → IsSeen graph (capacity_up_to capacities i) i (tower_board_after tower (Bring j v)) board []
      passed apart = record { allowed = tt; sees = by-lt (cases_Bool (leb (j + 1) i)) } where
        by-lt : (leb (j + 1) i ≡ true) ⊎ (leb (j + 1) i ≡ false) → Sees (vertices graph) i (tower_board_after tower (Bring j v)) board
        by-lt (inl h) =
            let lt : j + 1 ≤ i = leb-true (j + 1) i h in
            up-sees (vertices graph) capacities tower.levels held (j - 1) v there below i tower.computed board sees tower.computed true (omega (arith, lt, allowed.0.0))
            (stands-first tower.levels i (j + 1 - 1) v (omega (arith, lt)) allowed.1)
            (stands-first (set tower.levels (j - 1) (set (get_or tower.levels (j - 1) []) v true)) i (j - 1) v (omega (arith, lt)) (own (vertices graph) capacities tower.levels held (j - 1) v there below true))
        by-lt (inr h) =
            let gt : i < j + 1 = leb-false (j + 1) i h in
            let past : i ≤ j - 1 = omega (arith, gt, apart, allowed.0.0) in
            behind-sees (vertices graph) capacities tower.levels held (j - 1) v there below i tower.computed board sees tower.computed true past
            (stands-last tower.levels i (j + 1 - 1) v (omega (arith, past)) allowed.1)
            (stands-last (set tower.levels (j - 1) (set (get_or tower.levels (j - 1) []) v true)) i (j - 1) v past (own (vertices graph) capacities tower.levels held (j - 1) v there below true))

send-seen : (graph : ComputationGraph) (capacities : List ℕ) (i : ℕ) (tower : TowerBoard) (board : Board) (j v : ℕ) → IsFastLevel capacities i
    → IsHeld (vertices graph) capacities tower.levels → Sees (vertices graph) i tower board → IsTowerAllowed graph capacities tower (Send j v)
    → IsSeen graph (capacity_up_to capacities i) i (tower_board_after tower (Send j v)) board (seen_move i tower (Send j v))
send-seen graph capacities i tower board j v fast held sees allowed =
    by-eq j i
    (λ e. subst (λ (b : Bool). IsSeen graph (capacity_up_to capacities i) i (tower_board_after tower (Send j v)) board (cond b (moves.Store v ∷ []) [])) (sym (eq-eqb j i e)) (stored e))
    (λ apart. subst (λ (b : Bool). IsSeen graph (capacity_up_to capacities i) i (tower_board_after tower (Send j v)) board (cond b (moves.Store v ∷ []) [])) (sym (ne_eqb j i apart)) (passed apart)) where
      there : j + 1 - 1 ≤ length capacities
      there = omega (arith, allowed.0.1)

      below : v < vertices graph
      below = placed (vertices graph) capacities tower.levels (j - 1) v held (omega (arith, allowed.0.1)) allowed.1

      stored : j ≡ i → IsSeen graph (capacity_up_to capacities i) i (tower_board_after tower (Send j v)) board (moves.Store v ∷ [])
      stored e = record {
        allowed = (sees.red v ∙ stands-first tower.levels i (j - 1) v (omega (arith, e, allowed.0.0)) allowed.1, tt);
        sees = subst (λ (c : List Bool). Sees (vertices graph) i (record { levels = set tower.levels (j + 1 - 1) (set (get_or tower.levels (j + 1 - 1) []) v true); computed = tower.computed }) (record { red = board.red; blue = set board.blue v true; computed = c })) (sym sees.computed)
            (store-sees (vertices graph) capacities tower.levels held (j + 1 - 1) v there below i tower.computed board sees tower.computed (omega (arith, e)));
      }

      passed : (j ≡ i → ⊥) → IsSeen graph (capacity_up_to capacities i) i (tower_board_after tower (Send j v)) board []
      passed apart = record { allowed = tt; sees = by-lt (cases_Bool (leb (j + 1) i)) } where
        by-lt : (leb (j + 1) i ≡ true) ⊎ (leb (j + 1) i ≡ false) → Sees (vertices graph) i (tower_board_after tower (Send j v)) board
        by-lt (inl h) =
            let lt : j + 1 ≤ i = leb-true (j + 1) i h in
            up-sees (vertices graph) capacities tower.levels held (j + 1 - 1) v there below i tower.computed board sees tower.computed true (omega (arith, lt))
            (stands-first tower.levels i (j - 1) v (omega (arith, lt)) allowed.1)
            (stands-first (set tower.levels (j + 1 - 1) (set (get_or tower.levels (j + 1 - 1) []) v true)) i (j + 1 - 1) v (omega (arith, lt)) (own (vertices graph) capacities tower.levels held (j + 1 - 1) v there below true))
        by-lt (inr h) =
            let gt : i < j + 1 = leb-false (j + 1) i h in
            let past : i ≤ j - 1 = omega (arith, gt, apart, allowed.0.0) in
            behind-sees (vertices graph) capacities tower.levels held (j + 1 - 1) v there below i tower.computed board sees tower.computed true (omega (arith, past))
            (stands-last tower.levels i (j - 1) v past allowed.1)
            (stands-last (set tower.levels (j + 1 - 1) (set (get_or tower.levels (j + 1 - 1) []) v true)) i (j + 1 - 1) v (omega (arith, past)) (own (vertices graph) capacities tower.levels held (j + 1 - 1) v there below true))

-- all that stand at the fastest level are red
all-red : (i : ℕ) (levels : List (List Bool)) (red : List Bool) (us : List ℕ) → 0 < i → ((u : ℕ) → marked red u ≡ stands_at_one (take i levels) u)
    → AllByRecursion (λ u. IsTrue (marked (get_or levels 0 []) u)) us → AllByRecursion (λ u. IsTrue (marked red u)) us
all-red i levels red [] some agrees h = tt
all-red i levels red (u ∷ us) some agrees h = (agrees u ∙ stands-first levels i 0 u some h.0, all-red i levels red us some agrees h.1)

compute-seen : (graph : ComputationGraph) (capacities : List ℕ) (i : ℕ) (tower : TowerBoard) (board : Board) (v : ℕ) → IsFastLevel capacities i
    → IsHeld (vertices graph) capacities tower.levels → Sees (vertices graph) i tower board → IsTowerAllowed graph capacities tower (Compute v)
    → IsSeen graph (capacity_up_to capacities i) i (tower_board_after tower (Compute v)) board (seen_move i tower (Compute v))
compute-seen graph capacities i tower board v fast held sees allowed = record {
  allowed = ((allowed.0, ap (λ (c : List Bool). marked c v) sees.computed ∙ allowed.1, all-red i tower.levels board.red (predecessors_at graph v) (omega (arith, fast.0)) sees.red allowed.2, room), tt);
  sees = subst (λ (c : List Bool). Sees (vertices graph) i (record { levels = set tower.levels 0 (set (get_or tower.levels 0 []) v true); computed = set tower.computed v true }) (record { red = set board.red v true; blue = board.blue; computed = set c v true })) (sym sees.computed)
      (load-sees (vertices graph) capacities tower.levels held 0 v (omega arith) (omega (arith, allowed.0)) i tower.computed board sees (set tower.computed v true) (omega (arith, fast.0)));
} where
  room : mark_count board.red < capacity_up_to capacities i
  room = room-seen (vertices graph) i 0 capacities tower board held sees fast.1 (omega (arith, fast.0)) (allowed.3 (omega (arith, fast.0, fast.1)))

drop-seen : (graph : ComputationGraph) (capacities : List ℕ) (i : ℕ) (tower : TowerBoard) (board : Board) (j v : ℕ) → IsFastLevel capacities i
    → IsHeld (vertices graph) capacities tower.levels → Sees (vertices graph) i tower board → IsTowerAllowed graph capacities tower (Drop j v)
    → IsSeen graph (capacity_up_to capacities i) i (tower_board_after tower (Drop j v)) board (seen_move i tower (Drop j v))
drop-seen graph capacities i tower board j v fast held sees allowed = by-side (cases_Bool (leb j i)) where
  there : j - 1 ≤ length capacities
  there = omega (arith, allowed.1)

  below : v < vertices graph
  below = placed (vertices graph) capacities tower.levels (j - 1) v held there allowed.2

  up : j ≤ i → (b : Bool) → b ≡ stands_at_one (take i (set tower.levels (j - 1) (set (get_or tower.levels (j - 1) []) v false))) v
      → IsSeen graph (capacity_up_to capacities i) i (tower_board_after tower (Drop j v)) board (cond b [] (moves.Drop v ∷ []))
  up le true e = record {
    allowed = tt;
    sees = up-sees (vertices graph) capacities tower.levels held (j - 1) v there below i tower.computed board sees tower.computed false (omega (arith, le, allowed.0))
        (stands-first tower.levels i (j - 1) v (omega (arith, le, allowed.0)) allowed.2) (sym e);
  }
  up le false e = record {
    allowed = (sees.red v ∙ stands-first tower.levels i (j - 1) v (omega (arith, le, allowed.0)) allowed.2, tt);
    sees = drop-sees (vertices graph) capacities tower.levels held (j - 1) v there below i tower.computed board sees tower.computed (omega (arith, le, allowed.0)) (sym e);
  }

  behind : i < j → (b : Bool) → b ≡ stands_at_one (drop i (set tower.levels (j - 1) (set (get_or tower.levels (j - 1) []) v false))) v
      → IsSeen graph (capacity_up_to capacities i) i (tower_board_after tower (Drop j v)) board (cond b [] (moves.Erase v ∷ []))
  behind lt true e = record {
    allowed = tt;
    sees = behind-sees (vertices graph) capacities tower.levels held (j - 1) v there below i tower.computed board sees tower.computed false (omega (arith, lt))
        (stands-last tower.levels i (j - 1) v (omega (arith, lt)) allowed.2) (sym e);
  }
  behind lt false e = record {
    allowed = (sees.blue v ∙ stands-last tower.levels i (j - 1) v (omega (arith, lt)) allowed.2, tt);
    sees = erase-sees (vertices graph) capacities tower.levels held (j - 1) v there below i tower.computed board sees tower.computed (omega (arith, lt)) (sym e);
  }

  by-side : (leb j i ≡ true) ⊎ (leb j i ≡ false)
      → IsSeen graph (capacity_up_to capacities i) i (tower_board_after tower (Drop j v)) board (seen_move i tower (Drop j v))
  by-side (inl h) =
      subst (λ (b : Bool). IsSeen graph (capacity_up_to capacities i) i (tower_board_after tower (Drop j v)) board
      (cond b (cond (stands_at_one (take i (set tower.levels (j - 1) (set (get_or tower.levels (j - 1) []) v false))) v) [] (moves.Drop v ∷ [])) (cond (stands_at_one (drop i (set tower.levels (j - 1) (set (get_or tower.levels (j - 1) []) v false))) v) [] (moves.Erase v ∷ [])))) (sym h)
      (up (leb-true j i h) (stands_at_one (take i (set tower.levels (j - 1) (set (get_or tower.levels (j - 1) []) v false))) v) refl)
  by-side (inr h) =
      subst (λ (b : Bool). IsSeen graph (capacity_up_to capacities i) i (tower_board_after tower (Drop j v)) board
      (cond b (cond (stands_at_one (take i (set tower.levels (j - 1) (set (get_or tower.levels (j - 1) []) v false))) v) [] (moves.Drop v ∷ [])) (cond (stands_at_one (drop i (set tower.levels (j - 1) (set (get_or tower.levels (j - 1) []) v false))) v) [] (moves.Erase v ∷ [])))) (sym h)
      (behind (leb-false j i h) (stands_at_one (drop i (set tower.levels (j - 1) (set (get_or tower.levels (j - 1) []) v false))) v) refl)

move-seen : (graph : ComputationGraph) (capacities : List ℕ) (i : ℕ) (tower : TowerBoard) (board : Board) (move : TowerMove) → IsFastLevel capacities i
    → IsHeld (vertices graph) capacities tower.levels → Sees (vertices graph) i tower board → IsTowerAllowed graph capacities tower move
    → IsSeen graph (capacity_up_to capacities i) i (tower_board_after tower move) board (seen_move i tower move)
move-seen graph capacities i tower board (Bring j v) fast held sees allowed = bring-seen graph capacities i tower board j v fast held sees allowed
move-seen graph capacities i tower board (Send j v) fast held sees allowed = send-seen graph capacities i tower board j v fast held sees allowed
move-seen graph capacities i tower board (Compute v) fast held sees allowed = compute-seen graph capacities i tower board v fast held sees allowed
move-seen graph capacities i tower board (Drop j v) fast held sees allowed = drop-seen graph capacities i tower board j v fast held sees allowed

-- ---- all moves

moves-seen : (graph : ComputationGraph) (capacities : List ℕ) (i : ℕ) (tower : TowerBoard) (board : Board) (steps : List TowerMove) → IsFastLevel capacities i
    → IsHeld (vertices graph) capacities tower.levels → Sees (vertices graph) i tower board → AreTowerAllowed graph capacities tower steps
    → IsSeen graph (capacity_up_to capacities i) i (final_tower_board tower steps) board (seen_moves i tower steps)
moves-seen graph capacities i tower board [] fast held sees allowed = record { allowed = tt; sees = sees }
moves-seen graph capacities i tower board (move ∷ steps) fast held sees allowed =
    let one = move-seen graph capacities i tower board move fast held sees allowed.0 in
    let rest = moves-seen graph capacities i (tower_board_after tower move) (final_board board (seen_move i tower move)) steps fast (moved-held graph capacities tower move held (omega (arith, fast.0, fast.1)) allowed.0) one.sees allowed.1 in
    record {
      allowed = allowed-append graph (capacity_up_to capacities i) board (seen_move i tower move) (seen_moves i (tower_board_after tower move) steps) one.allowed rest.allowed;
      sees = subst (λ (b : Board). Sees (vertices graph) i (final_tower_board (tower_board_after tower move) steps) b)
          (sym (fold-append board_after board (seen_move i tower move) (seen_moves i (tower_board_after tower move) steps))) rest.sees;
    }

-- ---- the first board

-- the fast levels are empty, and the slow one is the only other
first-white : (k i n : ℕ) (slow : List Bool) (v : ℕ) → i ≤ k → stands_at_one (take i (replicate k (replicate n false) ++ slow ∷ [])) v ≡ false
first-white k zero n slow v le = refl
first-white zero (suc i) n slow v le = absurd (omega (arith, le))
first-white (suc k) (suc i) n slow v le =
    ap (λ b. b || stands_at_one (take i (replicate k (replicate n false) ++ slow ∷ [])) v) (unmarked-at n v) ∙ first-white k i n slow v (omega (arith, le))

or-false : (b : Bool) → (b || false) ≡ b
or-false true = refl
or-false false = refl

first-blue : (k i n : ℕ) (slow : List Bool) (v : ℕ) → i ≤ k → stands_at_one (drop i (replicate k (replicate n false) ++ slow ∷ [])) v ≡ marked slow v
first-blue zero zero n slow v le = or-false (marked slow v)
first-blue (suc k) zero n slow v le =
    ap (λ b. b || stands_at_one (replicate k (replicate n false) ++ slow ∷ []) v) (unmarked-at n v) ∙ first-blue k zero n slow v (omega arith)
first-blue zero (suc i) n slow v le = absurd (omega (arith, le))
first-blue (suc k) (suc i) n slow v le = first-blue k i n slow v (omega (arith, le))

first-sees : (graph : ComputationGraph) (capacities : List ℕ) (i : ℕ) → i ≤ length capacities
    → Sees (vertices graph) i (first_tower_board (length capacities) graph) (first_board graph)
first-sees graph capacities i le = record {
  red = λ u. unmarked-at (vertices graph) u ∙ sym (first-white (length capacities) i (vertices graph) (replicate graph.instances false ++ replicate graph.inputs true) u le);
  blue = λ u. sym (first-blue (length capacities) i (vertices graph) (replicate graph.instances false ++ replicate graph.inputs true) u le);
  computed = refl;
  reds = length-replicate (vertices graph) false;
  blues = length-append (replicate graph.instances false) (replicate graph.inputs true)
      ∙ ap (λ m. m + length (replicate graph.inputs true)) (length-replicate graph.instances false)
      ∙ ap (λ m. graph.instances + m) (length-replicate graph.inputs true);
}

from-first : (graph : ComputationGraph) (capacities : List ℕ) (steps : List TowerMove) (i : ℕ) → IsFastLevel capacities i
    → AreTowerAllowed graph capacities (first_tower_board (length capacities) graph) steps
    → IsSeen graph (capacity_up_to capacities i) i (tower_left graph capacities steps) (first_board graph) (seen_moves i (first_tower_board (length capacities) graph) steps)
from-first graph capacities steps i fast allowed =
    moves-seen graph capacities i (first_tower_board (length capacities) graph) (first_board graph) steps fast (first-held graph capacities) (first-sees graph capacities i fast.1) allowed

pub seen_are_allowed : SeenAreAllowed
seen_are_allowed graph capacities steps i fast allowed = (from-first graph capacities steps i fast allowed).allowed

pub seen_is_complete : SeenIsComplete
seen_is_complete graph capacities steps i fast complete =
    let seen = from-first graph capacities steps i fast complete.allowed in
    record {
      allowed = seen.allowed;
      computed = λ v below. ap (λ (c : List Bool). marked c v) seen.sees.computed ∙ complete.computed v below;
      stored = λ v below last. seen.sees.blue v ∙ stands-last (tower_left graph capacities steps).levels i (length capacities + 1 - 1) v (omega (arith, fast.1)) (complete.stored v below last);
    }
