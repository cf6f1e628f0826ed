-- What holds of the levels of a memory while words move over them.
use Rattle.std.proofs.Common.{◌≡◌, refl, ◌∙◌, ap, inl, inr, ℕ, zero, suc, ◌+◌, ◌-◌, ◌<◌, ◌≤◌, Bool, true, false, cond, List, [], ◌∷◌, ◌++◌, map, length, get_or, take, set, sum, replicate, IsTrue, arith}
use Rattle.std.specs.Prelude.{◌⊎◌}
use Rattle.std.proofs.lemmas.Bool.{cases_eq}
use Rattle.std.proofs.lemmas.List.{length-set, get_or-set_same, get_or-set_other, length-replicate, length-append, get_or-replicate, get_or-append-add}
use Rattle.std.proofs.lemmas.List.Sums.{sum_by-set}
use Rattle.std.proofs.Math.ListN.{get_or-append}
use Rattle.iolb_model.specs.Graph.{ComputationGraph}
use Rattle.iolb_model.specs.Game.{marked, mark_count, vertices}
use Rattle.iolb_model.specs.Tower.{TowerBoard, HasRoom, IsTowerAllowed, level_at, tower_board_after, first_tower_board}
use Rattle.iolb_model.specs.declared.tower.TowerMove.{TowerMove}
use Rattle.iolb_model.specs.declared.tower.TowerMove.TheVariants.{Bring, Send, Compute, Drop}
use Rattle.pebble_game.proofs.Marks.{none-marked}
use Rattle.memory_levels.proofs.Unions.{sum-cons}

-- so many levels, each with a place for each vertex, and the fast ones with no more words than they hold
pub record IsHeld (n : ℕ) (capacities : List ℕ) (levels : List (List Bool)) : Type 0 where
  pub many : length levels ≡ length capacities + 1
  pub long : (k : ℕ) → k ≤ length capacities → length (get_or levels k []) ≡ n
  pub kept : (k : ℕ) → k < length capacities → mark_count (get_or levels k []) ≤ get_or capacities k 0

pub marked-within : (marks : List Bool) (v : ℕ) → marked marks v ≡ true → v < length marks
marked-within [] v h = absurd cc
marked-within (m ∷ marks) zero h = omega arith
marked-within (m ∷ marks) (suc v) h = omega (arith, marked-within marks v h)

-- how many marks there are after one was put or taken off
count-after : (marks : List Bool) (v : ℕ) (b : Bool) → v < length marks
    → mark_count (set marks v b) + cond (marked marks v) 1 0 ≡ mark_count marks + cond b 1 0
count-after marks v b below = sum_by-set (λ (mark : Bool). cond mark 1 0) marks v b false below

-- put where there was room
pub count-put-room : (marks : List Bool) (v c : ℕ) → v < length marks → mark_count marks < c → mark_count (set marks v true) ≤ c
count-put-room marks v c below room = omega (arith, count-after marks v true below)

-- put where it was
pub count-put-again : (marks : List Bool) (v c : ℕ) → marked marks v ≡ true → mark_count marks ≤ c → mark_count (set marks v true) ≤ c
count-put-again marks v c h kept =
    omega (arith, count-after marks v true (marked-within marks v h), ap {B = ℕ} (λ (b : Bool). cond b 1 0) h)

-- taken off
pub count-drop : (marks : List Bool) (v c : ℕ) → marked marks v ≡ true → mark_count marks ≤ c → mark_count (set marks v false) ≤ c
count-drop marks v c h kept = omega (arith, count-after marks v false (marked-within marks v h))

-- a word more or less at a level that keeps what it holds
pub changed-held : (n : ℕ) (capacities : List ℕ) (levels : List (List Bool)) (k v : ℕ) (b : Bool) → IsHeld n capacities levels → k ≤ length capacities
    → (k < length capacities → mark_count (set (get_or levels k []) v b) ≤ get_or capacities k 0)
    → IsHeld n capacities (set levels k (set (get_or levels k []) v b))
changed-held n capacities levels k v b held there room = record {
  many = length-set levels k (set (get_or levels k []) v b) ∙ held.many;
  long = λ j below. long j below (cases_eq j k);
  kept = λ j below. kept j below (cases_eq j k);
} where
  here : get_or (set levels k (set (get_or levels k []) v b)) k [] ≡ set (get_or levels k []) v b
  here = get_or-set_same levels k (set (get_or levels k []) v b) [] (omega (arith, held.many))

  there-too : (j : ℕ) → j ≡ k → get_or (set levels k (set (get_or levels k []) v b)) j [] ≡ set (get_or levels k []) v b
  there-too j e = ap (λ (i : ℕ). get_or (set levels k (set (get_or levels k []) v b)) i []) e ∙ here

  long : (j : ℕ) → j ≤ length capacities → (j ≡ k) ⊎ (j ≡ k → ⊥) → length (get_or (set levels k (set (get_or levels k []) v b)) j []) ≡ n
  long j below (inl e) = ap length (there-too j e) ∙ length-set (get_or levels k []) v b ∙ held.long k there
  long j below (inr apart) = ap length (get_or-set_other levels k j (set (get_or levels k []) v b) [] apart) ∙ held.long j below

  kept : (j : ℕ) → j < length capacities → (j ≡ k) ⊎ (j ≡ k → ⊥) → mark_count (get_or (set levels k (set (get_or levels k []) v b)) j []) ≤ get_or capacities j 0
  kept j below (inl e) =
      let fits = room (omega (arith, e, below)) in
      omega (arith, ap mark_count (there-too j e), ap (λ (i : ℕ). get_or capacities i 0) e, fits)
  kept j below (inr apart) =
      omega (arith, ap mark_count (get_or-set_other levels k j (set (get_or levels k []) v b) [] apart), held.kept j below)

-- where a word is, there is a place for it
pub placed : (n : ℕ) (capacities : List ℕ) (levels : List (List Bool)) (k v : ℕ) → IsHeld n capacities levels → k ≤ length capacities
    → marked (get_or levels k []) v ≡ true → v < n
placed n capacities levels k v held there h = omega (arith, marked-within (get_or levels k []) v h, held.long k there)

-- a word comes to a level where it is or that has room
pub put-held : (n : ℕ) (capacities : List ℕ) (levels : List (List Bool)) (k v : ℕ) → IsHeld n capacities levels → k ≤ length capacities → v < n
    → (marked (get_or levels k []) v ≡ true) ⊎ (k < length capacities → mark_count (get_or levels k []) < get_or capacities k 0)
    → IsHeld n capacities (set levels k (set (get_or levels k []) v true))
put-held n capacities levels k v held there below (inl h) =
    changed-held n capacities levels k v true held there (λ fast. count-put-again (get_or levels k []) v (get_or capacities k 0) h (held.kept k fast))
put-held n capacities levels k v held there below (inr room) =
    changed-held n capacities levels k v true held there (λ fast. count-put-room (get_or levels k []) v (get_or capacities k 0) (omega (arith, held.long k there)) (room fast))

pub drop-held : (n : ℕ) (capacities : List ℕ) (levels : List (List Bool)) (k v : ℕ) → IsHeld n capacities levels → k ≤ length capacities
    → marked (get_or levels k []) v ≡ true → IsHeld n capacities (set levels k (set (get_or levels k []) v false))
drop-held n capacities levels k v held there h =
    changed-held n capacities levels k v false held there (λ fast. count-drop (get_or levels k []) v (get_or capacities k 0) h (held.kept k fast))

-- each move that is allowed keeps it
pub moved-held : (graph : ComputationGraph) (capacities : List ℕ) (board : TowerBoard) (move : TowerMove) → IsHeld (vertices graph) capacities board.levels
    → 1 ≤ length capacities → IsTowerAllowed graph capacities board move → IsHeld (vertices graph) capacities (tower_board_after board move).levels
moved-held graph capacities board (Bring i v) held some allowed =
    put-held (vertices graph) capacities board.levels (i - 1) v held (omega (arith, allowed.0.1)) (placed (vertices graph) capacities board.levels (i + 1 - 1) v held (omega (arith, allowed.0.1)) allowed.1) (room allowed.2) where
      room : IsTrue (marked (level_at board i) v) ⊎ HasRoom capacities board i
          → (marked (get_or board.levels (i - 1) []) v ≡ true) ⊎ (i - 1 < length capacities → mark_count (get_or board.levels (i - 1) []) < get_or capacities (i - 1) 0)
      room (inl h) = inl h
      room (inr free) = inr (λ below. free (omega (arith, below)))
moved-held graph capacities board (Send i v) held some allowed =
    put-held (vertices graph) capacities board.levels (i + 1 - 1) v held (omega (arith, allowed.0.1)) (placed (vertices graph) capacities board.levels (i - 1) v held (omega (arith, allowed.0.1)) allowed.1) (room allowed.2) where
      room : IsTrue (marked (level_at board (i + 1)) v) ⊎ HasRoom capacities board (i + 1)
          → (marked (get_or board.levels (i + 1 - 1) []) v ≡ true) ⊎ (i + 1 - 1 < length capacities → mark_count (get_or board.levels (i + 1 - 1) []) < get_or capacities (i + 1 - 1) 0)
      room (inl h) = inl h
      room (inr free) = inr (λ below. free (omega (arith, below)))
moved-held graph capacities board (Compute v) held some allowed =
    put-held (vertices graph) capacities board.levels 0 v held (omega arith) (omega (arith, allowed.0)) (inr (λ below. allowed.3 some))
moved-held graph capacities board (Drop i v) held some allowed =
    drop-held (vertices graph) capacities board.levels (i - 1) v held (omega (arith, allowed.1)) allowed.2

-- ---- how many words the levels up to a boundary have together

-- at most what these hold, and fewer where one of them has room
pub counts-within : (levels : List (List Bool)) (capacities : List ℕ) (i : ℕ) → i ≤ length capacities
    → ((k : ℕ) → k < length capacities → mark_count (get_or levels k []) ≤ get_or capacities k 0)
    → sum (map mark_count (take i levels)) ≤ sum (take i capacities)
counts-within levels capacities zero within kept = omega arith
counts-within [] capacities (suc i) within kept = omega arith
counts-within (marks ∷ levels) [] (suc i) within kept = absurd (omega (arith, within))
counts-within (marks ∷ levels) (c ∷ capacities) (suc i) within kept =
    omega (
      arith,
      sum-cons (mark_count marks) (map mark_count (take i levels)),
      sum-cons c (take i capacities),
      kept 0 (omega arith),
      counts-within levels capacities i (omega (arith, within)) (λ k below. kept (suc k) (omega (arith, below))),
    )

pub counts-below : (levels : List (List Bool)) (capacities : List ℕ) (i k : ℕ) → i ≤ length capacities → k < i
    → ((j : ℕ) → j < length capacities → mark_count (get_or levels j []) ≤ get_or capacities j 0)
    → mark_count (get_or levels k []) < get_or capacities k 0 → sum (map mark_count (take i levels)) < sum (take i capacities)
counts-below levels capacities zero k within below kept room = absurd (omega (arith, below))
counts-below levels [] (suc i) k within below kept room = absurd (omega (arith, within))
counts-below [] (c ∷ capacities) (suc i) zero within below kept room = omega (arith, sum-cons c (take i capacities), room)
counts-below [] (c ∷ capacities) (suc i) (suc k) within below kept room =
    omega (arith, sum-cons c (take i capacities), counts-below [] capacities i k (omega (arith, within)) (omega (arith, below)) (λ j b. kept (suc j) (omega (arith, b))) room)
counts-below (marks ∷ levels) (c ∷ capacities) (suc i) zero within below kept room =
    omega (
      arith,
      sum-cons (mark_count marks) (map mark_count (take i levels)),
      sum-cons c (take i capacities),
      room,
      counts-within levels capacities i (omega (arith, within)) (λ j b. kept (suc j) (omega (arith, b))),
    )
counts-below (marks ∷ levels) (c ∷ capacities) (suc i) (suc k) within below kept room =
    omega (
      arith,
      sum-cons (mark_count marks) (map mark_count (take i levels)),
      sum-cons c (take i capacities),
      kept 0 (omega arith),
      counts-below levels capacities i k (omega (arith, within)) (omega (arith, below)) (λ j b. kept (suc j) (omega (arith, b))) room,
    )

-- ---- the first board

pub first-held : (graph : ComputationGraph) (capacities : List ℕ) → IsHeld (vertices graph) capacities (first_tower_board (length capacities) graph).levels
first-held graph capacities = record { many = many; long = λ k below. long k (below_or k below); kept = kept } where
  many : length (replicate (length capacities) (replicate (vertices graph) false) ++ (replicate graph.instances false ++ replicate graph.inputs true) ∷ []) ≡ length capacities + 1
  many = length-append (replicate (length capacities) (replicate (vertices graph) false)) ((replicate graph.instances false ++ replicate graph.inputs true) ∷ [])
      ∙ ap (λ m. m + 1) (length-replicate (length capacities) (replicate (vertices graph) false))

  below_or : (k : ℕ) → k ≤ length capacities → (k < length capacities) ⊎ (k ≡ length capacities)
  below_or k below = by (cases_eq k (length capacities)) where
    by : (k ≡ length capacities) ⊎ (k ≡ length capacities → ⊥) → (k < length capacities) ⊎ (k ≡ length capacities)
    by (inl e) = inr e
    by (inr apart) = inl (omega (arith, below, apart))

  fast : (k : ℕ) → k < length capacities
      → get_or (replicate (length capacities) (replicate (vertices graph) false) ++ (replicate graph.instances false ++ replicate graph.inputs true) ∷ []) k [] ≡ replicate (vertices graph) false
  fast k below =
      get_or-append (replicate (length capacities) (replicate (vertices graph) false)) ((replicate graph.instances false ++ replicate graph.inputs true) ∷ []) [] k
      (omega (arith, below, length-replicate (length capacities) (replicate (vertices graph) false)))
      ∙ get_or-replicate (length capacities) k (replicate (vertices graph) false) [] below

  last : (k : ℕ) → k ≡ length capacities
      → get_or (replicate (length capacities) (replicate (vertices graph) false) ++ (replicate graph.instances false ++ replicate graph.inputs true) ∷ []) k [] ≡ replicate graph.instances false ++ replicate graph.inputs true
  last k e =
      ap (λ (j : ℕ). get_or (replicate (length capacities) (replicate (vertices graph) false) ++ (replicate graph.instances false ++ replicate graph.inputs true) ∷ []) j [])
      (let len : length (replicate (length capacities) (replicate (vertices graph) false)) ≡ length capacities = length-replicate (length capacities) (replicate (vertices graph) false) in
      let sum : k ≡ length (replicate (length capacities) (replicate (vertices graph) false)) + 0 = omega (arith, e, len) in sum)
      ∙ get_or-append-add (replicate (length capacities) (replicate (vertices graph) false)) ((replicate graph.instances false ++ replicate graph.inputs true) ∷ []) 0 []

  long : (k : ℕ) → (k < length capacities) ⊎ (k ≡ length capacities)
      → length (get_or (replicate (length capacities) (replicate (vertices graph) false) ++ (replicate graph.instances false ++ replicate graph.inputs true) ∷ []) k []) ≡ vertices graph
  long k (inl below) = ap length (fast k below) ∙ length-replicate (vertices graph) false
  long k (inr e) =
      ap length (last k e) ∙ length-append (replicate graph.instances false) (replicate graph.inputs true)
      ∙ ap (λ m. m + length (replicate graph.inputs true)) (length-replicate graph.instances false)
      ∙ ap (λ m. graph.instances + m) (length-replicate graph.inputs true)

  kept : (k : ℕ) → k < length capacities
      → mark_count (get_or (replicate (length capacities) (replicate (vertices graph) false) ++ (replicate graph.instances false ++ replicate graph.inputs true) ∷ []) k []) ≤ get_or capacities k 0
  kept k below = omega (arith, ap mark_count (fast k below), none-marked (vertices graph))
