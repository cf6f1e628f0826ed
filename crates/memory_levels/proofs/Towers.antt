-- A move over levels is allowed exactly where nothing refuses it, and a board keeps its places.
use Rattle.std.proofs.Common.{◌≡◌, refl, sym, ◌∙◌, ap, subst, inl, inr, ℕ, zero, suc, ◌+◌, ◌-◌, ◌<◌, ◌≤◌, Bool, true, false, cond, not, ◌&&◌, leb, List, [], ◌∷◌, ◌++◌, length, get_or, take, drop, set, replicate, find, Option, Some, None, IsTrue, arith}
use Rattle.std.specs.Prelude.{◌⊎◌}
use Rattle.std.specs.List.{AllByRecursion}
use Rattle.std.proofs.lemmas.Bool.{cases_eq, cases_lt, leb-false, leb-true, lt-leb, le-leb}
use Rattle.std.proofs.lemmas.List.{length-set, get_or-set_same, get_or-set_other, get_or_past, append-nil, length-replicate}
use Rattle.iolb_model.specs.Graph.{ComputationGraph}
use Rattle.iolb_model.specs.Game.{marked, mark_count, vertices, predecessors_at}
use Rattle.iolb_model.specs.Tower.{TowerBoard, HasRoom, IsTowerAllowed, level_at, with_word, tower_board_after, first_tower_board}
use Rattle.iolb_model.specs.declared.tower.TowerMove.{TowerMove}
use Rattle.iolb_model.specs.declared.tower.TowerMove.TheVariants.{Bring, Send, Compute, Drop}
use Rattle.memory_levels.specs.declared.illegal.TowerIllegal.{TowerIllegal}
use Rattle.memory_levels.specs.declared.illegal.TowerIllegal.TheVariants.{NotAbove, NotHere, Computed, Full, InputVertex, NoLevel, NoVertex}
use Rattle.memory_levels.specs.Towers.{IsTowerOf, has_level, is_fast, is_full, own_refusal, refusal_after, room_refusal, tower_refusal, vertex_of}
use Rattle.memory_levels.proofs.Held.{first-held, marked-within}

-- ---- places

pub word-fits : (graph : ComputationGraph) (board : TowerBoard) (level v : ℕ) (b : Bool) → IsTowerOf graph board → IsTowerOf graph (with_word board level v b)
word-fits graph board level v b fits = record {
  levels = λ j some within. at j some (omega (arith, within, length-set board.levels (level - 1) (set (get_or board.levels (level - 1) []) v b))) (cases_eq (j - 1) (level - 1));
  computed = fits.computed;
} where
  at : (j : ℕ) → 1 ≤ j → j ≤ length board.levels → (j - 1 ≡ level - 1) ⊎ (j - 1 ≡ level - 1 → ⊥)
      → length (get_or (set board.levels (level - 1) (set (get_or board.levels (level - 1) []) v b)) (j - 1) []) ≡ vertices graph
  at j some within (inl e) =
      ap length (ap (λ (k : ℕ). get_or (set board.levels (level - 1) (set (get_or board.levels (level - 1) []) v b)) k []) e
      ∙ get_or-set_same board.levels (level - 1) (set (get_or board.levels (level - 1) []) v b) [] (omega (arith, e, some, within)))
      ∙ length-set (get_or board.levels (level - 1) []) v b
      ∙ ap (λ (k : ℕ). length (get_or board.levels k [])) (sym e)
      ∙ fits.levels j some within
  at j some within (inr apart) =
      ap length (get_or-set_other board.levels (level - 1) (j - 1) (set (get_or board.levels (level - 1) []) v b) [] apart) ∙ fits.levels j some within

pub moved-fits : (graph : ComputationGraph) (board : TowerBoard) (move : TowerMove) → IsTowerOf graph board → IsTowerOf graph (tower_board_after board move)
moved-fits graph board (Bring i v) fits = word-fits graph board i v true fits
moved-fits graph board (Send i v) fits = word-fits graph board (i + 1) v true fits
moved-fits graph board (Compute v) fits =
    let put = word-fits graph board 1 v true fits in
    record { levels = put.levels; computed = length-set board.computed v true ∙ fits.computed }
moved-fits graph board (Drop i v) fits = word-fits graph board i v false fits

-- a word that stands at a level is a vertex
pub vertex-there : (graph : ComputationGraph) (board : TowerBoard) (level v : ℕ) → IsTowerOf graph board → 1 ≤ level
    → marked (level_at board level) v ≡ true → v < vertices graph
vertex-there graph board level v fits some h = by (cases_lt (length board.levels) level) where
  by : (length board.levels < level) ⊎ (level ≤ length board.levels) → v < vertices graph
  by (inr within) = omega (arith, marked-within (level_at board level) v h, fits.levels level some within)
  by (inl past) =
      let none : marked (level_at board level) v ≡ false = ap (λ (m : List Bool). marked m v) (get_or_past board.levels (level - 1) [] (omega (arith, past))) in
      absurd cc

-- ---- refusals

pub fast-level : (capacities : List ℕ) (i : ℕ) → is_fast capacities i ≡ true → (1 ≤ i) × (i ≤ length capacities)
fast-level capacities i h = by (leb 1 i) (leb i (length capacities)) refl refl h where
  by : (a b : Bool) → a ≡ leb 1 i → b ≡ leb i (length capacities) → (a && b) ≡ true → (1 ≤ i) × (i ≤ length capacities)
  by true true p q e = (leb-true 1 i (sym p), leb-true i (length capacities) (sym q))
  by true false p q e = absurd cc
  by false b p q e = absurd cc

level-fast : (capacities : List ℕ) (i : ℕ) → 1 ≤ i → i ≤ length capacities → is_fast capacities i ≡ true
level-fast capacities i some within = ap (λ (b : Bool). b && leb i (length capacities)) (le-leb 1 i some) ∙ le-leb i (length capacities) within

-- what there is no room for at a level is what a full one refuses
room-full : (capacities : List ℕ) (board : TowerBoard) (level : ℕ) → is_full capacities board level ≡ false → HasRoom capacities board level
room-full capacities board level h within = by (leb (get_or capacities (level - 1) 0) (mark_count (level_at board level))) refl (ap (λ (b : Bool). b && leb (get_or capacities (level - 1) 0) (mark_count (level_at board level))) (sym (le-leb level (length capacities) within)) ∙ h) where
  by : (b : Bool) → b ≡ leb (get_or capacities (level - 1) 0) (mark_count (level_at board level)) → b ≡ false → mark_count (level_at board level) < get_or capacities (level - 1) 0
  by true e f = absurd cc
  by false e f = leb-false (get_or capacities (level - 1) 0) (mark_count (level_at board level)) (sym e)

full-room : (capacities : List ℕ) (board : TowerBoard) (level : ℕ) → HasRoom capacities board level → is_full capacities board level ≡ false
full-room capacities board level room = by (leb level (length capacities)) refl where
  by : (b : Bool) → b ≡ leb level (length capacities) → (b && leb (get_or capacities (level - 1) 0) (mark_count (level_at board level))) ≡ false
  by false e = refl
  by true e = lt-leb (get_or capacities (level - 1) 0) (mark_count (level_at board level)) (room (leb-true level (length capacities) (sym e)))

room_none : (here full : Bool) → cond (not here && full) (Some Full) None ≡ None → (here ≡ true) ⊎ (full ≡ false)
room_none true full h = inl refl
room_none false true h = cc
room_none false false h = inr refl

none_room : (here full : Bool) → (here ≡ true) ⊎ (full ≡ false) → cond (not here && full) (Some Full) None ≡ None
none_room true full h = refl
none_room false full (inl h) = cc
none_room false true (inr h) = cc
none_room false false (inr h) = refl

-- a test, and then the rest
then_none : (e : TowerIllegal) (b : Bool) (rest : Option TowerIllegal) → cond b rest (Some e) ≡ None → (b ≡ true) × (rest ≡ None)
then_none e true rest h = (refl, h)
then_none e false rest h = cc

none_then : (e : TowerIllegal) (b : Bool) (rest : Option TowerIllegal) → b ≡ true → rest ≡ None → cond b rest (Some e) ≡ None
none_then e true rest h k = k
none_then e false rest h k = cc

else_none : (e : TowerIllegal) (b : Bool) (rest : Option TowerIllegal) → cond b (Some e) rest ≡ None → (b ≡ false) × (rest ≡ None)
else_none e true rest h = cc
else_none e false rest h = (refl, h)

none_else : (e : TowerIllegal) (b : Bool) (rest : Option TowerIllegal) → b ≡ false → rest ≡ None → cond b (Some e) rest ≡ None
none_else e true rest h k = cc
none_else e false rest h k = k

room-allowed : (capacities : List ℕ) (board : TowerBoard) (level v : ℕ) → room_refusal capacities board level v ≡ None
    → IsTrue (marked (level_at board level) v) ⊎ HasRoom capacities board level
room-allowed capacities board level v h = by (room_none (marked (level_at board level) v) (is_full capacities board level) h) where
  by : (marked (level_at board level) v ≡ true) ⊎ (is_full capacities board level ≡ false) → IsTrue (marked (level_at board level) v) ⊎ HasRoom capacities board level
  by (inl here) = inl here
  by (inr free) = inr (room-full capacities board level free)

allowed-room : (capacities : List ℕ) (board : TowerBoard) (level v : ℕ) → IsTrue (marked (level_at board level) v) ⊎ HasRoom capacities board level
    → room_refusal capacities board level v ≡ None
allowed-room capacities board level v (inl here) = none_room (marked (level_at board level) v) (is_full capacities board level) (inl here)
allowed-room capacities board level v (inr free) = none_room (marked (level_at board level) v) (is_full capacities board level) (inr (full-room capacities board level free))

-- nothing is found where each member has the mark
all_marked : (marks : List Bool) (us : List ℕ) → find (λ u. not (marked marks u)) us ≡ None → AllByRecursion (λ u. IsTrue (marked marks u)) us
all_marked marks [] h = tt
all_marked marks (u ∷ us) h = let parts = one (marked marks u) (find (λ w. not (marked marks w)) us) h in (parts.0, all_marked marks us parts.1) where
  one : (b : Bool) (rest : Option ℕ) → cond (not b) (Some u) rest ≡ None → (b ≡ true) × (rest ≡ None)
  one true rest h = (refl, h)
  one false rest h = cc

marked_all : (marks : List Bool) (us : List ℕ) → AllByRecursion (λ u. IsTrue (marked marks u)) us → find (λ u. not (marked marks u)) us ≡ None
marked_all marks [] h = refl
marked_all marks (u ∷ us) h = ap (λ b. cond (not b) (Some u) (find (λ w. not (marked marks w)) us)) h.0 ∙ marked_all marks us h.1

after_none : (capacities : List ℕ) (board : TowerBoard) (found : Option ℕ) → refusal_after capacities board found ≡ None → (found ≡ None) × HasRoom capacities board 1
after_none capacities board (Some u) h = cc
after_none capacities board None h = (refl, room-full capacities board 1 (else_none Full (is_full capacities board 1) None h).0)

none_after : (capacities : List ℕ) (board : TowerBoard) (found : Option ℕ) → found ≡ None → HasRoom capacities board 1 → refusal_after capacities board found ≡ None
none_after capacities board found e room =
    ap (refusal_after capacities board) e ∙ none_else Full (is_full capacities board 1) None (full-room capacities board 1 room) refl

own-allowed : (graph : ComputationGraph) (capacities : List ℕ) (board : TowerBoard) (move : TowerMove) → has_level capacities move ≡ true
    → own_refusal graph capacities board move ≡ None → IsTowerAllowed graph capacities board move
own-allowed graph capacities board (Bring i v) level h =
    let parts = then_none NotAbove (marked (level_at board (i + 1)) v) (room_refusal capacities board i v) h in
    let fast = fast-level capacities i level in
    ((fast.0, fast.1), parts.0, room-allowed capacities board i v parts.1)
own-allowed graph capacities board (Send i v) level h =
    let parts = then_none NotHere (marked (level_at board i) v) (room_refusal capacities board (i + 1) v) h in
    let fast = fast-level capacities i level in
    ((fast.0, fast.1), parts.0, room-allowed capacities board (i + 1) v parts.1)
own-allowed graph capacities board (Compute v) level h =
    let input = else_none InputVertex (leb graph.instances v) (cond (marked board.computed v) (Some Computed) (refusal_after capacities board (find (λ u. not (marked (level_at board 1) u)) (predecessors_at graph v)))) h in
    let done = else_none Computed (marked board.computed v) (refusal_after capacities board (find (λ u. not (marked (level_at board 1) u)) (predecessors_at graph v))) input.1 in
    let free = after_none capacities board (find (λ u. not (marked (level_at board 1) u)) (predecessors_at graph v)) done.1 in
    (leb-false graph.instances v input.0, done.0, all_marked (level_at board 1) (predecessors_at graph v) free.0, free.1)
own-allowed graph capacities board (Drop i v) level h =
    let parts = then_none NotHere (marked (level_at board i) v) None h in
    let ends = two (leb 1 i) (leb i (length capacities + 1)) level in
    (leb-true 1 i ends.0, leb-true i (length capacities + 1) ends.1, parts.0) where
      two : (a b : Bool) → (a && b) ≡ true → (a ≡ true) × (b ≡ true)
      two true true e = (refl, refl)
      two true false e = cc
      two false b e = cc

pub refusal-allowed : (graph : ComputationGraph) (capacities : List ℕ) (board : TowerBoard) (move : TowerMove)
    → tower_refusal graph capacities board move ≡ None → IsTowerAllowed graph capacities board move
refusal-allowed graph capacities board move h =
    let there = else_none NoVertex (leb (vertices graph) (vertex_of move)) (cond (has_level capacities move) (own_refusal graph capacities board move) (Some NoLevel)) h in
    let level = then_none NoLevel (has_level capacities move) (own_refusal graph capacities board move) there.1 in
    own-allowed graph capacities board move level.0 level.1

allowed-own : (graph : ComputationGraph) (capacities : List ℕ) (board : TowerBoard) (move : TowerMove) → IsTowerAllowed graph capacities board move
    → own_refusal graph capacities board move ≡ None
allowed-own graph capacities board (Bring i v) h =
    none_then NotAbove (marked (level_at board (i + 1)) v) (room_refusal capacities board i v) h.1 (allowed-room capacities board i v h.2)
allowed-own graph capacities board (Send i v) h =
    none_then NotHere (marked (level_at board i) v) (room_refusal capacities board (i + 1) v) h.1 (allowed-room capacities board (i + 1) v h.2)
allowed-own graph capacities board (Compute v) h =
    none_else InputVertex (leb graph.instances v) (cond (marked board.computed v) (Some Computed) (refusal_after capacities board (find (λ u. not (marked (level_at board 1) u)) (predecessors_at graph v)))) (lt-leb graph.instances v h.0)
    (none_else Computed (marked board.computed v) (refusal_after capacities board (find (λ u. not (marked (level_at board 1) u)) (predecessors_at graph v))) h.1
    (none_after capacities board (find (λ u. not (marked (level_at board 1) u)) (predecessors_at graph v)) (marked_all (level_at board 1) (predecessors_at graph v) h.2) h.3))
allowed-own graph capacities board (Drop i v) h = none_then NotHere (marked (level_at board i) v) None h.2 refl

allowed-level : (graph : ComputationGraph) (capacities : List ℕ) (board : TowerBoard) (move : TowerMove) → IsTowerAllowed graph capacities board move
    → has_level capacities move ≡ true
allowed-level graph capacities board (Bring i v) h = level-fast capacities i h.0.0 h.0.1
allowed-level graph capacities board (Send i v) h = level-fast capacities i h.0.0 h.0.1
allowed-level graph capacities board (Compute v) h = refl
allowed-level graph capacities board (Drop i v) h =
    ap (λ (b : Bool). b && leb i (length capacities + 1)) (le-leb 1 i h.0) ∙ le-leb i (length capacities + 1) h.1

allowed-vertex : (graph : ComputationGraph) (capacities : List ℕ) (board : TowerBoard) (move : TowerMove) → IsTowerOf graph board
    → IsTowerAllowed graph capacities board move → vertex_of move < vertices graph
allowed-vertex graph capacities board (Bring i v) fits h = vertex-there graph board (i + 1) v fits (omega arith) h.1
allowed-vertex graph capacities board (Send i v) fits h = vertex-there graph board i v fits h.0.0 h.1
allowed-vertex graph capacities board (Compute v) fits h = omega (arith, h.0)
allowed-vertex graph capacities board (Drop i v) fits h = vertex-there graph board i v fits h.0 h.2

pub allowed-refusal : (graph : ComputationGraph) (capacities : List ℕ) (board : TowerBoard) (move : TowerMove) → IsTowerOf graph board
    → IsTowerAllowed graph capacities board move → tower_refusal graph capacities board move ≡ None
allowed-refusal graph capacities board move fits h =
    none_else NoVertex (leb (vertices graph) (vertex_of move)) (cond (has_level capacities move) (own_refusal graph capacities board move) (Some NoLevel))
    (lt-leb (vertices graph) (vertex_of move) (allowed-vertex graph capacities board move fits h))
    (none_then NoLevel (has_level capacities move) (own_refusal graph capacities board move) (allowed-level graph capacities board move h) (allowed-own graph capacities board move h))

pub refusal-forbidden : (graph : ComputationGraph) (capacities : List ℕ) (board : TowerBoard) (move : TowerMove) (illegal : TowerIllegal) → IsTowerOf graph board
    → tower_refusal graph capacities board move ≡ Some illegal → ¬ IsTowerAllowed graph capacities board move
refusal-forbidden graph capacities board move illegal fits refused allowed = let e = allowed-refusal graph capacities board move fits allowed in cc

-- ---- the code's places

-- a level that a board has
pub place-at : (graph : ComputationGraph) (board : TowerBoard) (k : ℕ) (marks default : List Bool) → IsTowerOf graph board → k < length board.levels
    → marks ≡ get_or board.levels k default → length marks ≡ vertices graph
place-at graph board k marks default fits below e =
    ap length (e ∙ same board.levels k below) ∙ ap (λ (i : ℕ). length (get_or board.levels i [])) (back k) ∙ fits.levels (k + 1) (omega arith) (omega (arith, below)) where
      same : (levels : List (List Bool)) (i : ℕ) → i < length levels → get_or levels i default ≡ get_or levels i []
      same [] i h = absurd (omega (arith, h))
      same (l ∷ ls) zero h = refl
      same (l ∷ ls) (suc i) h = same ls i (omega (arith, h))

      back : (i : ℕ) → i ≡ i + 1 - 1
      back i = omega arith

-- one empty level more
more-empty : (n k : ℕ) → replicate k (replicate n false) ++ (replicate n false ++ []) ∷ [] ≡ replicate (k + 1) (replicate n false)
more-empty n zero = ap (λ (m : List Bool). m ∷ []) (append-nil (replicate n false))
more-empty n (suc k) = ap (λ (ls : List (List Bool)). replicate n false ∷ ls) (more-empty n k) ∙ ap (λ (m : ℕ). replicate m (replicate n false)) (one k) where
  one : (m : ℕ) → suc (m + 1) ≡ suc m + 1
  one m = omega arith

pub pushed-empty : (n m k : ℕ) (levels next : List (List Bool)) (marks : List Bool) → m ≡ n → levels ≡ replicate k (replicate n false) → marks ≡ replicate m false ++ []
    → next ≡ levels ++ marks ∷ [] → next ≡ replicate (k + 1) (replicate n false)
pushed-empty n m k levels next marks many so_far empty push =
    push ∙ ap (λ (ls : List (List Bool)). ls ++ marks ∷ []) so_far
    ∙ ap (λ (l : List Bool). replicate k (replicate n false) ++ l ∷ []) (empty ∙ ap (λ (i : ℕ). replicate i false ++ []) many)
    ∙ more-empty n k

-- the first board has places
pub first-fits : (graph : ComputationGraph) (fast : ℕ) → IsTowerOf graph (first_tower_board fast graph)
first-fits graph fast = record {
  levels = λ level some within. let held = first-held graph (replicate fast 0) in let len = length-replicate {A = ℕ} fast 0 in
      subst (λ (n : ℕ). length (get_or (first_tower_board n graph).levels (level - 1) []) ≡ vertices graph) (length-replicate {A = ℕ} fast 0)
      (held.long (level - 1) (omega (arith, len, some, within, many)));
  computed = length-replicate (vertices graph) false;
} where
  many : length (first_tower_board fast graph).levels ≡ fast + 1
  many = subst (λ (n : ℕ). length (first_tower_board n graph).levels ≡ n + 1) (length-replicate {A = ℕ} fast 0) (first-held graph (replicate fast 0)).many

pub made-fits : (graph : ComputationGraph) (fast : ℕ) (levels : List (List Bool)) (computed : List Bool) → levels ≡ (first_tower_board fast graph).levels
    → length computed ≡ vertices graph → IsTowerOf graph (record { levels = levels; computed = computed })
made-fits graph fast levels computed e long =
    let first = first-fits graph fast in
    subst (λ (ls : List (List Bool)). IsTowerOf graph (record { levels = ls; computed = computed })) (sym e) (record { levels = first.levels; computed = long })

-- a place for each predecessor
pub all-below : (m n : ℕ) (us : List ℕ) → m ≡ n → AllByRecursion (λ u. u < n) us → AllByRecursion (λ u. u < m) us
all-below m n us e h = subst (λ (k : ℕ). AllByRecursion (λ u. u < k) us) (sym e) h

-- each of the first levels has a place, and each of the others
pub first-places : (levels : List (List Bool)) (i v : ℕ) → ((k : ℕ) → k < length levels → v < length (get_or levels k [])) → AllByRecursion (λ marks. v < length marks) (take i levels)
first-places levels zero v h = tt
first-places [] (suc i) v h = tt
first-places (marks ∷ levels) (suc i) v h = (h 0 (omega arith), first-places levels i v (λ k below. h (suc k) (omega (arith, below))))

pub last-places : (levels : List (List Bool)) (i v : ℕ) → ((k : ℕ) → k < length levels → v < length (get_or levels k [])) → AllByRecursion (λ marks. v < length marks) (drop i levels)
last-places [] zero v h = tt
last-places (marks ∷ levels) zero v h = (h 0 (omega arith), last-places levels zero v (λ k below. h (suc k) (omega (arith, below))))
last-places [] (suc i) v h = tt
last-places (marks ∷ levels) (suc i) v h = last-places levels i v (λ k below. h (suc k) (omega (arith, below)))

-- by their places in the list, from 0
pub by-place : (levels : List (List Bool)) (v : ℕ) → ((level : ℕ) → 1 ≤ level → level ≤ length levels → v < length (get_or levels (level - 1) []))
    → (k : ℕ) → k < length levels → v < length (get_or levels k [])
by-place levels v h k below = subst (λ (i : ℕ). v < length (get_or levels i [])) (back k) (h (k + 1) (omega arith) (omega (arith, below))) where
  back : (i : ℕ) → i + 1 - 1 ≡ i
  back i = omega arith
