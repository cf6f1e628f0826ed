-- What a boundary loads and stores, and what that says of the levels.
use Rattle.std.proofs.Common.{◌≡◌, refl, ℕ, zero, suc, ◌-◌, ◌≤◌, Bool, true, false, cond, List, [], ◌∷◌, length, take, drop, arith}
use Rattle.std.specs.Prelude.{nat_eq, nat_le}
use Rattle.std.specs.List.{AllByRecursion}
use Rattle.std.proofs.lemmas.List.Sums.{sum_by-append, sum_by-cons}
use Rattle.iolb_model.specs.Graph.{computation_graph}
use Rattle.iolb_model.specs.Game.{is_load, is_store, loads, stores}
use Rattle.iolb_model.specs.Tower.{TowerBoard, IsFastLevel, with_word, tower_board_after, first_tower_board, capacity_up_to, is_bring, is_send, stands_at_one, seen_move, seen_moves}
use Rattle.iolb_model.specs.declared.game.Move.{Move}
use Rattle.iolb_model.specs.declared.game.Move.TheVariants as moves
use Rattle.iolb_model.specs.declared.tower.TowerMove.{TowerMove}
use Rattle.iolb_model.specs.declared.tower.TowerMove.TheVariants.{Bring, Send, Compute, Drop}
use Rattle.memory_levels.specs.Seen.{BoundsHoldAtLevels, SeenLoads, SeenStores}
use Rattle.memory_levels.proofs.Sight.{seen_is_complete}

-- ---- loads and stores

one-load : (i : ℕ) (tower : TowerBoard) (move : TowerMove) → loads (seen_move i tower move) ≡ cond (is_bring i move) 1 0
one-load i tower (Bring j v) = by (nat_eq j i) where
  by : (b : Bool) → loads (cond b (moves.Load v ∷ []) []) ≡ cond b 1 0
  by true = refl
  by false = refl
one-load i tower (Send j v) = by (nat_eq j i) where
  by : (b : Bool) → loads (cond b (moves.Store v ∷ []) []) ≡ 0
  by true = refl
  by false = refl
one-load i tower (Compute v) = refl
one-load i tower (Drop j v) = by (nat_le j i) (stands_at_one (take i (with_word tower j v false).levels) v) (stands_at_one (drop i (with_word tower j v false).levels) v) where
  by : (b up behind : Bool) → loads (cond b (cond up [] (moves.Drop v ∷ [])) (cond behind [] (moves.Erase v ∷ []))) ≡ 0
  by true true behind = refl
  by true false behind = refl
  by false up true = refl
  by false up false = refl

one-store : (i : ℕ) (tower : TowerBoard) (move : TowerMove) → stores (seen_move i tower move) ≡ cond (is_send i move) 1 0
one-store i tower (Bring j v) = by (nat_eq j i) where
  by : (b : Bool) → stores (cond b (moves.Load v ∷ []) []) ≡ 0
  by true = refl
  by false = refl
one-store i tower (Send j v) = by (nat_eq j i) where
  by : (b : Bool) → stores (cond b (moves.Store v ∷ []) []) ≡ cond b 1 0
  by true = refl
  by false = refl
one-store i tower (Compute v) = refl
one-store i tower (Drop j v) = by (nat_le j i) (stands_at_one (take i (with_word tower j v false).levels) v) (stands_at_one (drop i (with_word tower j v false).levels) v) where
  by : (b up behind : Bool) → stores (cond b (cond up [] (moves.Drop v ∷ [])) (cond behind [] (moves.Erase v ∷ []))) ≡ 0
  by true true behind = refl
  by true false behind = refl
  by false up true = refl
  by false up false = refl

pub seen_loads : SeenLoads
seen_loads i tower [] = refl
seen_loads i tower (move ∷ steps) =
    let all = sum_by-append (λ (m : Move). cond (is_load m) 1 0) (seen_move i tower move) (seen_moves i (tower_board_after tower move) steps) in
    let first = one-load i tower move in
    let rest = seen_loads i (tower_board_after tower move) steps in
    let counted = sum_by-cons (λ (m : TowerMove). cond (is_bring i m) 1 0) move steps in
    omega (arith, all, first, rest, counted)

pub seen_stores : SeenStores
seen_stores i tower [] = refl
seen_stores i tower (move ∷ steps) =
    let all = sum_by-append (λ (m : Move). cond (is_store m) 1 0) (seen_move i tower move) (seen_moves i (tower_board_after tower move) steps) in
    let first = one-store i tower move in
    let rest = seen_stores i (tower_board_after tower move) steps in
    let counted = sum_by-cons (λ (m : TowerMove). cond (is_send i m) 1 0) move steps in
    omega (arith, all, first, rest, counted)

-- ---- bounds

-- levels up to a fast one hold something
some-held : (capacities : List ℕ) (i : ℕ) → IsFastLevel capacities i → AllByRecursion (λ c. 1 ≤ c) capacities → 1 ≤ capacity_up_to capacities i
some-held [] i fast each = absurd (omega (arith, fast.0, fast.1))
some-held (c ∷ capacities) zero fast each = absurd (omega (arith, fast.0))
some-held (c ∷ capacities) (suc i) fast each = omega (arith, each.0, sum_by-cons (λ (n : ℕ). n) c (take i capacities))

pub bounds_hold_at_levels : BoundsHoldAtLevels
bounds_hold_at_levels program bound holds values capacities steps admitted each complete i fast =
    omega (
      arith,
      seen_loads i (first_tower_board (length capacities) (computation_graph program values)) steps,
      holds values (capacity_up_to capacities i) (seen_moves i (first_tower_board (length capacities) (computation_graph program values)) steps) admitted (some-held capacities i fast each)
          (seen_is_complete (computation_graph program values) capacities steps i fast complete),
    )
