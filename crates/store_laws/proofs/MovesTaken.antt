-- What is known of loads is known of moves of any kind: as loads of the vertices that they take.
use Rattle.std.proofs.Common.{◌≡◌, refl, sym, ◌∙◌, ap, subst, ℕ, suc, ◌+◌, ◌≤◌, Bool, true, false, cond, List, [], ◌∷◌, length, map, sum_by, arith}
use Rattle.std.specs.Prelude.{filter, ◌&&◌, count_by}
use Rattle.std.specs.List.{AllByRecursion}
use Rattle.std.proofs.lemmas.List.Sums.{sum_by-cons}
use Rattle.iolb_model.specs.declared.game.Move.{Move}
use Rattle.iolb_model.specs.declared.game.Move.TheVariants.{Load, Store, Compute, Drop, Erase}
use Rattle.iolb_model.specs.Game.{is_load, loads, loads_of, loads_one_of, stands_in}
use Rattle.pebble_game.specs.Boards.{moved}
use Rattle.pebble_game.specs.Loaded.{loaded}
use Rattle.pebble_game.proofs.Disjoint.{disjoint_loads}
use Rattle.pebble_game.proofs.Loaded.{different_are_loads}
use Rattle.store_laws.specs.Kinds.{DifferentAreTaken, DisjointAddUp, LoadsAreAKind, taken, taken_among, taken_of}

-- loads of these vertices
abbrev as_loads : List ℕ → List Move
as_loads xs = map (λ (v : ℕ). Load v) xs

loaded-again : (xs : List ℕ) → loaded (as_loads xs) ≡ xs
loaded-again [] = refl
loaded-again (x ∷ xs) = ap (λ (ys : List ℕ). x ∷ ys) (loaded-again xs)

module _ (kind : Move → Bool) where
  -- as many moves of the kind take vertices of a set as there are such loads of them
  taken_of-loads : (set : List ℕ) (moves : List Move) → taken_of kind set moves ≡ loads_of set (as_loads (taken kind moves))
  taken_of-loads set [] = refl
  taken_of-loads set (move ∷ moves) =
      sum_by-cons (λ (m : Move). cond (kind m && stands_in set (moved m)) 1 0) move moves ∙ by (kind move) (taken_of-loads set moves) where
        by : (k : Bool) → taken_of kind set moves ≡ loads_of set (as_loads (taken kind moves))
            → cond (k && stands_in set (moved move)) 1 0 + taken_of kind set moves ≡ loads_of set (as_loads (map moved (cond k (move ∷ filter kind moves) (filter kind moves))))
        by true e = omega (arith, e, sum_by-cons (λ (m : Move). cond (loads_one_of set m) 1 0) (Load (moved move)) (as_loads (taken kind moves)))
        by false e = omega (arith, e)

  all-loads : (moves : List Move) → count_by kind moves ≡ loads (as_loads (taken kind moves))
  all-loads [] = refl
  all-loads (move ∷ moves) = sum_by-cons (λ (m : Move). cond (kind m) 1 0) move moves ∙ by (kind move) (all-loads moves) where
    by : (k : Bool) → count_by kind moves ≡ loads (as_loads (taken kind moves))
        → cond k 1 0 + count_by kind moves ≡ loads (as_loads (map moved (cond k (move ∷ filter kind moves) (filter kind moves))))
    by true e = omega (arith, e, sum_by-cons (λ (m : Move). cond (is_load m) 1 0) (Load (moved move)) (as_loads (taken kind moves)))
    by false e = omega (arith, e)

pub different_are_taken : DifferentAreTaken
different_are_taken kind moves set distinct =
    subst (λ (n : ℕ). length (taken_among kind set moves) ≤ n) (sym (taken_of-loads kind set moves))
    (subst (λ (xs : List ℕ). length (filter (λ (v : ℕ). stands_in xs v) set) ≤ loads_of set (as_loads (taken kind moves))) (loaded-again (taken kind moves))
    (different_are_loads (as_loads (taken kind moves)) set distinct))

same-sums : (kind : Move → Bool) (moves : List Move) (sets : List (List ℕ))
    → sum_by (λ (set : List ℕ). taken_of kind set moves) sets ≡ sum_by (λ (set : List ℕ). loads_of set (as_loads (taken kind moves))) sets
same-sums kind moves [] = refl
same-sums kind moves (set ∷ sets) =
    omega (
      arith,
      sum_by-cons (λ (one : List ℕ). taken_of kind one moves) set sets,
      sum_by-cons (λ (one : List ℕ). loads_of one (as_loads (taken kind moves))) set sets,
      taken_of-loads kind set moves,
      same-sums kind moves sets,
    )

pub disjoint_add_up : DisjointAddUp
disjoint_add_up kind moves sets apart =
    omega (arith, same-sums kind moves sets, disjoint_loads (as_loads (taken kind moves)) sets apart, all-loads kind moves)

pub loads_are_a_kind : LoadsAreAKind
loads_are_a_kind [] set = refl
loads_are_a_kind (move ∷ moves) set =
    sum_by-cons (λ (m : Move). cond (loads_one_of set m) 1 0) move moves
    ∙ ap (λ (n : ℕ). cond (loads_one_of set move) 1 0 + n) (loads_are_a_kind moves set)
    ∙ ap (λ (b : Bool). cond b 1 0 + taken_of is_load set moves) (here move)
    ∙ sym (sum_by-cons (λ (m : Move). cond (is_load m && stands_in set (moved m)) 1 0) move moves) where
      here : (m : Move) → loads_one_of set m ≡ (is_load m && stands_in set (moved m))
      here (Load v) = refl
      here (Store v) = refl
      here (Compute v) = refl
      here (Drop v) = refl
      here (Erase v) = refl

-- ---- of vertices that pass a test at least as many pass one that follows from it

pub more-pass : (first second : ℕ → Bool) (xs : List ℕ) → AllByRecursion (λ (v : ℕ). first v ≡ true → second v ≡ true) xs → length (filter first xs) ≤ length (filter second xs)
more-pass first second [] h = omega arith
more-pass first second (x ∷ xs) h = by (first x) (second x) h.0 (more-pass first second xs h.1) where
  by : (a b : Bool) → (a ≡ true → b ≡ true) → length (filter first xs) ≤ length (filter second xs)
      → length (cond a (x ∷ filter first xs) (filter first xs)) ≤ length (cond b (x ∷ filter second xs) (filter second xs))
  by true true g le = omega (arith, le)
  by true false g le = absurd (let e : false ≡ true = g refl in cc)
  by false true g le = omega (arith, le)
  by false false g le = le

pub all-pass : (test : ℕ → Bool) (xs : List ℕ) → AllByRecursion (λ (v : ℕ). test v ≡ true) xs → length xs ≤ length (filter test xs)
all-pass test [] h = omega arith
all-pass test (x ∷ xs) h = subst (λ (b : Bool). suc (length xs) ≤ length (cond b (x ∷ filter test xs) (filter test xs))) (sym h.0) (more (all-pass test xs h.1)) where
  more : length xs ≤ length (filter test xs) → suc (length xs) ≤ suc (length (filter test xs))
  more le = omega (arith, le)
