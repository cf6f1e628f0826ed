-- The loads of disjoint sets of vertices add up to at most all loads.
use Rattle.std.proofs.Common.{◌≡◌, refl, ◌∙◌, ℕ, ◌+◌, ◌≤◌, Bool, true, false, cond, List, [], ◌∷◌, sum_by, arith}
use Rattle.std.specs.List.{AllByRecursion}
use Rattle.std.proofs.lemmas.List.Sums.{sum_by-cons}
use Rattle.iolb_model.specs.declared.game.Move.{Move}
use Rattle.iolb_model.specs.declared.game.Move.TheVariants.{Load, Store, Compute, Drop, Erase}
use Rattle.iolb_model.specs.Game.{is_load, stands_in, loads_one_of, loads_of}
use Rattle.iolb_model.specs.Footprint.{AreDisjoint, ArePairwiseDisjoint}
use Rattle.pebble_game.specs.Sets.{DisjointLoadsAddUp}

-- a vertex of a set stands in none that is disjoint from it
nowhere_else : (v : ℕ) (set : List ℕ) (sets : List (List ℕ)) → stands_in set v ≡ true → AllByRecursion (AreDisjoint set) sets
    → sum_by (λ other. cond (stands_in other v) 1 0) sets ≡ 0
nowhere_else v set [] here apart = refl
nowhere_else v set (other ∷ sets) here apart =
    sum_by-cons (λ (one : List ℕ). cond (stands_in one v) 1 0) other sets
    ∙ zero_and (stands_in other v) (sum_by (λ one. cond (stands_in one v) 1 0) sets) (apart.0 v here) (nowhere_else v set sets here apart.1) where
      zero_and : (b : Bool) (n : ℕ) → (b ≡ true → ⊥) → n ≡ 0 → cond b 1 0 + n ≡ 0
      zero_and true n not e = absurd (not refl)
      zero_and false n not e = omega (arith, e)

-- so it stands in at most one of pairwise disjoint sets
at_most_one : (v : ℕ) (sets : List (List ℕ)) → ArePairwiseDisjoint sets → sum_by (λ set. cond (stands_in set v) 1 0) sets ≤ 1
at_most_one v [] apart = omega arith
at_most_one v (set ∷ sets) apart =
    one_or (stands_in set v) (sum_by (λ one. cond (stands_in one v) 1 0) sets) (sum_by (λ one. cond (stands_in one v) 1 0) (set ∷ sets))
    (sum_by-cons (λ (one : List ℕ). cond (stands_in one v) 1 0) set sets) (λ here. nowhere_else v set sets here apart.0) (at_most_one v sets apart.1) where
      one_or : (b : Bool) (n all : ℕ) → all ≡ cond b 1 0 + n → (b ≡ true → n ≡ 0) → n ≤ 1 → all ≤ 1
      one_or true n all e none few = omega (arith, e, none refl)
      one_or false n all e none few = omega (arith, e, few)

-- a load more, set by set
one_load_more : (v : ℕ) (moves : List Move) (sets : List (List ℕ))
    → sum_by (λ set. loads_of set (Load v ∷ moves)) sets ≡ sum_by (λ set. cond (stands_in set v) 1 0) sets + sum_by (λ set. loads_of set moves) sets
one_load_more v moves [] = refl
one_load_more v moves (set ∷ sets) =
    let all = sum_by-cons (λ (one : List ℕ). loads_of one (Load v ∷ moves)) set sets in
    let this = sum_by-cons (λ (move : Move). cond (loads_one_of set move) 1 0) (Load v) moves in
    let here = sum_by-cons (λ (one : List ℕ). cond (stands_in one v) 1 0) set sets in
    let others = sum_by-cons (λ (one : List ℕ). loads_of one moves) set sets in
    omega (arith, all, this, here, others, one_load_more v moves sets)

pub disjoint_loads : DisjointLoadsAddUp
disjoint_loads [] sets apart = nothing sets where
  nothing : (rest : List (List ℕ)) → sum_by (λ set. loads_of set []) rest ≤ 0
  nothing [] = omega arith
  nothing (set ∷ rest) = omega (arith, sum_by-cons (λ (one : List ℕ). loads_of one []) set rest, nothing rest)
disjoint_loads (Load v ∷ moves) sets apart =
    omega (arith, one_load_more v moves sets, at_most_one v sets apart, disjoint_loads moves sets apart, sum_by-cons (λ (move : Move). cond (is_load move) 1 0) (Load v) moves)
disjoint_loads (Store v ∷ moves) sets apart = disjoint_loads moves sets apart
disjoint_loads (Compute v ∷ moves) sets apart = disjoint_loads moves sets apart
disjoint_loads (Drop v ∷ moves) sets apart = disjoint_loads moves sets apart
disjoint_loads (Erase v ∷ moves) sets apart = disjoint_loads moves sets apart
