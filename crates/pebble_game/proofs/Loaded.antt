-- Each input that is read was loaded: between a board without its red pebble and the computing of a reader
-- stands a load of it.
use Rattle.std.proofs.Common.{inl, inr, ◌≡◌, refl, sym, ◌∙◌, ap, subst, ℕ, ◌+◌, ◌≤◌, ◌≢◌, Bool, true, false, cond, List, [], ◌∷◌, zero, suc, length, set, replicate, arith, IsTrue}
use Rattle.std.specs.Prelude.{filter, nat_eq, ◌||◌, ◌⊎◌, Contains}
use Rattle.std.specs.List.{AllByRecursion, IsDistinct}
use Rattle.std.proofs.lemmas.List.Elements.{All-from_recursion, All-contains}
use Rattle.std.proofs.lemmas.Bool.{eqb-true, eqb-false, ne_eqb, cases_eq, cases_Bool, and_from}
use Rattle.std.proofs.lemmas.Map.Made.{length-le_from_is_member, is_member-filter}
use Rattle.std.specs.Set.{is_member}
use Rattle.std.specs.Cmp.{nat_eq_equiv}
use Rattle.std.proofs.lemmas.List.Sums.{sum_by-cons}
use Rattle.std.proofs.lemmas.List.{get_or-set_other}
use Rattle.iolb_model.specs.declared.game.Move.{Move}
use Rattle.iolb_model.specs.declared.game.Move.TheVariants.{Load, Store, Compute, Drop, Erase}
use Rattle.iolb_model.specs.Graph.{ComputationGraph}
use Rattle.iolb_model.specs.Game.{Board, marked, predecessors_at, AreAllowed, board_after, final_board, IsCompletePebbling, loads_one_of, loads_of, stands_in, first_board}
use Rattle.execution_laws.proofs.Members.{Member}
use Rattle.pebble_game.proofs.Marks.{distinct-filtered, filtered-member, member-stands, standing-member, unmarked-at}
use Rattle.pebble_game.specs.Inputs.{EachReadInputIsLoaded, IsReadInput, ReadInputIsLoaded, ReadInputsAreLoaded}
use Rattle.pebble_game.specs.Loaded.{AreLoaded, DifferentAreLoads, LoadedByALoad, is_loaded, loaded, loaded_among}

filtered-step : (b : Bool) (v n : ℕ) (rest : List ℕ) → n ≡ length rest → cond b 1 0 + n ≡ length (cond b (v ∷ rest) rest)
filtered-step true v n rest e = omega (arith, e)
filtered-step false v n rest e = omega (arith, e)

-- the loads of a set's vertices are those among the loaded ones
pub loads_of-loaded : (set : List ℕ) (moves : List Move) → loads_of set moves ≡ length (filter (stands_in set) (loaded moves))
loads_of-loaded set [] = refl
loads_of-loaded set (Load v ∷ moves) =
    sum_by-cons (λ (move : Move). cond (loads_one_of set move) 1 0) (Load v) moves
    ∙ filtered-step (stands_in set v) v (loads_of set moves) (filter (stands_in set) (loaded moves)) (loads_of-loaded set moves)
loads_of-loaded set (Store v ∷ moves) = loads_of-loaded set moves
loads_of-loaded set (Compute v ∷ moves) = loads_of-loaded set moves
loads_of-loaded set (Drop v ∷ moves) = loads_of-loaded set moves
loads_of-loaded set (Erase v ∷ moves) = loads_of-loaded set moves

-- another vertex's mark stays
pub marked_other : (marks : List Bool) (v w : ℕ) (b : Bool) → v ≢ w → marked (set marks w b) v ≡ marked marks v
marked_other marks v w b apart = get_or-set_other marks w v b false apart

unmarked_first : (m : Bool) (marks : List Bool) (w : ℕ) → m ≡ false → marked (set (m ∷ marks) w false) zero ≡ false
unmarked_first m marks zero h = refl
unmarked_first m marks (suc w) h = h

-- a vertex without a mark has none after one is taken off
pub unmarked : (marks : List Bool) (v w : ℕ) → marked marks v ≡ false → marked (set marks w false) v ≡ false
unmarked [] v w h = refl
unmarked (m ∷ marks) (suc v) zero h = h
unmarked (m ∷ marks) zero w h = unmarked_first m marks w h
unmarked (m ∷ marks) (suc v) (suc w) h = unmarked marks v w h

pub or_true : (b x : Bool) → (b ≡ false → x ≡ true) → (b || x) ≡ true
or_true true x h = refl
or_true false x h = h refl

-- Between a board where an input has no red pebble and the computing of an instance that reads it, it is loaded.
pub loaded_before_reader : (graph : ComputationGraph) (s : ℕ) (v n : ℕ) → graph.instances ≤ v → Contains (predecessors_at graph n) v
    → (board : Board) (moves : List Move) → AreAllowed graph s board moves → marked board.red v ≡ false → marked board.computed n ≡ false
    → marked (final_board board moves).computed n ≡ true → is_loaded v moves ≡ true
loaded_before_reader graph s v n input read board [] allowed white before after = cc
loaded_before_reader graph s v n input read board (Load w ∷ moves) allowed white before after =
    or_true (nat_eq v w) (is_loaded v moves) (λ apart. loaded_before_reader graph s v n input read (board_after board (Load w)) moves allowed.1
    (marked_other board.red v w true (eqb-false v w apart) ∙ white) before after)
loaded_before_reader graph s v n input read board (Store w ∷ moves) allowed white before after =
    loaded_before_reader graph s v n input read (board_after board (Store w)) moves allowed.1 white before after
loaded_before_reader graph s v n input read board (Compute w ∷ moves) allowed white before after =
    loaded_before_reader graph s v n input read (board_after board (Compute w)) moves allowed.1
    (marked_other board.red v w true (λ (same : v ≡ w). absurd (omega (arith, allowed.0.0, same, input))) ∙ white)
    (marked_other board.computed n w true (λ (same : n ≡ w). not_computed same) ∙ before) after where
      not_computed : n ≡ w → ⊥
      not_computed same =
          let reads : Contains (predecessors_at graph w) v = subst (λ (m : ℕ). Contains (predecessors_at graph m) v) same read in
          let red : marked board.red v ≡ true = All-contains (λ (u : ℕ). IsTrue (marked board.red u)) (predecessors_at graph w) v (All-from_recursion (λ (u : ℕ). IsTrue (marked board.red u)) (predecessors_at graph w) allowed.0.2) reads in
          cc
loaded_before_reader graph s v n input read board (Drop w ∷ moves) allowed white before after =
    loaded_before_reader graph s v n input read (board_after board (Drop w)) moves allowed.1 (unmarked board.red v w white) before after
loaded_before_reader graph s v n input read board (Erase w ∷ moves) allowed white before after =
    loaded_before_reader graph s v n input read (board_after board (Erase w)) moves allowed.1 white before after

pub read_input_loaded : (graph : ComputationGraph) (s : ℕ) (moves : List Move) (v : ℕ) → IsCompletePebbling graph s moves → IsReadInput graph v → is_loaded v moves ≡ true
read_input_loaded graph s moves v game input =
    loaded_before_reader graph s v input.reader input.input input.read (first_board graph) moves game.allowed
    (unmarked-at (graph.instances + graph.inputs) v) (unmarked-at (graph.instances + graph.inputs) input.reader) (game.computed input.reader input.there)

by_eqb : {P : Type 0} (a b : ℕ) → (a ≡ b → P) → (nat_eq a b ≡ false → P) → P
by_eqb a b same apart = elim (cases_eq a b) [ inl e ↦ same e | inr e ↦ apart (ne_eqb a b e) ]

-- each of a list of inputs that are read stands among the loaded vertices
each_loaded : (graph : ComputationGraph) (s : ℕ) (moves : List Move) (inputs : List ℕ) → IsCompletePebbling graph s moves
    → AllByRecursion (IsReadInput graph) inputs → (q : ℕ) → is_member nat_eq inputs q ≡ true → is_member nat_eq (loaded moves) q ≡ true
each_loaded graph s moves [] game read q h = cc
each_loaded graph s moves (v ∷ inputs) game read q h =
    by_eqb q v (λ (same : q ≡ v). subst (λ (u : ℕ). is_member nat_eq (loaded moves) u ≡ true) (sym same) (read_input_loaded graph s moves v game read.0))
    (λ (apart : nat_eq q v ≡ false). each_loaded graph s moves inputs game read.1 q (rw apart at h))

-- and among those that are loaded of their own set
each_loaded_of : (graph : ComputationGraph) (s : ℕ) (moves : List Move) (inputs : List ℕ) → IsCompletePebbling graph s moves
    → AllByRecursion (IsReadInput graph) inputs → (q : ℕ) → is_member nat_eq inputs q ≡ true → is_member nat_eq (filter (stands_in inputs) (loaded moves)) q ≡ true
each_loaded_of graph s moves inputs game read q h =
    is_member-filter nat_eq_equiv (stands_in inputs) q (λ x e. ap (stands_in inputs) (eqb-true q x e)) (loaded moves)
    ∙ and_from (is_member nat_eq (loaded moves) q) (stands_in inputs q) (each_loaded graph s moves inputs game read q h) h

pub read_inputs_loaded : ReadInputsAreLoaded
read_inputs_loaded graph s moves inputs game apart read =
    subst (λ (n : ℕ). length inputs ≤ n) (sym (loads_of-loaded inputs moves))
    (length-le_from_is_member nat_eq_equiv inputs (filter (stands_in inputs) (loaded moves)) apart (each_loaded_of graph s moves inputs game read))

one_distinct : (v : ℕ) → IsDistinct nat_eq (v ∷ [])
unfolding IsDistinct
one_distinct v = (tt, tt)

pub read_input_loaded_once : ReadInputIsLoaded
read_input_loaded_once graph s moves v game read = read_inputs_loaded graph s moves (v ∷ []) game (one_distinct v) (read, tt)

-- each of them is loaded
pub each_input_loaded : EachReadInputIsLoaded
each_input_loaded graph s moves [] game read = tt
each_input_loaded graph s moves (v ∷ inputs) game read = (read_input_loaded graph s moves v game read.0, each_input_loaded graph s moves inputs game read.1)

-- ---- loaded vertices and loads

pub different_are_loads : DifferentAreLoads
different_are_loads moves set distinct =
    subst (λ (n : ℕ). length (loaded_among set moves) ≤ n) (sym (loads_of-loaded set moves))
    (length-le_from_is_member nat_eq_equiv (loaded_among set moves) (filter (stands_in set) (loaded moves)) (distinct-filtered (λ v. is_loaded v moves) set distinct)
    (λ v h. let m = filtered-member (λ u. is_loaded u moves) set v (standing-member (loaded_among set moves) v h) in
    is_member-filter nat_eq_equiv (stands_in set) v (λ x e. ap (stands_in set) (eqb-true v x e)) (loaded moves)
    ∙ and_from (is_member nat_eq (loaded moves) v) (stands_in set v) m.1 (member-stands set v m.0)))

pub loaded_by_a_load : LoadedByALoad
loaded_by_a_load moves v = (forth, back) where
  forth : is_loaded v moves ≡ true → 1 ≤ loads_of (v ∷ []) moves
  forth on = subst (λ (b : Bool). length (cond b (v ∷ []) []) ≤ loads_of (v ∷ []) moves) on (different_are_loads moves (v ∷ []) (one_distinct v))

  some : (xs : List ℕ) → 1 ≤ length (filter (stands_in (v ∷ [])) xs) → stands_in xs v ≡ true
  some [] le = absurd (omega (arith, le))
  some (x ∷ xs) le = by_eqb v x (λ same. member-stands (x ∷ xs) v (inl same)) (λ apart. member-stands (x ∷ xs) v (inr (standing-member xs v (some xs (later apart))))) where
    off : nat_eq v x ≡ false → stands_in (v ∷ []) x ≡ false
    off apart = by (cases_Bool (stands_in (v ∷ []) x)) where
      by : (stands_in (v ∷ []) x ≡ true) ⊎ (stands_in (v ∷ []) x ≡ false) → stands_in (v ∷ []) x ≡ false
      by (inr e) = e
      by (inl e) = absurd (eqb-false v x apart (only (standing-member (v ∷ []) x e))) where
        only : Member x (v ∷ []) → v ≡ x
        only (inl e) = sym e
        only (inr m) = absurd m

    later : nat_eq v x ≡ false → 1 ≤ length (filter (stands_in (v ∷ [])) xs)
    later apart = subst (λ (b : Bool). 1 ≤ length (cond b (x ∷ filter (stands_in (v ∷ [])) xs) (filter (stands_in (v ∷ [])) xs))) (off apart) le

  back : 1 ≤ loads_of (v ∷ []) moves → is_loaded v moves ≡ true
  back le = some (loaded moves) (subst (λ (n : ℕ). 1 ≤ n) (loads_of-loaded (v ∷ []) moves) le)
