-- Instances in the order of what is said of them.
use Rattle.std.proofs.Common.{◌≡◌, refl, sym, ap, ◌∙◌, subst, ℕ, ◌+◌, ◌<◌, List, [], ◌∷◌, map, length, get_or, Vec, Global, arith}
use Rattle.std.specs.Prelude.{ℤ}
use Rattle.std.specs.Cmp.Lexicographic.{slice_cmp}
use Rattle.std.specs.List.{All, AllByRecursion, enumerate_from, range_with_len}
use Rattle.std.specs.List.Sorted.{IsPermutation, IsSorted}
use Rattle.std.specs.declared.cmp.Ordering.{Ordering}
use Rattle.std.specs.Ordering.{is_lt, ordering_then, int_cmp, nat_cmp}
use Rattle.std.proofs.lemmas.List.{get_or-map, get_or_default, length-map}
use Rattle.std.proofs.lemmas.List.Sorted.{IsPermutation-map, All-permutation}
use Rattle.base_laws.proofs.Lists.{All-weaken, there}
use Rattle.std.proofs.lemmas.Simd.{map-map}
use Rattle.std.proofs.lemmas.List.FromFn.{length-enumerate_from, get_or-enumerate_from}
use Rattle.tile_sched.specs.Order.{compare, IsOrder, keys_of, said_by, said_of}
use Rattle.tile_sched.specs.Ranks.{rank_of, said_of_run, CanSay}
use Rattle.tile_sched.specs.Schedules.{IsKey, IsSchedule, key_variables}
use Rattle.tile_sched.specs.declared.schedule.Key.{Key}
use Rattle.iolb_model.specs.Program.{AffineProgram}
use Rattle.iolb_model.specs.Execution.{Instance}
use Rattle.affine_program.proofs.Bounds.{All-placed}
use Rattle.loop_graph.specs.declared.listed.Run.{Run}
use Rattle.loop_graph.specs.Runs.{with_point, run_of, IsRun}

-- what a sort compares
abbrev pub compare_ranks : Vec ℤ Global × ℕ → Vec ℤ Global × ℕ → Ordering
compare_ranks x y = ordering_then (slice_cmp int_cmp x.0.items y.0.items) (nat_cmp x.1 y.1)

abbrev Rank : Type 0
Rank = Vec ℤ Global × ℕ

-- the numbers of instances that are counted
counted : (first : ℕ) (all : List (List ℤ)) → map (λ (p : ℕ × List ℤ). p.0) (enumerate_from first all) ≡ range_with_len first (length all)
counted first [] = refl
counted first (x ∷ all) = ap (λ (l : List ℕ). first ∷ l) (counted (first + 1) all)

numbers_are : (ranks : List Rank) (all : List (List ℤ)) → map rank_of ranks ≡ enumerate_from 0 all → map (λ (r : Rank). r.1) ranks ≡ range_with_len 0 (length all)
numbers_are ranks all is = sym (map-map (λ (p : ℕ × List ℤ). p.0) rank_of ranks) ∙ ap (map (λ (p : ℕ × List ℤ). p.0)) is ∙ counted 0 all

-- a rank has what is said of its instance
abbrev Says : List (List ℤ) → Rank → Type 0
Says all rank = rank.0.items ≡ get_or all rank.1 []

each_says : (ranks : List Rank) (all : List (List ℤ)) → map rank_of ranks ≡ enumerate_from 0 all → All (Says all) ranks
each_says ranks all is k d below =
    let many : length ranks ≡ length all = sym (length-map ranks rank_of) ∙ ap length is ∙ length-enumerate_from 0 all in
    let within : k < length all = omega (arith, many) in
    let pair : rank_of (get_or ranks k d) ≡ (0 + k, get_or all k d.0.items) =
    sym (get_or-map rank_of ranks k d (rank_of d) below) ∙ ap (λ (l : List (ℕ × List ℤ)). get_or l k (rank_of d)) is ∙ get_or-enumerate_from 0 all k (rank_of d) within in
    let number : (get_or ranks k d).1 ≡ k = ap (λ (p : ℕ × List ℤ). p.0) pair ∙ none k in
    ap (λ (p : ℕ × List ℤ). p.1) pair ∙ get_or_default all k d.0.items [] within ∙ ap (λ (n : ℕ). get_or all n []) (sym number) where
      none : (n : ℕ) → 0 + n ≡ n
      none n = omega arith

-- two ranks compare as their instances do
compares : (all : List (List ℤ)) (x y : Rank) → Says all x → Says all y → compare all x.1 y.1 ≡ compare_ranks x y
compares all x y hx hy =
    ap (λ (l : List ℤ). ordering_then (slice_cmp int_cmp l (get_or all y.1 [])) (nat_cmp x.1 y.1)) (sym hx)
    ∙ ap (λ (l : List ℤ). ordering_then (slice_cmp int_cmp x.0.items l) (nat_cmp x.1 y.1)) (sym hy)

ascend : (all : List (List ℤ)) (sorted : List Rank) → All (Says all) sorted → IsSorted compare_ranks sorted → IsSorted (compare all) (map (λ (r : Rank). r.1) sorted)
ascend all sorted says ascends k d low below =
    let first : k + 1 < length sorted = omega (arith, length-map sorted (λ (r : Rank). r.1)) in
    let before : k < length sorted = omega (arith, first) in
    let r : Rank = (there sorted k before).0 in
    let x : get_or (map (λ (r : Rank). r.1) sorted) (k + 1) d ≡ (get_or sorted (k + 1) r).1 = get_or-map (λ (r : Rank). r.1) sorted (k + 1) r d first in
    let y : get_or (map (λ (r : Rank). r.1) sorted) k d ≡ (get_or sorted k r).1 = get_or-map (λ (r : Rank). r.1) sorted k r d before in
    ap (λ (n : ℕ). is_lt (compare all n (get_or (map (λ (r : Rank). r.1) sorted) k d))) x
    ∙ ap (λ (n : ℕ). is_lt (compare all (get_or sorted (k + 1) r).1 n)) y
    ∙ ap is_lt (compares all (get_or sorted (k + 1) r) (get_or sorted k r) (says (k + 1) r first) (says k r before))
    ∙ ascends k r low first

-- the numbers of ranks in order are an order of the instances
pub sorted_order : (all : List (List ℤ)) (ranks sorted : List Rank) → map rank_of ranks ≡ enumerate_from 0 all → IsPermutation ranks sorted → IsSorted compare_ranks sorted
    → IsOrder all (map (λ (r : Rank). r.1) sorted)
sorted_order all ranks sorted is moved ascends = record {
  each = subst (λ (l : List ℕ). IsPermutation l (map (λ (r : Rank). r.1) sorted)) (numbers_are ranks all is) (IsPermutation-map (λ (r : Rank). r.1) ranks sorted moved);
  ascends = ascend all sorted (All-permutation (Says all) ranks sorted moved (each_says ranks all is)) ascends;
}

-- ---- the runs of a program

-- a schedule of the program can say something of each run
one_can_say : (program : AffineProgram) (schedule : List (List Key)) (run : Run) → IsSchedule program schedule → IsRun program run → CanSay schedule run
one_can_say program schedule run fits is =
    let below : run.statement < length schedule = omega (arith, fits.statements, is.there) in
    let keys : AllByRecursion (IsKey (key_variables program (0 + run.statement))) (keys_of schedule run.statement) =
    All-placed (λ (placed : ℕ × List Key). AllByRecursion (IsKey (key_variables program placed.0)) placed.1) 0 schedule run.statement [] fits.keys below in
    let many : key_variables program (0 + run.statement) ≡ length run.point.items = ap (key_variables program) (none run.statement) ∙ sym is.values in record {
      there = omega (arith, below);
      keys = subst (λ (n : ℕ). AllByRecursion (IsKey n) (keys_of schedule run.statement)) many keys;
      small = is.small;
    } where
      none : (n : ℕ) → 0 + n ≡ n
      none n = omega arith

pub can_say : (program : AffineProgram) (schedule : List (List Key)) (runs : List Run) → IsSchedule program schedule → AllByRecursion (IsRun program) runs → AllByRecursion (CanSay schedule) runs
can_say program schedule runs fits is = All-weaken (IsRun program) (CanSay schedule) runs (λ run h. one_can_say program schedule run fits h) is

-- and says of them what it says of the instances
abbrev said_at : List (List Key) → ℕ × List ℤ → List ℤ
said_at schedule pair = said_by (keys_of schedule pair.0) pair.1

pub said_of_all : (schedule : List (List Key)) (parameters : List ℤ) (instances : List Instance) (runs : List Run) → map run_of runs ≡ map (with_point parameters) instances
    → map (said_of_run schedule) runs ≡ map (said_of schedule parameters) instances
said_of_all schedule parameters instances runs is =
    sym (map-map (said_at schedule) run_of runs) ∙ ap (map (said_at schedule)) is ∙ map-map (said_at schedule) (with_point parameters) instances
