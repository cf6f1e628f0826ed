-- The order where nothing is said of instances: they stay as they are.
use Rattle.std.proofs.Common.{◌≡◌, refl, sym, ap, ◌∙◌, ℕ, zero, suc, ◌+◌, ◌<◌, List, [], ◌∷◌, ◌++◌, map, length, take, get_or, nat_eq, true, false, subst, Vec, Global, arith}
use Rattle.std.specs.Prelude.{ℤ}
use Rattle.std.specs.Cmp.{nat_cmp_is}
use Rattle.std.specs.Cmp.Lexicographic.{slice_cmp}
use Rattle.std.specs.List.{AllByRecursion, range_with_len}
use Rattle.std.specs.List.Sorted.{IsSorted}
use Rattle.std.specs.Ordering.{is_lt, ordering_then, int_cmp, nat_cmp}
use Rattle.std.specs.declared.cmp.Ordering.TheVariants.{Greater}
use Rattle.std.proofs.lemmas.Bool.{eqb-true}
use Rattle.std.proofs.lemmas.List.FromFn.{get_or-range_with_len, length-range_with_len}
use Rattle.std.proofs.lemmas.List.Sorted.{IsPermutation-refl}
use Rattle.base_laws.proofs.Ranges.{range-push}
use Rattle.iolb_model.specs.Execution.{Instance}
use Rattle.tile_sched.specs.Order.{compare, said_by, said_of, IsOrder}
use Rattle.tile_sched.specs.Ranks.{SaysNothing}
use Rattle.tile_sched.specs.Schedules.{rows_of}
use Rattle.tile_sched.specs.declared.schedule.Key.{Key}

-- lists of which each is empty have none else
nothing_at : {X : Type 0} (all : List (List X)) → AllByRecursion (λ l. l ≡ []) all → (k : ℕ) → get_or all k [] ≡ []
nothing_at [] h k = refl
nothing_at (x ∷ all) h zero = h.0
nothing_at (x ∷ all) h (suc k) = nothing_at all h.1 k

nothing_said : (schedule : List (List Key)) (parameters : List ℤ) (instances : List Instance) → SaysNothing schedule → AllByRecursion (λ l. l ≡ []) (map (said_of schedule parameters) instances)
nothing_said schedule parameters [] h = tt
nothing_said schedule parameters (x ∷ instances) h =
    (ap (λ (keys : List Key). said_by keys (parameters ++ x.values)) (nothing_at schedule h x.statement), nothing_said schedule parameters instances h)

falls : (k : ℕ) → is_lt (nat_cmp (0 + (k + 1)) (0 + k)) ≡ false
falls k = sym (ap is_lt (nat_cmp_is (0 + (k + 1)) (0 + k) Greater (omega arith)))

counted_ascend : (all : List (List ℤ)) (count : ℕ) → AllByRecursion (λ l. l ≡ []) all → IsSorted (compare all) (range_with_len 0 count)
counted_ascend all count h k d low below =
    let more : k + 1 < count = omega (arith, below, length-range_with_len 0 count) in
    ap (λ (n : ℕ). is_lt (compare all n (get_or (range_with_len 0 count) k d))) (get_or-range_with_len 0 count (k + 1) d more)
    ∙ ap (λ (n : ℕ). is_lt (compare all (0 + (k + 1)) n)) (get_or-range_with_len 0 count k d (omega (arith, more)))
    ∙ ap (λ (l : List ℤ). is_lt (ordering_then (slice_cmp int_cmp l (get_or all (0 + k) [])) (nat_cmp (0 + (k + 1)) (0 + k)))) (nothing_at all h (0 + (k + 1)))
    ∙ ap (λ (l : List ℤ). is_lt (ordering_then (slice_cmp int_cmp [] l) (nat_cmp (0 + (k + 1)) (0 + k)))) (nothing_at all h (0 + k))
    ∙ falls k

pub as_written : (schedule : List (List Key)) (parameters : List ℤ) (instances : List Instance) → SaysNothing schedule
    → IsOrder (map (said_of schedule parameters) instances) (range_with_len 0 (length (map (said_of schedule parameters) instances)))
as_written schedule parameters instances h =
    let all : List (List ℤ) = map (said_of schedule parameters) instances in record {
      each = IsPermutation-refl (range_with_len 0 (length all));
      ascends = counted_ascend all (length all) (nothing_said schedule parameters instances h);
    }

pub counted_more : (count : ℕ) → range_with_len 0 count ++ count ∷ [] ≡ range_with_len 0 (count + 1)
counted_more count =
    let own : count ≡ 0 + count = omega arith in
    let more : suc count ≡ count + 1 = omega arith in
    ap (λ (n : ℕ). range_with_len 0 count ++ n ∷ []) own ∙ range-push 0 count ∙ ap (range_with_len 0) more

-- ---- the keys of statements, one after the other

pub no_keys : (keys : List Key) → nat_eq (length keys) 0 ≡ true → keys ≡ []
no_keys [] e = refl
no_keys (x ∷ keys) e = absurd (let none : length (x ∷ keys) ≡ 0 = eqb-true (length (x ∷ keys)) 0 e in omega (arith, none))

one_row : (rows : List (Vec Key Global)) (k : ℕ) (row : Vec Key Global) → k < length rows → row ≡ get_or rows k row → SaysNothing (rows_of (take k rows)) → row.items ≡ [] → SaysNothing (rows_of (take (suc k) rows))
one_row [] k row below is h empty = tt
one_row (x ∷ rows) zero row below is h empty = (ap (λ (v : Vec Key Global). v.items) (sym is) ∙ empty, tt)
one_row (x ∷ rows) (suc k) row below is h empty = (h.0, one_row rows k row (omega (arith, below)) is h.1 empty)

pub nothing_more : (rows : List (Vec Key Global)) (k : ℕ) (row : Vec Key Global) → k < length rows → row ≡ get_or rows k row → SaysNothing (rows_of (take k rows)) → row.items ≡ [] → SaysNothing (rows_of (take (k + 1) rows))
nothing_more rows k row below is h empty =
    let more : suc k ≡ k + 1 = omega arith in
    subst (λ (n : ℕ). SaysNothing (rows_of (take n rows))) more (one_row rows k row below is h empty)

pub something : (rows : List (Vec Key Global)) (k : ℕ) (row : Vec Key Global) → k < length rows → row ≡ get_or rows k row → (row.items ≡ [] → ⊥) → SaysNothing (rows_of rows) → ⊥
something [] k row below is some h = omega (arith, below)
something (x ∷ rows) zero row below is some h = some (ap (λ (v : Vec Key Global). v.items) is ∙ h.0)
something (x ∷ rows) (suc k) row below is some h = something rows k row (omega (arith, below)) is some h.1
