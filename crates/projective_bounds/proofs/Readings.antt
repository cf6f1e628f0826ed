-- In a cover with a packing of its total, each array whose weight isn't 0 is read, and no weight is more than the denominator.
use Rattle.std.proofs.Common.{◌≡◌, ◌≢◌, refl, sym, ◌∙◌, ap, subst, ℕ, zero, suc, ◌+◌, ◌<◌, ◌≤◌, List, [], ◌∷◌, length, map, filter, get_or, sum, cond, arith, inl, inr, Bool, true, false}
use Rattle.std.specs.Prelude.{◌⊎◌, Option, Some, None, ◌||◌, ◌==◌, if◌then◌else◌, slice_set}
use Rattle.std.specs.List.{AllByRecursion, list_any, range_with_len}
use Rattle.std.proofs.lemmas.List.Sums.{sum_by-cons}
use Rattle.std.proofs.lemmas.List.{length-set}
use Rattle.std.proofs.lemmas.List.FromFn.{length-range_with_len}
use Rattle.base_laws.proofs.Lists.{All-weaken}
use Rattle.base_laws.proofs.Ranges.{filter-few}
use Rattle.iolb_model.specs.Form.{AffineForm}
use Rattle.iolb_model.specs.Program.{Access, AffineProgram, no_statement, statement_at}
use Rattle.affine_program.specs.Domain.{depth_of}
use Rattle.cover_lp.specs.Cover.{IsCover, IsPair, holds, weight_at}
use Rattle.cover_lp.proofs.Duality.{no-greater}
use Rattle.projective.specs.Projective.{coordinates, projection_sets, reference_to, stands_in}
use Rattle.projective_bounds.specs.Families.{first_to, has_variable, place_among}
use Rattle.projective_bounds.specs.Readable.{AreReadable, IsReadable}

-- ---- another weight for one set

sum-set : (weights : List ℕ) (j w : ℕ) → j < length weights → sum (slice_set weights j w) + get_or weights j 0 ≡ sum weights + w
sum-set [] j w below = absurd (omega arith)
sum-set (v ∷ weights) zero w below = omega (arith, sum_by-cons (λ (n : ℕ). n) w weights, sum_by-cons (λ (n : ℕ). n) v weights)
sum-set (v ∷ weights) (suc j) w below =
    omega (arith, sum_by-cons (λ (n : ℕ). n) v (slice_set weights j w), sum_by-cons (λ (n : ℕ). n) v weights, sum-set weights j w (omega arith))

weight-set : (sets : List (List ℕ)) (weights : List ℕ) (j w c : ℕ) → j < length sets → j < length weights
    → weight_at sets (slice_set weights j w) c + cond (holds (get_or sets j []) c) (get_or weights j 0) 0 ≡ weight_at sets weights c + cond (holds (get_or sets j []) c) w 0
weight-set [] weights j w c below inside = absurd (omega arith)
weight-set (set ∷ sets) [] j w c below inside = absurd (omega arith)
weight-set (set ∷ sets) (v ∷ weights) zero w c below inside = omega arith
weight-set (set ∷ sets) (v ∷ weights) (suc j) w c below inside = omega (arith, weight-set sets weights j w c (omega arith) (omega arith))

-- all weights are at least those of the sets that hold a coordinate
pub weight-most : (sets : List (List ℕ)) (weights : List ℕ) (c : ℕ) → weight_at sets weights c ≤ sum weights
weight-most [] weights c = omega arith
weight-most (set ∷ sets) [] c = omega arith
weight-most (set ∷ sets) (v ∷ weights) c = omega (arith, sum_by-cons (λ (n : ℕ). n) v weights, weight-most sets weights c, part (holds set c)) where
  part : (b : Bool) → cond b v 0 ≤ v
  part true = omega arith
  part false = omega arith

weight-part : (sets : List (List ℕ)) (weights : List ℕ) (j c : ℕ) → j < length sets → j < length weights → cond (holds (get_or sets j []) c) (get_or weights j 0) 0 ≤ weight_at sets weights c
weight-part [] weights j c below inside = absurd (omega arith)
weight-part (set ∷ sets) [] j c below inside = absurd (omega arith)
weight-part (set ∷ sets) (v ∷ weights) zero c below inside = omega arith
weight-part (set ∷ sets) (v ∷ weights) (suc j) c below inside = omega (arith, weight-part sets weights j c (omega arith) (omega arith))

module _ (sets : List (List ℕ)) (d q : ℕ) (weights packing : List ℕ) (some : 1 ≤ q) (pair : IsPair sets d q weights packing) (j : ℕ) (below : j < length sets) where
  inside : j < length weights
  inside = omega (arith, pair.cover.one_each)

  -- no lesser weight covers
  least : (w : ℕ) → IsCover sets d q (slice_set weights j w) → get_or weights j 0 ≤ w
  least w cover =
      let total = no-greater sets d q q (slice_set weights j w) packing some (omega arith) cover pair.packs in
      omega (arith, total, pair.equal, sum-set weights j w inside)

  -- a set with a weight isn't empty
  pub weighted-some : get_or weights j 0 ≢ 0 → get_or sets j [] ≢ []
  weighted-some not none =
      let lesser : get_or weights j 0 ≤ 0 = least 0 (record {
        one_each = length-set weights j 0 ∙ pair.cover.one_each;
        covered = λ c within. omega (
          arith,
          pair.cover.covered c within,
          weight-set sets weights j 0 c below inside,
          ap {B = ℕ} (λ (set : List ℕ). cond (holds set c) (get_or weights j 0) 0) none,
          ap {B = ℕ} (λ (set : List ℕ). cond (holds set c) 0 0) none,
        );
      }) in not (omega arith)

  pub weighted-light : get_or weights j 0 ≤ q
  weighted-light = by (compare (get_or weights j 0) q) where
    compare : (m n : ℕ) → (m ≤ n) ⊎ (n < m)
    compare m n = grind arith

    covered : q < get_or weights j 0 → (c : ℕ) → c < d → (b : Bool) → b ≡ holds (get_or sets j []) c → q ≤ weight_at sets (slice_set weights j q) c
    covered more c within true e = omega (
      arith,
      weight-set sets weights j q c below inside,
      weight-part sets weights j c below inside,
      ap {B = ℕ} (λ (b : Bool). cond b (get_or weights j 0) 0) (sym e),
      ap {B = ℕ} (λ (b : Bool). cond b q 0) (sym e),
    )
    covered more c within false e = omega (
      arith,
      pair.cover.covered c within,
      weight-set sets weights j q c below inside,
      ap {B = ℕ} (λ (b : Bool). cond b (get_or weights j 0) 0) (sym e),
      ap {B = ℕ} (λ (b : Bool). cond b q 0) (sym e),
    )

    by : (get_or weights j 0 ≤ q) ⊎ (q < get_or weights j 0) → get_or weights j 0 ≤ q
    by (inl le) = le
    by (inr more) =
        least q (record { one_each = length-set weights j q ∙ pair.cover.one_each; covered = λ c within. covered more c within (holds (get_or sets j []) c) refl })

-- ---- the first reference to an array

found-first : (array : ℕ) (accesses : List Access) (found d : Access) → reference_to accesses array ≡ Some found → (first_to array accesses < length accesses) × (get_or accesses (first_to array accesses) d ≡ found)
found-first array [] found d e = absurd cc
found-first array (a ∷ accesses) found d e = by (a.array == array) refl e (found-first array accesses found d) where
  by : (b : Bool) → b ≡ (a.array == array) → (if b then Some a else reference_to accesses array) ≡ Some found
      → (reference_to accesses array ≡ Some found → (first_to array accesses < length accesses) × (get_or accesses (first_to array accesses) d ≡ found))
      → ((if b then 0 else suc (first_to array accesses)) < suc (length accesses)) × (get_or (a ∷ accesses) (if b then 0 else suc (first_to array accesses)) d ≡ found)
  by true same is rest = (omega arith, cc)
  by false same is rest = let there = rest is in (omega (arith, there.0), there.1)

any-place : (forms : List AffineForm) (v : ℕ) → list_any (has_variable v) forms ≡ true → place_among forms v < length forms
any-place [] v e = absurd cc
any-place (f ∷ forms) v e = by (has_variable v f) e (any-place forms v) where
  by : (b : Bool) → (b || list_any (has_variable v) forms) ≡ true → (list_any (has_variable v) forms ≡ true → place_among forms v < length forms) → (if b then 0 else suc (place_among forms v)) < suc (length forms)
  by true is rest = omega arith
  by false is rest = omega (arith, rest is)

-- what passes a test
pub filter-both : (passes : ℕ → Bool) (Q : ℕ → Type 0) (xs : List ℕ) → AllByRecursion Q xs → AllByRecursion (λ (x : ℕ). Q x × (passes x ≡ true)) (filter passes xs)
filter-both passes Q [] h = tt
filter-both passes Q (x ∷ xs) h = by (passes x) refl (filter-both passes Q xs h.1) where
  by : (b : Bool) → b ≡ passes x → AllByRecursion (λ (y : ℕ). Q y × (passes y ≡ true)) (filter passes xs) → AllByRecursion (λ (y : ℕ). Q y × (passes y ≡ true)) (cond b (x ∷ filter passes xs) (filter passes xs))
  by true e rest = ((h.0, sym e), rest)
  by false e rest = rest

pub range-below : (first count end : ℕ) → first + count ≤ end → AllByRecursion (λ (x : ℕ). x < end) (range_with_len first count)
range-below first zero end le = tt
range-below first (suc count) end le = (omega arith, range-below (first + 1) count end (omega arith))

module _ (program : AffineProgram) (few : depth_of program 0 ≤ 6) where
  abbrev p : ℕ
  p = length program.parameters

  abbrev d : ℕ
  d = depth_of program 0

  abbrev reads : List Access
  reads = (statement_at program 0).reads

  set-readable : (array : ℕ) (found : Option Access) → reference_to reads array ≡ found → coordinates p d found ≢ [] → IsReadable program array (coordinates p d found)
  set-readable array None e some = absurd (some refl)
  set-readable array (Some access) e some =
      let first = found-first array reads access no_statement.writes e in
      let all = filter-both (λ place. stands_in (p + place) access) (λ (place : ℕ). place < d) (range_with_len 0 d) (range-below 0 d d (omega arith)) in
      record {
        read = first.0;
        few = omega (arith, filter-few (λ place. stands_in (p + place) access) (range_with_len 0 d), length-range_with_len 0 d, few);
        there = All-weaken (λ (place : ℕ). (place < d) × (stands_in (p + place) access ≡ true)) (λ (place : ℕ). place < d) (coordinates p d (Some access)) (λ place h. h.0) all;
        stands = subst (λ (a : Access). AllByRecursion (λ level. place_among a.subscripts (p + level) < length a.subscripts) (coordinates p d (Some access))) (sym first.1)
            (All-weaken (λ (place : ℕ). (place < d) × (stands_in (p + place) access ≡ true)) (λ (place : ℕ). place_among access.subscripts (p + place) < length access.subscripts) (coordinates p d (Some access))
            (λ place h. any-place access.subscripts (p + place) h.1) all);
      }

  all-readable : (first count : ℕ) (sets : List (List ℕ)) (weights : List ℕ) → sets ≡ map (λ array. coordinates p d (reference_to reads array)) (range_with_len first count)
      → ((j : ℕ) → j < length sets → get_or weights j 0 ≢ 0 → get_or sets j [] ≢ []) → AreReadable program first sets weights
  all-readable first count [] weights is some = tt
  all-readable first count (set ∷ sets) [] is some = tt
  all-readable first zero (set ∷ sets) (w ∷ weights) is some = absurd cc
  all-readable first (suc count) (set ∷ sets) (w ∷ weights) is some =
      let here : set ≡ coordinates p d (reference_to reads first) = cc in
      let rest : sets ≡ map (λ array. coordinates p d (reference_to reads array)) (range_with_len (first + 1) count) = cc in (
        λ not. subst (IsReadable program first) (sym here) (set-readable first (reference_to reads first) refl (λ none. some 0 (omega arith) not (here ∙ none))),
        all-readable (suc first) count sets weights (rest ∙ ap (λ (n : ℕ). map (λ array. coordinates p d (reference_to reads array)) (range_with_len n count)) (next first)) (λ j below. some (suc j) (omega arith)),
      ) where
        next : (n : ℕ) → n + 1 ≡ suc n
        next n = omega arith

  pub pairs-readable : (q : ℕ) (weights packing : List ℕ) → 1 ≤ q → IsPair (projection_sets program) (depth_of program 0) q weights packing → AreReadable program 0 (projection_sets program) weights
  pairs-readable q weights packing positive pair =
      all-readable 0 (length program.arrays) (projection_sets program) weights refl (λ j below. weighted-some (projection_sets program) (depth_of program 0) q weights packing positive pair j below)
