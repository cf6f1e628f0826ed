-- The uniform cover inequality without weights, over points, coordinates and labels of any types, by induction on the
-- number of coordinates: the points are split by their last coordinate, one slice after another.
use Rattle.std.proofs.Common.{◌≡◌, ℕ, zero, suc, ◌+◌, ◌*◌, ◌^◌, ◌<◌, ◌≤◌, Bool, true, false, not, cond, List, [], ◌∷◌, length, map, count_by, arith, sym, refl, inl, inr, ap, ◌∙◌, ⊎_elim, subst}
use Rattle.std.specs.Bool.{Decides}
use Rattle.std.specs.List.{AllByRecursion, filter, list_any}
use Rattle.std.proofs.lemmas.Bool.{cases_lt, false≢true}
use Rattle.std.proofs.lemmas.List.Filters.{length-filter_both}
use Rattle.std.proofs.lemmas.List.Sums.{sum_by-cons}
use Rattle.std.proofs.Math.Nat.{mul-le-mul, pow-suc}
use Rattle.uniform_cover.specs.Products.{product_by}
use Rattle.uniform_cover.specs.Cover.{Family, Agree}
use Rattle.uniform_cover.proofs.Members.{IsIn, IsIn-from_filter, IsIn-filter, IsIn-from_list_any, list_any-from_IsIn, not_true, true_and_not}
use Rattle.uniform_cover.proofs.ProductLemmas.{product_by-map}
use Rattle.uniform_cover.proofs.Steps.{mixed}

-- how many labels a family lists
abbrev pub label_count : {V L : Type 0} → Family V L → ℕ
label_count f = length f.labels

-- no two points agree at the first d coordinates
abbrev pub AreApart : {V C : Type 0} → (V → ℕ → C) → ℕ → List V → Type 0
AreApart coordinate d [] = Unit {0}
AreApart {V} coordinate d (v ∷ vs) = ((u : V) → IsIn u vs → Agree coordinate d v u → ⊥) × AreApart coordinate d vs

-- a family's list has the label of each point, and a label fixes the coordinates of the set
pub record IsSound {V C L : Type 0} (coordinate : V → ℕ → C) (points : List V) (f : Family V L) : Type 0 where
  pub held : (v : V) → IsIn v points → IsIn (f.label v) f.labels
  pub fixed : (u v : V) → IsIn u points → IsIn v points → f.label u ≡ f.label v → (i : ℕ) → f.has i ≡ true → coordinate u i ≡ coordinate v i

-- each of the first d coordinates is in at least q of the sets
abbrev pub Covers : {V L : Type 0} → ℕ → ℕ → List (Family V L) → Type 0
Covers q d fs = (i : ℕ) → i < d → q ≤ count_by (λ f. f.has i) fs

-- the inequality at d coordinates
abbrev pub HoldsAt : (V C L : Type 0) → (V → ℕ → C) → ℕ → ℕ → Type 0
HoldsAt V C L coordinate q d = (points : List V) (fs : List (Family V L)) → AreApart coordinate d points
    → AllByRecursion (IsSound coordinate points) fs → Covers q d fs → length points ^ q ≤ product_by label_count fs

zero_pow : (q : ℕ) → 1 ≤ q → 0 ^ q ≡ 0
zero_pow zero some = absurd (omega arith)
zero_pow (suc q) some = rw (pow-suc 0 q) (omega arith)

one_pow : (q : ℕ) → 1 ^ q ≡ 1
one_pow zero = refl
one_pow (suc q) = rw (pow-suc 1 q) (let rest : 1 ^ q ≡ 1 = one_pow q in omega arith)

one_from_IsIn : {X : Type 0} (x : X) (xs : List X) → IsIn x xs → 1 ≤ length xs
one_from_IsIn x [] h = absurd h
one_from_IsIn x (y ∷ ys) h = omega arith

in_cond : {X : Type 0} (x : X) (b : Bool) (xs ys : List X) → (b ≡ true → IsIn x xs) → IsIn x ys → IsIn x (cond b xs ys)
in_cond x true xs ys h g = h refl
in_cond x false xs ys h g = g

splits_by : {X : Type 0} (b : Bool) (xs ys zs : List X) → length xs + length ys ≡ length zs → b ≡ true → length (cond b xs zs) + length (cond b ys zs) ≤ length zs
splits_by true xs ys zs e is = omega arith
splits_by false xs ys zs e is = absurd (false≢true is)

keeps_by : {X : Type 0} (b : Bool) (xs ys zs : List X) → b ≡ false → (length (cond b xs zs) ≤ length zs) × (length (cond b ys zs) ≤ length zs)
keeps_by true xs ys zs is = absurd (false≢true (sym is))
keeps_by false xs ys zs is = (omega arith, omega arith)

module _ {V C L : Type 0} (coordinate : V → ℕ → C) where
  one_below : (v : V) (fs : List (Family V L)) → AllByRecursion (IsSound coordinate (v ∷ [])) fs → 1 ≤ product_by label_count fs
  one_below v [] h = omega arith
  one_below v (f ∷ fs) h =
      let first : 1 ≤ label_count f = one_from_IsIn (f.label v) f.labels (h.0.held v (inl refl)) in
      let both : 1 * 1 ≤ label_count f * product_by label_count fs = mul-le-mul first (one_below v fs h.1) in
      omega arith

  -- with no coordinate at most one point is left
  cover_none : (q : ℕ) → 1 ≤ q → HoldsAt V C L coordinate q zero
  cover_none q some [] fs apart sound covers = rw (zero_pow q some) (omega arith)
  cover_none q some (v ∷ []) fs apart sound covers = rw (one_pow q) (one_below v fs sound)
  cover_none q some (v ∷ (u ∷ vs)) fs apart sound covers = absurd (apart.0 u (inl refl) (λ i below. absurd (omega arith)))

module _ {V C L : Type 0} (coordinate : V → ℕ → C)
    (same_place : C → C → Bool) (place_decides : (a b : C) → Decides (same_place a b) (a ≡ b))
    (same_label : L → L → Bool) (label_decides : (a b : L) → Decides (same_label a b) (a ≡ b)) where
  -- the point's last coordinate is this one
  here : ℕ → C → V → Bool
  here d x u = same_place (coordinate u d) x

  -- a point of the slice has this label
  seen : List V → Family V L → L → Bool
  seen slice f w = list_any (λ u. same_label (f.label u) w) slice

  -- the family at the slice, and at the rest: its labels are split where its set has the last coordinate
  at_slice : ℕ → List V → Family V L → Family V L
  at_slice d slice f = record f { labels = cond (f.has d) (filter (seen slice f) f.labels) f.labels }

  at_rest : ℕ → List V → Family V L → Family V L
  at_rest d slice f = record f { labels = cond (f.has d) (filter (λ w. not (seen slice f w)) f.labels) f.labels }

  slice_sound : (d : ℕ) (x : C) (points : List V) (f : Family V L) → IsSound coordinate points f
      → IsSound coordinate (filter (here d x) points) (at_slice d (filter (here d x) points) f)
  unfolding at_slice seen
  slice_sound d x points f sound =
      let slice = filter (here d x) points in
      record {
        held = λ v inside.
            let listed : IsIn (f.label v) f.labels = sound.held v (IsIn-from_filter (here d x) v points inside).0 in
            in_cond (f.label v) (f.has d) (filter (seen slice f) f.labels) f.labels
            (λ split. IsIn-filter (seen slice f) (f.label v) f.labels listed
            (list_any-from_IsIn (λ u. same_label (f.label u) (f.label v)) v slice inside ((label_decides (f.label v) (f.label v)).1 refl)))
            listed;
        fixed = λ u v in_u in_v. sound.fixed u v (IsIn-from_filter (here d x) u points in_u).0 (IsIn-from_filter (here d x) v points in_v).0;
      }

  rest_sound : (d : ℕ) (x : C) (points : List V) (f : Family V L) → IsSound coordinate points f
      → IsSound coordinate (filter (λ u. not (here d x u)) points) (at_rest d (filter (here d x) points) f)
  unfolding at_rest seen here
  rest_sound d x points f sound =
      let slice = filter (here d x) points in
      let away : V → Bool = λ u. not (here d x u) in
      record {
        held = λ v inside.
            let outside : IsIn v points × (away v ≡ true) = IsIn-from_filter away v points inside in
            let listed : IsIn (f.label v) f.labels = sound.held v outside.0 in
            in_cond (f.label v) (f.has d) (filter (λ w. not (seen slice f w)) f.labels) f.labels
            (λ split. IsIn-filter (λ w. not (seen slice f w)) (f.label v) f.labels listed
            (not_true (seen slice f (f.label v))
            (λ also.
            let u : (u : V) × IsIn u slice × (same_label (f.label u) (f.label v) ≡ true) = IsIn-from_list_any (λ u. same_label (f.label u) (f.label v)) slice also in
            let within : IsIn u.0 points × (here d x u.0 ≡ true) = IsIn-from_filter (here d x) u.0 points u.1 in
            let at_one : coordinate u.0 d ≡ coordinate v d = sound.fixed u.0 v within.0 outside.0 ((label_decides (f.label u.0) (f.label v)).0 u.2) d split in
            let at_x : coordinate v d ≡ x = sym at_one ∙ (place_decides (coordinate u.0 d) x).0 within.1 in
            true_and_not (here d x v) ((place_decides (coordinate v d) x).1 at_x) outside.1)))
            listed;
        fixed = λ u v in_u in_v. sound.fixed u v (IsIn-from_filter away u points in_u).0 (IsIn-from_filter away v points in_v).0;
      }

  all_map : (change : Family V L → Family V L) (before after : List V) → ((f : Family V L) → IsSound coordinate before f → IsSound coordinate after (change f))
      → (fs : List (Family V L)) → AllByRecursion (IsSound coordinate before) fs → AllByRecursion (IsSound coordinate after) (map change fs)
  all_map change before after each [] h = tt
  all_map change before after each (f ∷ fs) h = (each f h.0, all_map change before after each fs h.1)

  -- a change that keeps the sets keeps the cover
  count-map : (change : Family V L → Family V L) (i : ℕ) → ((f : Family V L) → (change f).has i ≡ f.has i)
      → (fs : List (Family V L)) → count_by (λ f. f.has i) (map change fs) ≡ count_by (λ f. f.has i) fs
  count-map change i same [] = refl
  count-map change i same (f ∷ fs) =
      sum_by-cons (λ f. cond (f.has i) 1 0) (change f) (map change fs)
      ∙ ap (λ n. cond ((change f).has i) 1 0 + n) (count-map change i same fs)
      ∙ ap (λ t. cond t 1 0 + count_by (λ f. f.has i) fs) (same f)
      ∙ sym (sum_by-cons (λ f. cond (f.has i) 1 0) f fs)

  -- points that are apart at d + 1 coordinates are so under a filter
  kept_apart : (d : ℕ) (p : V → Bool) (points : List V) → AreApart coordinate d points → AreApart coordinate d (filter p points)
  kept_apart d p [] apart = tt
  kept_apart d p (v ∷ vs) apart = by_case (p v) (kept_apart d p vs apart.1)
    where
      by_case : (t : Bool) → AreApart coordinate d (filter p vs) → AreApart coordinate d (cond t (v ∷ filter p vs) (filter p vs))
      by_case true rest = (λ u inside. apart.0 u (IsIn-from_filter p u vs inside).0, rest)
      by_case false rest = rest

  -- points of one slice that are apart at d + 1 coordinates are apart at the first d
  slice_apart : (d : ℕ) (x : C) (points : List V) → ((v : V) → IsIn v points → coordinate v d ≡ x) → AreApart coordinate (suc d) points → AreApart coordinate d points
  slice_apart d x [] one apart = tt
  slice_apart d x (v ∷ vs) one apart = (
    λ u inside agree. apart.0 u inside
        (λ i below.
        ⊎_elim
        (λ less. agree i less)
        (λ last. let is : i ≡ d = omega arith in
        subst (λ j. coordinate v j ≡ coordinate u j) (sym is) (one v (inl refl) ∙ sym (one u (inr inside))))
        (cases_lt i d)),
    slice_apart d x vs (λ w inside. one w (inr inside)) apart.1,
  )

  in_slice : (d : ℕ) (x : C) (points : List V) (v : V) → IsIn v (filter (here d x) points) → coordinate v d ≡ x
  unfolding here
  in_slice d x points v inside = (place_decides (coordinate v d) x).0 (IsIn-from_filter (here d x) v points inside).1

  -- the labels at the slice and at the rest are those of the family, where its set has the last coordinate
  label_splits : (d : ℕ) (slice : List V) (f : Family V L) → f.has d ≡ true → label_count (at_slice d slice f) + label_count (at_rest d slice f) ≤ label_count f
  unfolding at_slice at_rest
  label_splits d slice f is =
      splits_by (f.has d) (filter (seen slice f) f.labels) (filter (λ w. not (seen slice f w)) f.labels) f.labels
      (length-filter_both (seen slice f) (λ w. not (seen slice f w)) (λ w. refl) f.labels) is

  label_keeps : (d : ℕ) (slice : List V) (f : Family V L) → f.has d ≡ false → (label_count (at_slice d slice f) ≤ label_count f) × (label_count (at_rest d slice f) ≤ label_count f)
  unfolding at_slice at_rest
  label_keeps d slice f is = keeps_by (f.has d) (filter (seen slice f) f.labels) (filter (λ w. not (seen slice f w)) f.labels) f.labels is

  same_sets : (d : ℕ) (slice : List V) (i : ℕ) (f : Family V L) → ((at_slice d slice f).has i ≡ f.has i) × ((at_rest d slice f).has i ≡ f.has i)
  unfolding at_slice at_rest
  same_sets d slice i f = (refl, refl)

  -- a slice and the rest: what holds of each holds of both together
  joined : (q d : ℕ) (slice rest : List V) (n : ℕ) → n ≡ length slice + length rest → (fs : List (Family V L)) → q ≤ count_by (λ f. f.has d) fs
      → length slice ^ q ≤ product_by label_count (map (at_slice d slice) fs)
      → length rest ^ q ≤ product_by label_count (map (at_rest d slice) fs)
      → n ^ q ≤ product_by label_count fs
  joined q d slice rest n is fs covered left right =
      rw is
      (mixed (λ f. f.has d) (λ f. label_count (at_slice d slice f)) (λ f. label_count (at_rest d slice f)) label_count
      (label_splits d slice) (label_keeps d slice) q (length slice) (length rest) fs covered
      (rw (product_by-map label_count (at_slice d slice) fs) at left) (rw (product_by-map label_count (at_rest d slice) fs) at right))

  own_slice : (d : ℕ) (v : V) (vs : List V) → 1 ≤ length (filter (here d (coordinate v d)) (v ∷ vs))
  unfolding here
  own_slice d v vs =
      let p = here d (coordinate v d) in
      one_from_IsIn v (filter p (v ∷ vs)) (IsIn-filter p v (v ∷ vs) (inl refl) ((place_decides (coordinate v d) (coordinate v d)).1 refl))

  -- one slice after another: m bounds how many points there are
  cover_slices : (q d : ℕ) → 1 ≤ q → HoldsAt V C L coordinate q d → (m : ℕ) (points : List V) → length points ≤ m → (fs : List (Family V L)) → AreApart coordinate (suc d) points
      → AllByRecursion (IsSound coordinate points) fs → Covers q (suc d) fs → length points ^ q ≤ product_by label_count fs
  cover_slices q d some below m [] few fs apart sound covers = rw (zero_pow q some) (omega arith)
  cover_slices q d some below zero (v ∷ vs) few fs apart sound covers = absurd (omega arith)
  cover_slices q d some below (suc m) (v ∷ vs) few fs apart sound covers =
      let x = coordinate v d in
      let points = v ∷ vs in
      let slice = filter (here d x) points in
      let rest = filter (λ u. not (here d x u)) points in
      let both : length slice + length rest ≡ length points = length-filter_both (here d x) (λ u. not (here d x u)) (λ u. refl) points in
      let first : 1 ≤ length slice = own_slice d v vs in
      joined q d slice rest (length points) (sym both) fs (covers d (omega arith))
      (below slice (map (at_slice d slice) fs)
      (slice_apart d x slice (in_slice d x points) (kept_apart (suc d) (here d x) points apart))
      (all_map (at_slice d slice) points slice (slice_sound d x points) fs sound)
      (λ i less. rw (count-map (at_slice d slice) i (λ f. (same_sets d slice i f).0) fs) (covers i (omega arith))))
      (cover_slices q d some below m rest (omega arith) (map (at_rest d slice) fs)
      (kept_apart (suc d) (λ u. not (here d x u)) points apart)
      (all_map (at_rest d slice) points rest (rest_sound d x points) fs sound)
      (λ i less. rw (count-map (at_rest d slice) i (λ f. (same_sets d slice i f).1) fs) (covers i less)))

  -- the uniform cover inequality without weights
  pub cover : (q d : ℕ) → 1 ≤ q → HoldsAt V C L coordinate q d
  cover q zero some = cover_none coordinate q some
  cover q (suc d) some = λ points fs apart sound covers. cover_slices q d some (cover q d some) (length points) points (omega arith) fs apart sound covers
