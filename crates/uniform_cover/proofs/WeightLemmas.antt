-- From the cover inequality without weights to that with weights, by as many copies of a family as its weight says.
use Rattle.std.proofs.Common.{◌≡◌, ℕ, zero, suc, ◌+◌, ◌*◌, ◌^◌, ◌<◌, ◌≤◌, Bool, true, false, cond, ◌&&◌, nat_lt, List, [], ◌∷◌, ◌++◌, length, count_by, sum_by, arith, sym, refl, inl, inr, ap, ◌∙◌}
use Rattle.std.specs.Bool.{Decides}
use Rattle.std.specs.List.{AllByRecursion, IsDistinct}
use Rattle.std.proofs.Math.ListN.{replicate}
use Rattle.std.proofs.lemmas.Bool.{false≢true, and_parts}
use Rattle.std.proofs.lemmas.Bool.Decides.{Decides-ltb}
use Rattle.std.proofs.lemmas.List.Folds.{sum_by-replicate}
use Rattle.std.proofs.lemmas.List.Sums.{sum_by-cons, sum_by-append}
use Rattle.std.proofs.Math.Nat.{mul-le-mul, mul-le-mul_left, pow-le-pow_left, pow-zero}
use Rattle.std.proofs.lemmas.Nat.{pow-add}
use Rattle.uniform_cover.specs.Products.{product_by}
use Rattle.uniform_cover.specs.Cover.{Family, Agree, FixesSet, HasLabels, weight_at, CoverInequality, CoverInequalityEach, CoverInequalitySum, CoverBoundEach, CoverBoundSum}
use Rattle.uniform_cover.proofs.Members.{IsIn, IsIn-from_Contains, Contains-from_IsIn}
use Rattle.uniform_cover.proofs.ProductLemmas.{product_by-append, product_by-replicate}
use Rattle.uniform_cover.proofs.MeanLemmas.{weighted_by}
use Rattle.uniform_cover.proofs.CoverLemmas.{label_count, AreApart, IsSound, cover}

-- the family, with its set cut to the first d coordinates
cut : {V L : Type 0} → ℕ → Family V L → Family V L
cut d f = record f { has = λ i. nat_lt i d && f.has i }

-- each family as often as its weight says
copies : {V L : Type 0} → ℕ → List (Family V L) → List (Family V L)
copies d [] = []
copies d (f ∷ fs) = replicate f.weight (cut d f) ++ copies d fs

times_one : (t s : Bool) (n : ℕ) → t ≡ true → n * cond (t && s) 1 0 ≡ cond s n 0
times_one true true n is = omega arith
times_one true false n is = omega arith
times_one false s n is = absurd (false≢true is)

module _ {V L : Type 0} where
  product-copies : (d : ℕ) (fs : List (Family V L)) → product_by label_count (copies d fs) ≡ product_by (λ f. length f.labels ^ f.weight) fs
  unfolding copies cut
  product-copies d [] = refl
  product-copies d (f ∷ fs) =
      product_by-append label_count (replicate f.weight (cut d f)) (copies d fs)
      ∙ ap (λ n. n * product_by label_count (copies d fs)) (product_by-replicate label_count f.weight (cut d f))
      ∙ ap (λ n. length f.labels ^ f.weight * n) (product-copies d fs)

  count-copies : (d i : ℕ) → i < d → (fs : List (Family V L)) → count_by (λ f. f.has i) (copies d fs) ≡ weight_at i fs
  unfolding copies cut
  count-copies d i below [] = refl
  count-copies d i below (f ∷ fs) =
      sum_by-append (λ f. cond (f.has i) 1 0) (replicate f.weight (cut d f)) (copies d fs)
      ∙ ap (λ n. n + count_by (λ f. f.has i) (copies d fs)) (sum_by-replicate (λ f. cond (f.has i) 1 0) f.weight (cut d f))
      ∙ ap (λ n. n + count_by (λ f. f.has i) (copies d fs)) (times_one (nat_lt i d) (f.has i) f.weight ((Decides-ltb i d).1 below))
      ∙ ap (λ n. cond (f.has i) f.weight 0 + n) (count-copies d i below fs)
      ∙ sym (sum_by-cons (λ f. cond (f.has i) f.weight 0) f fs)

all-append : {X : Type 0} (P : X → Type 0) (xs ys : List X) → AllByRecursion P xs → AllByRecursion P ys → AllByRecursion P (xs ++ ys)
all-append P [] ys h g = g
all-append P (x ∷ xs) ys h g = (h.0, all-append P xs ys h.1 g)

all-replicate : {X : Type 0} (P : X → Type 0) (n : ℕ) (x : X) → P x → AllByRecursion P (replicate n x)
all-replicate P zero x h = tt
all-replicate P (suc n) x h = (h, all-replicate P n x h)

module _ {V C L : Type 0} (coordinate : V → ℕ → C) where
  cut_sound : (d : ℕ) (points : List V) (f : Family V L) → FixesSet coordinate d points f → HasLabels points f → IsSound coordinate points (cut d f)
  unfolding cut
  cut_sound d points f fixed held = record {
    held = λ v inside. IsIn-from_Contains (f.label v) f.labels (held v (Contains-from_IsIn v points inside));
    fixed = λ u v in_u in_v same i in_set.
        let parts : (nat_lt i d ≡ true) × (f.has i ≡ true) = and_parts (nat_lt i d) (f.has i) in_set in
        fixed u v (Contains-from_IsIn u points in_u) (Contains-from_IsIn v points in_v) same i ((Decides-ltb i d).0 parts.0) parts.1;
  }

  copies_sound : (d : ℕ) (points : List V) (fs : List (Family V L)) → AllByRecursion (FixesSet coordinate d points) fs → AllByRecursion (HasLabels points) fs
      → AllByRecursion (IsSound coordinate points) (copies d fs)
  unfolding copies
  copies_sound d points [] fixed held = tt
  copies_sound d points (f ∷ fs) fixed held =
      all-append (IsSound coordinate points) (replicate f.weight (cut d f)) (copies d fs)
      (all-replicate (IsSound coordinate points) f.weight (cut d f) (cut_sound d points f fixed.0 held.0))
      (copies_sound d points fs fixed.1 held.1)

differs : {V : Type 0} (same : V → V → Bool) (v u : V) (vs : List V) → IsIn u vs → AllByRecursion (λ y. same v y ≡ false) vs → same v u ≡ false
differs same v u [] h all = absurd h
differs same v u (w ∷ vs) h all = elim h [ inl is ↦ ap (same v) is ∙ all.0 | inr more ↦ differs same v u vs more all.1 ]

module _ {V C : Type 0} (coordinate : V → ℕ → C) (same : V → V → Bool) (decides : (a b : V) → Decides (same a b) (a ≡ b)) where
  apart_from_distinct : (d : ℕ) (points : List V) → IsDistinct same points
      → ((u v : V) → IsIn u points → IsIn v points → Agree coordinate d u v → u ≡ v) → AreApart coordinate d points
  unfolding IsDistinct
  apart_from_distinct d [] distinct told = tt
  apart_from_distinct d (v ∷ vs) distinct told = (
    λ u inside agree. false≢true (sym (differs same v u vs inside distinct.0) ∙ (decides v u).1 (told v u (inl refl) (inr inside) agree)),
    apart_from_distinct d vs distinct.1 (λ u w in_u in_w. told u w (inr in_u) (inr in_w)),
  )

module _ {V C L : Type 0}
    (same : V → V → Bool) (point_decides : (a b : V) → Decides (same a b) (a ≡ b))
    (same_place : C → C → Bool) (place_decides : (a b : C) → Decides (same_place a b) (a ≡ b))
    (same_label : L → L → Bool) (label_decides : (a b : L) → Decides (same_label a b) (a ≡ b)) where
  -- the uniform cover inequality at any types whose values can be told apart
  pub cover_inequality : CoverInequality V C L same
  cover_inequality q d coordinate points fs cover_of =
      let plain : length points ^ q ≤ product_by label_count (copies d fs) =
      cover coordinate same_place place_decides same_label label_decides q d cover_of.positive points (copies d fs)
      (apart_from_distinct coordinate same point_decides d points cover_of.distinct
      (λ u v in_u in_v. cover_of.told_apart u v (Contains-from_IsIn u points in_u) (Contains-from_IsIn v points in_v)))
      (copies_sound coordinate d points fs cover_of.fixed cover_of.held)
      (λ i below. rw (count-copies d i below fs) (cover_of.covered i below)) in
      rw (product-copies d fs) at plain

  product_below : (k : ℕ) (fs : List (Family V L)) → AllByRecursion (λ f. length f.labels ≤ k) fs → product_by (λ f. length f.labels ^ f.weight) fs ≤ k ^ sum_by (λ f. f.weight) fs
  product_below k [] few = simp pow-zero (omega arith)
  product_below k (f ∷ fs) few =
      rw (sum_by-cons (λ f. f.weight) f fs, pow-add k f.weight (sum_by (λ f. f.weight) fs))
      (mul-le-mul (pow-le-pow_left few.0 f.weight) (product_below k fs few.1))

  pub cover_inequality_each : CoverInequalityEach V C L same
  cover_inequality_each q d k coordinate points fs cover_of few =
      let all : length points ^ q ≤ product_by (λ f. length f.labels ^ f.weight) fs = cover_inequality q d coordinate points fs cover_of in
      let below : product_by (λ f. length f.labels ^ f.weight) fs ≤ k ^ sum_by (λ f. f.weight) fs = product_below k fs few in
      omega arith

  pub cover_inequality_sum : CoverInequalitySum V C L same
  cover_inequality_sum q d k coordinate points fs cover_of few =
      let m = sum_by (λ f. f.weight) fs in
      let all : m ^ m * length points ^ q ≤ m ^ m * product_by (λ f. length f.labels ^ f.weight) fs = mul-le-mul_left (m ^ m) (cover_inequality q d coordinate points fs cover_of) in
      let mean : m ^ m * product_by (λ f. length f.labels ^ f.weight) fs ≤ product_by (λ f. f.weight ^ f.weight) fs * sum_by (λ f. length f.labels) fs ^ m = weighted_by (λ f. length f.labels) (λ f. f.weight) fs in
      let grown : product_by (λ f. f.weight ^ f.weight) fs * sum_by (λ f. length f.labels) fs ^ m ≤ product_by (λ f. f.weight ^ f.weight) fs * k ^ m = mul-le-mul_left (product_by (λ f. f.weight ^ f.weight) fs) (pow-le-pow_left few m) in
      omega arith

  pub cover_bound_each : CoverBoundEach V C L same
  cover_bound_each q d k u coordinate points fs cover_of few is_greatest =
      let below : length points ^ q ≤ k ^ sum_by (λ f. f.weight) fs = cover_inequality_each q d k coordinate points fs cover_of few in
      is_greatest.greatest (length points) (omega arith)

  pub cover_bound_sum : CoverBoundSum V C L same
  cover_bound_sum q d k u coordinate points fs cover_of few is_greatest =
      is_greatest.greatest (length points) (cover_inequality_sum q d k coordinate points fs cover_of few)
