-- The projections of a finite set of points cover it: the literal form of the uniform cover inequality.
use Rattle.std.proofs.Common.{◌≡◌, ℕ, zero, suc, ◌+◌, ◌^◌, ◌<◌, ◌≤◌, Bool, true, false, cond, ◌&&◌, List, [], ◌∷◌, length, get_or, map, sum_by, arith, sym, refl, inl, inr, ap, ◌∙◌, subst}
use Rattle.std.specs.Prelude.{ℤ, pos}
use Rattle.std.specs.Bool.{Decides}
use Rattle.std.specs.Cmp.Lexicographic.{pointwise}
use Rattle.std.specs.List.{AllByRecursion, Contains}
use Rattle.std.specs.Ordering.{int_eq}
use Rattle.std.specs.Set.{unique_keys, is_member}
use Rattle.std.proofs.lemmas.Bool.{false≢true, and_parts}
use Rattle.std.proofs.lemmas.Bool.Decides.{Decides-int_eq}
use Rattle.std.proofs.lemmas.List.{ext_get_or}
use Rattle.std.proofs.lemmas.List.Sums.{sum_by-cons}
use Rattle.uniform_cover.specs.Products.{product_by}
use Rattle.uniform_cover.specs.Cover.{Family, Agree, FixesSet, HasLabels, weight_at}
use Rattle.uniform_cover.specs.Projection.{CoordinateSet, same_point, restrict, projection, ProjectionInequality}
use Rattle.uniform_cover.proofs.Members.{IsIn, IsIn-from_Contains, Contains-from_IsIn, IsIn-from_list_any}
use Rattle.uniform_cover.proofs.ProductLemmas.{product_by-map}
use Rattle.uniform_cover.proofs.WeightLemmas.{cover_inequality}

-- where E decides equality, so does its comparison of lists
module _ {K : Type 0} (eq : K → K → Bool) (decides : (a b : K) → Decides (eq a b) (a ≡ b)) where
  lists_same : (xs ys : List K) → pointwise eq xs ys ≡ true → xs ≡ ys
  lists_same [] [] h = refl
  lists_same [] (y ∷ ys) h = absurd (false≢true h)
  lists_same (x ∷ xs) [] h = absurd (false≢true h)
  lists_same (x ∷ xs) (y ∷ ys) h =
      let parts : (eq x y ≡ true) × (pointwise eq xs ys ≡ true) = and_parts (eq x y) (pointwise eq xs ys) h in
      ap (λ z. z ∷ xs) ((decides x y).0 parts.0) ∙ ap (λ zs. y ∷ zs) (lists_same xs ys parts.1)

  list_itself : (xs : List K) → pointwise eq xs xs ≡ true
  list_itself [] = refl
  list_itself (x ∷ xs) = ap (λ t. t && pointwise eq xs xs) ((decides x x).1 refl) ∙ list_itself xs

  lists_decide : (xs ys : List K) → Decides (pointwise eq xs ys) (xs ≡ ys)
  lists_decide xs ys = (lists_same xs ys, λ is. subst (λ zs. pointwise eq xs zs ≡ true) is (list_itself xs))

  -- each element is among the unique ones
  unique_cases : (x y : K) (ys : List K) (t : Bool) → is_member eq ys y ≡ t → (IsIn x ys → IsIn x (unique_keys eq ys))
      → IsIn x (y ∷ ys) → IsIn x (cond t (unique_keys eq ys) (y ∷ unique_keys eq ys))
  unique_cases x y ys true is rest h =
      elim h [
        | inl same ↦ let z : (z : K) × IsIn z ys × (eq y z ≡ true) = IsIn-from_list_any (eq y) ys is in
            rest (subst (λ w. IsIn w ys) (sym (same ∙ (decides y z.0).0 z.2)) z.1)
        | inr more ↦ rest more
      ]
  unique_cases x y ys false is rest h = elim h [ inl same ↦ inl same | inr more ↦ inr (rest more) ]

  IsIn-unique_keys : (x : K) (xs : List K) → IsIn x xs → IsIn x (unique_keys eq xs)
  IsIn-unique_keys x [] h = absurd h
  IsIn-unique_keys x (y ∷ ys) h = unique_cases x y ys (is_member eq ys y) refl (IsIn-unique_keys x ys) h

IsIn-map : {X Y : Type 0} (f : X → Y) (x : X) (xs : List X) → IsIn x xs → IsIn (f x) (map f xs)
IsIn-map f x [] h = absurd h
IsIn-map f x (y ∷ ys) h = elim h [ inl same ↦ inl (ap f same) | inr more ↦ inr (IsIn-map f x ys more) ]

AllByRecursion-IsIn : {X : Type 0} (P : X → Type 0) (x : X) (xs : List X) → AllByRecursion P xs → IsIn x xs → P x
AllByRecursion-IsIn P x [] all h = absurd h
AllByRecursion-IsIn P x (y ∷ ys) all h = elim h [ inl same ↦ subst P (sym same) all.0 | inr more ↦ AllByRecursion-IsIn P x ys all.1 more ]

-- what a restricted point begins with is its first coordinate, where the set has it
restricted_parts : (t : Bool) (x y : ℤ) (p r : List ℤ) → cond t (x ∷ p) p ≡ cond t (y ∷ r) r → (p ≡ r) × (t ≡ true → x ≡ y)
restricted_parts true x y p r same = (cc, λ in_set. (cc))
restricted_parts false x y p r same = (same, λ in_set. absurd (false≢true in_set))

-- points as long that agree when they are restricted agree at each index of the set
restricted_same : (has : ℕ → Bool) (p r : List ℤ) → length p ≡ length r → restrict has p ≡ restrict has r → (i : ℕ) → i < length p → has i ≡ true → get_or p i (pos 0) ≡ get_or r i (pos 0)
restricted_same has [] r long same i below in_set = absurd (omega arith)
restricted_same has (x ∷ p) [] long same i below in_set = absurd (omega arith)
restricted_same has (x ∷ p) (y ∷ r) long same zero below in_set =
    (restricted_parts (has 0) x y (restrict (λ i. has (suc i)) p) (restrict (λ i. has (suc i)) r) same).1 in_set
restricted_same has (x ∷ p) (y ∷ r) long same (suc i) below in_set =
    restricted_same (λ i. has (suc i)) p r (omega arith)
    (restricted_parts (has 0) x y (restrict (λ i. has (suc i)) p) (restrict (λ i. has (suc i)) r) same).0 i (omega arith) in_set

coordinate_of : List ℤ → ℕ → ℤ
coordinate_of p i = get_or p i (pos 0)

-- `same_point` decides equality
pub point_decides : (p r : List ℤ) → Decides (same_point p r) (p ≡ r)
point_decides = lists_decide int_eq Decides-int_eq

-- the family of a set of coordinates: a point's label is its restriction
restrictions : List (List ℤ) → CoordinateSet → Family (List ℤ) (List ℤ)
restrictions points s = record { has = s.has; weight = s.weight; label = restrict s.has; labels = projection s.has points }

module _ (d : ℕ) (points : List (List ℤ)) (long : AllByRecursion (λ p. length p ≡ d) points) where
  length_of : (p : List ℤ) → Contains points p → length p ≡ d
  length_of p inside = AllByRecursion-IsIn (λ p. length p ≡ d) p points long (IsIn-from_Contains p points inside)

  all_fixed : (sets : List CoordinateSet) → AllByRecursion (FixesSet coordinate_of d points) (map (restrictions points) sets)
  unfolding coordinate_of restrictions
  all_fixed [] = tt
  all_fixed (s ∷ sets) = (
    λ p r in_p in_r same i below in_set.
        let long_p : length p ≡ d = length_of p in_p in
        let long_r : length r ≡ d = length_of r in_r in
        restricted_same s.has p r (omega arith) same i (omega arith) in_set,
    all_fixed sets,
  )

  all_held : (sets : List CoordinateSet) → AllByRecursion (HasLabels points) (map (restrictions points) sets)
  unfolding restrictions
  all_held [] = tt
  all_held (s ∷ sets) = (
    λ p inside.
        let images = map (restrict s.has) points in
        Contains-from_IsIn (restrict s.has p) (projection s.has points)
        (IsIn-unique_keys same_point point_decides (restrict s.has p) images (IsIn-map (restrict s.has) p points (IsIn-from_Contains p points inside))),
    all_held sets,
  )

  weight-restrictions : (i : ℕ) (sets : List CoordinateSet) → weight_at i (map (restrictions points) sets) ≡ sum_by (λ s. cond (s.has i) s.weight 0) sets
  unfolding restrictions
  weight-restrictions i [] = refl
  weight-restrictions i (s ∷ sets) =
      sum_by-cons (λ f. cond (f.has i) f.weight 0) (restrictions points s) (map (restrictions points) sets)
      ∙ ap (λ n. cond (s.has i) s.weight 0 + n) (weight-restrictions i sets)
      ∙ sym (sum_by-cons (λ s. cond (s.has i) s.weight 0) s sets)

  product-restrictions : (sets : List CoordinateSet) → product_by (λ f. length f.labels ^ f.weight) (map (restrictions points) sets) ≡ product_by (λ s. length (projection s.has points) ^ s.weight) sets
  unfolding restrictions
  product-restrictions sets = product_by-map (λ f. length f.labels ^ f.weight) (restrictions points) sets

  told_apart : (p r : List ℤ) → Contains points p → Contains points r → Agree coordinate_of d p r → p ≡ r
  unfolding coordinate_of
  told_apart p r in_p in_r agree =
      let long_p : length p ≡ d = length_of p in_p in
      let long_r : length r ≡ d = length_of r in_r in
      ext_get_or (pos 0) p r (omega arith) (λ i below. agree i (omega arith))

pub projection_inequality : ProjectionInequality
projection_inequality q d points sets some long distinct covered =
    let families = map (restrictions points) sets in
    let all : length points ^ q ≤ product_by (λ f. length f.labels ^ f.weight) families =
    cover_inequality same_point point_decides int_eq Decides-int_eq same_point point_decides q d coordinate_of points families
    (record {
      positive = some;
      distinct = distinct;
      told_apart = told_apart d points long;
      fixed = all_fixed d points long sets;
      held = all_held d points long sets;
      covered = λ i below. rw (weight-restrictions d points long i sets) (covered i below);
    }) in
    rw (product-restrictions d points long sets) at all
