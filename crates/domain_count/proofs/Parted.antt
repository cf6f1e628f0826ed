-- The points of a nest, parted by the values of its first variables.
use Rattle.std.proofs.Common.{◌≡◌, refl, sym, ◌∙◌, ap, ℕ, zero, suc, List, [], ◌∷◌, ◌++◌, map, drop, take}
use Rattle.std.proofs.Math.IntN.{ℤ}
use Rattle.std.specs.Prelude.{flat_map}
use Rattle.std.proofs.lemmas.Grind.{flat_map-append}
use Rattle.std.proofs.lemmas.Simd.{map-map}
use Rattle.std.proofs.lemmas.List.{append_assoc, append-nil, map-append}
use Rattle.std.proofs.lemmas.List.Folds.{flat_map-map}
use Rattle.iolb_model.specs.Form.{AffineForm, form_value}
use Rattle.iolb_model.specs.Execution.{range}
use Rattle.domain_count.specs.Points.{points, points_over, PointsArePartedByFront}

pub flat_map-same : {A B : Type 0} (f g : A → List B) → ((x : A) → f x ≡ g x) → (xs : List A) → flat_map f xs ≡ flat_map g xs
flat_map-same f g same [] = refl
flat_map-same f g same (x ∷ xs) = ap (λ l. l ++ flat_map f xs) (same x) ∙ ap (λ l. g x ++ l) (flat_map-same f g same xs)

pub flat_map-flat_map : {A B C : Type 0} (f : A → List B) (g : B → List C) (xs : List A) → flat_map g (flat_map f xs) ≡ flat_map (λ x. flat_map g (f x)) xs
flat_map-flat_map f g [] = refl
flat_map-flat_map f g (x ∷ xs) = flat_map-append g (f x) (flat_map f xs) ∙ ap (λ l. flat_map g (f x) ++ l) (flat_map-flat_map f g xs)

pub map-flat_map : {A B C : Type 0} (f : A → List B) (h : B → C) (xs : List A) → map h (flat_map f xs) ≡ flat_map (λ x. map h (f x)) xs
map-flat_map f h [] = refl
map-flat_map f h (x ∷ xs) = map-append h (f x) (flat_map f xs) ∙ ap (λ l. map h (f x) ++ l) (map-flat_map f h xs)

same-list : (xs : List (List ℤ)) → map (λ (x : List ℤ). x) xs ≡ xs
same-list [] = refl
same-list (x ∷ xs) = ap (λ l. x ∷ l) (same-list xs)

module _ (outer : ℕ) (bounds : AffineForm × AffineForm) (nest : List (AffineForm × AffineForm)) (before : List ℤ) where
  abbrev values : List ℤ
  values = range (form_value bounds.0 before) (form_value bounds.1 before)

  -- the points of the first variables behind a value
  abbrev behind : ℤ → List (List ℤ)
  behind v = map (λ (x : List ℤ). v ∷ x) (points (take outer nest) (before ++ v ∷ []))

  -- a value before the points over a point is the points over the point with the value before it
  with-value : (v : ℤ) (t : List ℤ) → map (λ (x : List ℤ). v ∷ x) (points_over outer nest (before ++ v ∷ []) t) ≡ points_over (suc outer) (bounds ∷ nest) before (v ∷ t)
  with-value v t =
      map-map (λ (x : List ℤ). v ∷ x) (λ (x : List ℤ). t ++ x) (points (drop outer nest) ((before ++ v ∷ []) ++ t))
      ∙ ap (λ (l : List ℤ). map (λ (x : List ℤ). v ∷ t ++ x) (points (drop outer nest) l)) (append_assoc before (v ∷ []) t)

  pub parted-value : ((v : ℤ) → points nest (before ++ v ∷ []) ≡ flat_map (points_over outer nest (before ++ v ∷ [])) (points (take outer nest) (before ++ v ∷ [])))
      → (v : ℤ) → map (λ (x : List ℤ). v ∷ x) (points nest (before ++ v ∷ [])) ≡ flat_map (points_over (suc outer) (bounds ∷ nest) before) (behind v)
  parted-value parted v =
      ap (map (λ (x : List ℤ). v ∷ x)) (parted v)
      ∙ map-flat_map (points_over outer nest (before ++ v ∷ [])) (λ (x : List ℤ). v ∷ x) (points (take outer nest) (before ++ v ∷ []))
      ∙ flat_map-same (λ (t : List ℤ). map (λ (x : List ℤ). v ∷ x) (points_over outer nest (before ++ v ∷ []) t)) (λ (t : List ℤ). points_over (suc outer) (bounds ∷ nest) before (v ∷ t)) (with-value v)
      (points (take outer nest) (before ++ v ∷ []))
      ∙ sym (flat_map-map (points_over (suc outer) (bounds ∷ nest) before) (λ (x : List ℤ). v ∷ x) (points (take outer nest) (before ++ v ∷ [])))

pub points-parted : PointsArePartedByFront
points-parted zero nest before =
    sym (append-nil (points_over zero nest before []) ∙ same-list (points nest (before ++ [])) ∙ ap (points nest) (append-nil before))
points-parted (suc outer) [] before = refl
points-parted (suc outer) (bounds ∷ nest) before =
    flat_map-same (λ (v : ℤ). map (λ (x : List ℤ). v ∷ x) (points nest (before ++ v ∷ []))) (λ (v : ℤ). flat_map (points_over (suc outer) (bounds ∷ nest) before) (behind outer bounds nest before v))
    (parted-value outer bounds nest before (λ v. points-parted outer nest (before ++ v ∷ []))) (range (form_value bounds.0 before) (form_value bounds.1 before))
    ∙ sym (flat_map-flat_map (behind outer bounds nest before) (points_over (suc outer) (bounds ∷ nest) before) (range (form_value bounds.0 before) (form_value bounds.1 before)))
