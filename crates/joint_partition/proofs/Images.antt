-- The images of a sound term's points differ: within a part by the inverse of its map, between two parts as is shown.
use Rattle.std.proofs.Common.{◌≡◌, refl, sym, ◌∙◌, ap, subst, inl, inr, ℕ, ◌-◌, Bool, true, false, List, [], ◌∷◌, ◌++◌, length, map, arith}
use Rattle.std.specs.Prelude.{flat_map, drop}
use Rattle.std.specs.List.{AllByRecursion, IsDistinct}
use Rattle.std.proofs.Math.IntN.{ℤ, ◌+ℤ◌}
use Rattle.std.proofs.lemmas.Int.{ints}
use Rattle.std.proofs.lemmas.List.{length-map}
use Rattle.base_laws.proofs.Lists.{All-append, All-map, cons-same}
use Rattle.iolb_model.specs.Form.{AffineForm, dot, form_value}
use Rattle.iolb_model.specs.Program.{AffineProgram}
use Rattle.iolb_model.specs.Bound.{IsAdmitted}
use Rattle.affine_form.specs.Substitution.{values_at}
use Rattle.domain_count.specs.Points.{points}
use Rattle.execution_laws.specs.Inverse.{IsScaledInverse}
use Rattle.execution_laws.proofs.Different.{Differ, Differ-append}
use Rattle.execution_laws.proofs.Members.{Contains-member, Member}
use Rattle.execution_laws.proofs.Ordered.{All-from, All-member, Member-flat_map_from, Member-map_from}
use Rattle.execution_laws.proofs.Undone.{dot-append, same_point as one-point}
use Rattle.k_partition.proofs.TermCovers.{mapped-twice}
use Rattle.reuse_paths.specs.MatrixRows.{matrix_rows}
use Rattle.reuse_paths.proofs.NestPoints.{points-differ, points-long}
use Rattle.stretch_laws.specs.Reuse.{CountedPoint}
use Rattle.stretch_laws.proofs.Points.{images}
use Rattle.uniform_cover.specs.Projection.{same_point}
use Rattle.uniform_cover.proofs.ProjectionLemmas.{point_decides}
use Rattle.joint_partition.specs.JointWords.{AreImagesApart, ArePartsApart, IsSoundPart, counted_point, joint_points, map_rows, part_points}
use Rattle.joint_partition.specs.Term.{JointTerm, PartTerm}

-- ---- lists whose members differ

differ-mapped : (f : List ℤ → List ℤ) (xs : List (List ℤ)) → ((x y : List ℤ) → Member x xs → Member y xs → f x ≡ f y → x ≡ y) → Differ xs → Differ (map f xs)
differ-mapped f [] one h = tt
differ-mapped f (x ∷ xs) one h = (apart xs (λ y m. one x y (inl refl) (inr m)) h.0, differ-mapped f xs (λ a b m n. one a b (inr m) (inr n)) h.1) where
  apart : (ys : List (List ℤ)) → ((y : List ℤ) → Member y ys → f x ≡ f y → x ≡ y) → AllByRecursion (λ (y : List ℤ). x ≡ y → ⊥) ys
      → AllByRecursion (λ (v : List ℤ). f x ≡ v → ⊥) (map f ys)
  apart [] same g = tt
  apart (y ∷ ys) same g = (λ e. g.0 (same y (inl refl) e), apart ys (λ z m. same z (inr m)) g.1)

distinct-of : (xs : List (List ℤ)) → Differ xs → IsDistinct same_point xs
unfolding IsDistinct
distinct-of [] h = tt
distinct-of (x ∷ xs) h = (apart xs h.0, distinct-of xs h.1) where
  other : (y : List ℤ) → (x ≡ y → ⊥) → same_point x y ≡ false
  other y differ = by (same_point x y) refl where
    by : (b : Bool) → same_point x y ≡ b → same_point x y ≡ false
    by false e = e
    by true e = absurd (differ ((point_decides x y).0 e))

  apart : (ys : List (List ℤ)) → AllByRecursion (λ (y : List ℤ). x ≡ y → ⊥) ys → AllByRecursion (λ (y : List ℤ). same_point x y ≡ false) ys
  apart [] g = tt
  apart (y ∷ ys) g = (other y g.0, apart ys g.1)

module _ (program : AffineProgram) (parameters : List ℤ) (admitted : IsAdmitted program parameters) where
  -- the images of a part's points
  abbrev image_at : PartTerm → List ℤ → List ℤ
  image_at part values = values_at part.image (parameters ++ values)

  abbrev part_images : PartTerm → List (List ℤ)
  part_images part = map (image_at part) (points part.nest parameters)

  -- ---- within a part

  rows-same : (forms : List AffineForm) (x y : List ℤ) → values_at forms (parameters ++ x) ≡ values_at forms (parameters ++ y)
      → map (λ (row : List ℤ). dot row x) (map (λ (form : AffineForm). drop (length program.parameters) form.coefficients) forms)
      ≡ map (λ (row : List ℤ). dot row y) (map (λ (form : AffineForm). drop (length program.parameters) form.coefficients) forms)
  rows-same [] x y e = refl
  rows-same (form ∷ forms) x y e =
      cons-same _ _ _ _
      (subst (λ (n : ℕ). dot (drop n form.coefficients) x ≡ dot (drop n form.coefficients) y) admitted.each
      (loops (dot form.coefficients (parameters ++ x)) (dot form.coefficients (parameters ++ y)) (dot form.coefficients parameters) form.constant
      (dot (drop (length parameters) form.coefficients) x) (dot (drop (length parameters) form.coefficients) y)
      (dot-append form.coefficients parameters x) (dot-append form.coefficients parameters y) (first e)))
      (rows-same forms x y (rest e)) where
        first : {a b : ℤ} {xs ys : List ℤ} → a ∷ xs ≡ b ∷ ys → a ≡ b
        first p = cc

        rest : {a b : ℤ} {xs ys : List ℤ} → a ∷ xs ≡ b ∷ ys → xs ≡ ys
        rest p = cc

        loops : (u v p c a b : ℤ) → u ≡ p +ℤ a → v ≡ p +ℤ b → u +ℤ c ≡ v +ℤ c → a ≡ b
        loops u v p c a b d f g = omega (arith, ints)

  module _ (dimensions : ℕ) (part : PartTerm) (sound : IsSoundPart program dimensions part) where
    long : (x : List ℤ) → Member x (points part.nest parameters) → length x ≡ length part.nest
    long x member = All-member (λ (u : List ℤ). length u ≡ length part.nest) (points part.nest parameters) x (points-long part.nest parameters) member

    one-image : (x y : List ℤ) → Member x (points part.nest parameters) → Member y (points part.nest parameters) → image_at part x ≡ image_at part y → x ≡ y
    one-image x y m n e =
        one-point (part.scale - 1) (length part.nest) (matrix_rows part.inverse) (map_rows program part) x y (long x m) (long y n)
        (subst (λ (s : ℕ). IsScaledInverse s (length part.nest) (matrix_rows part.inverse) (map_rows program part)) (omega (arith, sound.positive)) sound.undone)
        (rows-same part.image x y e)

    images-differ : Differ (part_images part)
    images-differ = differ-mapped (image_at part) (points part.nest parameters) one-image (points-differ part.nest parameters)

  -- ---- between parts

  parts-cross : (part : PartTerm) (parts : List PartTerm) → AllByRecursion (AreImagesApart program part) parts
      → AllByRecursion (λ (x : List ℤ). AllByRecursion (λ (y : List ℤ). x ≡ y → ⊥) (flat_map part_images parts)) (part_images part)
  parts-cross part parts apart =
      All-from (λ (x : List ℤ). AllByRecursion (λ (y : List ℤ). x ≡ y → ⊥) (flat_map part_images parts)) (part_images part)
      (λ x m. All-from (λ (y : List ℤ). x ≡ y → ⊥) (flat_map part_images parts) (λ y n e.
      let from = Member-map_from (image_at part) x (points part.nest parameters) m in
      let other = Member-flat_map_from part_images y parts n in
      let to = Member-map_from (image_at other.0) y (points other.0.nest parameters) other.1.1 in
      All-member (AreImagesApart program part) parts other.0 apart other.1.0 parameters from.0 to.0 admitted (Contains-member from.0 (points part.nest parameters) from.1.0)
      (Contains-member to.0 (points other.0.nest parameters) to.1.0) (sym from.1.1 ∙ e ∙ to.1.1)))

  all-differ : (dimensions : ℕ) (parts : List PartTerm) → AllByRecursion (IsSoundPart program dimensions) parts → ArePartsApart program parts → Differ (flat_map part_images parts)
  all-differ dimensions [] sound apart = tt
  all-differ dimensions (part ∷ parts) sound apart =
      Differ-append (part_images part) (flat_map part_images parts) (images-differ dimensions part sound.0) (all-differ dimensions parts sound.1 apart.1) (parts-cross part parts apart.0)

  images-are : (parts : List PartTerm) → images (flat_map (part_points program parameters) parts) ≡ flat_map part_images parts
  images-are [] = refl
  images-are (part ∷ parts) =
      map-append (part_points program parameters part) (flat_map (part_points program parameters) parts)
      ∙ ap (λ (l : List (List ℤ)). l ++ images (flat_map (part_points program parameters) parts))
      (mapped-twice (λ (point : CountedPoint). point.image) (counted_point program parameters part) (points part.nest parameters))
      ∙ ap (λ (l : List (List ℤ)). part_images part ++ l) (images-are parts) where
        map-append : (xs ys : List CountedPoint) → images (xs ++ ys) ≡ images xs ++ images ys
        map-append [] ys = refl
        map-append (x ∷ xs) ys = ap (λ (l : List (List ℤ)). x.image ∷ l) (map-append xs ys)

  pub images-distinct : (dimensions : ℕ) (term : JointTerm) → AllByRecursion (IsSoundPart program dimensions) term.parts → ArePartsApart program term.parts
      → IsDistinct same_point (images (joint_points program term parameters))
  images-distinct dimensions term sound apart =
      subst (IsDistinct same_point) (sym (images-are term.parts)) (distinct-of (flat_map part_images term.parts) (all-differ dimensions term.parts sound apart))

  -- and have so many coordinates
  pub images-long : (dimensions : ℕ) (parts : List PartTerm) → AllByRecursion (IsSoundPart program dimensions) parts
      → AllByRecursion (λ (point : CountedPoint). length point.image ≡ dimensions) (flat_map (part_points program parameters) parts)
  images-long dimensions [] sound = tt
  images-long dimensions (part ∷ parts) sound =
      All-append (λ (point : CountedPoint). length point.image ≡ dimensions) (part_points program parameters part) (flat_map (part_points program parameters) parts)
      (All-map (λ (point : CountedPoint). length point.image ≡ dimensions) (counted_point program parameters part) (points part.nest parameters)
      (All-from (λ (x : List ℤ). length (image_at part x) ≡ dimensions) (points part.nest parameters)
      (λ x m. length-map part.image (λ (form : AffineForm). form_value form (parameters ++ x)) ∙ sound.0.long)))
      (images-long dimensions parts sound.1)
