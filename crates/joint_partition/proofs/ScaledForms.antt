-- Forms times a scale are small, and over as many variables.
use Rattle.std.proofs.Common.{◌≡◌, sym, ◌∙◌, ap, ℕ, ◌+◌, ◌<◌, ◌^◌, List, [], ◌∷◌, ◌++◌, get_or, length, map, take, pos, arith}
use Rattle.std.specs.Prelude.{slice_index_or, unsigned_abs}
use Rattle.std.specs.List.{AllByRecursion}
use Rattle.std.proofs.Math.IntN.{ℤ, ◌*ℤ◌}
use Rattle.std.proofs.lemmas.Int.{unsigned_abs-mul}
use Rattle.std.proofs.lemmas.List.{length-map, map_push, take_more}
use Rattle.base_laws.proofs.Lists.{All-at}
use Rattle.iolb_model.specs.Form.{AffineForm}
use Rattle.affine_form.specs.Combination.{scale_form}
use Rattle.affine_form.specs.Form.{IsSmall, IsSmallForm}
use Rattle.affine_form.specs.Rows.{IsSmallOver}
use Rattle.affine_form.specs.System.{AllOver}
use Rattle.affine_form.proofs.Sizes.{product-below}
use Rattle.iolb_model.specs.declared.limits.TheConstants.{NUMBER_SIZE, PUT_SIZE}
use Rattle.joint_partition.specs.Term.{no_form}

-- a scale of 32 bits times a small number
pub product-small : (scale : ℕ) (x : ℤ) → scale < 2 ^ 32 → unsigned_abs x < NUMBER_SIZE → unsigned_abs (pos scale *ℤ x) < PUT_SIZE
product-small scale x few small = omega (arith, unsigned_abs-mul (pos scale) x, product-below (pos scale) x (2 ^ 32) NUMBER_SIZE few small)

pub numbers-small : (scale : ℕ) (xs : List ℤ) → scale < 2 ^ 32 → AllByRecursion (IsSmall NUMBER_SIZE) xs → AllByRecursion (IsSmall PUT_SIZE) (map (λ (x : ℤ). pos scale *ℤ x) xs)
numbers-small scale [] few h = tt
numbers-small scale (x ∷ xs) few h = (product-small scale x few h.0, numbers-small scale xs few h.1)

-- one number more
pub scaled-next : (scale : ℕ) (xs : List ℤ) (k : ℕ) (before : List ℤ) (next : ℤ) → k < length xs → before ≡ map (λ (x : ℤ). pos scale *ℤ x) (take k xs) → next ≡ pos scale *ℤ get_or xs k (pos 0)
    → before ++ next ∷ [] ≡ map (λ (x : ℤ). pos scale *ℤ x) (take (k + 1) xs)
scaled-next scale xs k before next below so-far is =
    let times : ℤ → ℤ = λ x. pos scale *ℤ x in
    ap (λ (ys : List ℤ). ys ++ next ∷ []) so-far ∙ ap (λ (y : ℤ). map times (take k xs) ++ y ∷ []) is
    ∙ sym (map_push times (take k xs) (get_or xs k (pos 0))) ∙ ap (map times) (sym (take_more xs k (pos 0) below))

-- members of a list of forms, times a scale
pub labels-small : (scale : ℕ) (image : List AffineForm) (set : List ℕ) → scale < 2 ^ 32 → AllByRecursion (IsSmallForm NUMBER_SIZE) image → AllByRecursion (λ (i : ℕ). i < length image) set
    → AllByRecursion (IsSmallForm PUT_SIZE) (map (λ (i : ℕ). scale_form (pos scale) (slice_index_or image i no_form)) set)
labels-small scale image [] few small within = tt
labels-small scale image (i ∷ set) few small within =
    let form : AffineForm = slice_index_or image i no_form in
    let own : IsSmallForm NUMBER_SIZE form = All-at (IsSmallForm NUMBER_SIZE) image i no_form small within.0 in
    ((numbers-small scale form.coefficients few own.0, product-small scale form.constant few own.1), labels-small scale image set few small within.1)

pub labels-over : (vars scale : ℕ) (image : List AffineForm) (set : List ℕ) → AllByRecursion (IsSmallOver vars) image → AllByRecursion (λ (i : ℕ). i < length image) set
    → AllOver vars (map (λ (i : ℕ). scale_form (pos scale) (slice_index_or image i no_form)) set)
labels-over vars scale image [] over within = tt
labels-over vars scale image (i ∷ set) over within = (
  length-map (slice_index_or image i no_form).coefficients (λ (x : ℤ). pos scale *ℤ x) ∙ (All-at (IsSmallOver vars) image i no_form over within.0).over,
  labels-over vars scale image set over within.1,
)
