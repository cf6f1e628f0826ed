-- Where a matrix turns forms back into a number times a nest's variables, different points have different values of the forms.
use Rattle.std.proofs.Common.{◌≡◌, refl, subst, ℕ, zero, suc, ◌≤◌, List, [], ◌∷◌, ◌++◌, length, map, drop, arith}
use Rattle.std.proofs.Math.IntN.{ℤ}
use Rattle.base_laws.proofs.Ring.{sums-cancel}
use Rattle.base_laws.proofs.Lists.{cons-same}
use Rattle.iolb_model.specs.Form.{AffineForm, dot, form_value}
use Rattle.affine_form.specs.Matrix.{IntegerMatrix}
use Rattle.reuse_paths.specs.MatrixRows.{matrix_rows}
use Rattle.affine_form.specs.Substitution.{values_at}
use Rattle.execution_laws.specs.Inverse.{IsScaledInverse}
use Rattle.execution_laws.proofs.Undone.{same_point, dot-append}
use Rattle.wavefront.specs.Inverse.{coefficients_past, AreUndone}

-- forms that have the same values at two points of a nest have the same parts in its variables there
nest_parts : (values xs ys : List ℤ) (forms : List AffineForm) → values_at forms (values ++ xs) ≡ values_at forms (values ++ ys)
    → map (λ (row : List ℤ). dot row xs) (coefficients_past (length values) forms) ≡ map (λ (row : List ℤ). dot row ys) (coefficients_past (length values) forms)
nest_parts values xs ys [] e = refl
nest_parts values xs ys (form ∷ forms) e =
    let first : form_value form (values ++ xs) ≡ form_value form (values ++ ys) = cc in
    let rest : values_at forms (values ++ xs) ≡ values_at forms (values ++ ys) = cc in
    let same : dot (drop (length values) form.coefficients) xs ≡ dot (drop (length values) form.coefficients) ys =
    sums-cancel (dot form.coefficients (values ++ xs)) (dot form.coefficients (values ++ ys)) (dot form.coefficients values)
    (dot (drop (length values) form.coefficients) xs) (dot (drop (length values) form.coefficients) ys) form.constant
    (dot-append form.coefficients values xs) (dot-append form.coefficients values ys) first in
    cons-same (dot (drop (length values) form.coefficients) xs) (dot (drop (length values) form.coefficients) ys)
    (map (λ (row : List ℤ). dot row xs) (coefficients_past (length values) forms))
    (map (λ (row : List ℤ). dot row ys) (coefficients_past (length values) forms))
    same (nest_parts values xs ys forms rest)

pub undone-same : (matrix : IntegerMatrix) (scale parameters size : ℕ) (forms : List AffineForm) (values xs ys : List ℤ) → length values ≡ parameters → 1 ≤ scale
    → AreUndone matrix scale parameters size forms → length xs ≡ size → length ys ≡ size → values_at forms (values ++ xs) ≡ values_at forms (values ++ ys) → xs ≡ ys
undone-same matrix scale parameters size forms values xs ys wide some undone long_x long_y e =
    by scale some undone where
      parts : map (λ (row : List ℤ). dot row xs) (coefficients_past parameters forms) ≡ map (λ (row : List ℤ). dot row ys) (coefficients_past parameters forms)
      parts = subst (λ (n : ℕ). map (λ (row : List ℤ). dot row xs) (coefficients_past n forms) ≡ map (λ (row : List ℤ). dot row ys) (coefficients_past n forms)) wide
          (nest_parts values xs ys forms e)

      by : (n : ℕ) → 1 ≤ n → IsScaledInverse n size (matrix_rows matrix) (coefficients_past parameters forms) → xs ≡ ys
      by zero l inverse = absurd (omega (arith, l))
      by (suc n) l inverse = same_point n size (matrix_rows matrix) (coefficients_past parameters forms) xs ys long_x long_y inverse parts
