-- Forms put in for variables.
use Rattle.std.specs.Prelude.{ℕ, ℤ, List, [], ◌∷◌, map, zip}
use Rattle.iolb_model.specs.Form.{AffineForm, form_value}
use Rattle.affine_form.specs.Combination.{combination, constant_form}
use Rattle.affine_form.specs.Form.{variables}

-- how many variables the first form has
abbrev pub width : List AffineForm → ℕ
width [] = 0
width (form ∷ forms) = variables form

-- a form with a form put in for each of its variables
abbrev pub substitution : AffineForm → List AffineForm → AffineForm
substitution form map = combination (zip form.coefficients map) (constant_form 0 form.constant)

-- the values of forms at a point
abbrev pub values_at : List AffineForm → List ℤ → List ℤ
values_at forms point = map (λ form. form_value form point) forms
