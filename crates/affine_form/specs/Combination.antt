-- Sums of forms, each times a number.
use Rattle.std.specs.Prelude.{ℕ, ℤ, pos, ◌+ℤ◌, ◌*ℤ◌, List, [], ◌∷◌, map, replicate, slice_index_or}
use Rattle.iolb_model.specs.Form.{AffineForm}

-- the sums place by place; past the end of one list the other goes on
abbrev pub add_lists : List ℤ → List ℤ → List ℤ
add_lists [] ys = ys
add_lists (x ∷ xs) [] = x ∷ xs
add_lists (x ∷ xs) (y ∷ ys) = (x +ℤ y) ∷ add_lists xs ys

-- the sum of two forms
abbrev pub add_forms : AffineForm → AffineForm → AffineForm
add_forms f g =
    record { coefficients = add_lists f.coefficients g.coefficients; constant = f.constant +ℤ g.constant }

-- a form times a number
abbrev pub scale_form : ℤ → AffineForm → AffineForm
scale_form factor f =
    record { coefficients = map (λ x. factor *ℤ x) f.coefficients; constant = factor *ℤ f.constant }

-- the form over so many variables that is a number everywhere
abbrev pub constant_form : ℕ → ℤ → AffineForm
constant_form vars value = record { coefficients = replicate vars (pos 0); constant = value }

-- a form, and each of these forms times its number
abbrev pub combination : List (ℤ × AffineForm) → AffineForm → AffineForm
combination [] start = start
combination (term ∷ terms) start = add_forms (scale_form term.0 term.1) (combination terms start)

-- the coefficient of a variable, 0 past a form's variables
abbrev pub coefficient_of : ℕ → AffineForm → ℤ
coefficient_of variable form = slice_index_or form.coefficients variable (pos 0)
