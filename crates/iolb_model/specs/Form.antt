-- Affine forms. (Feautrier 1991; the usual forms of polyhedral compilation.)
-- A form's variables are counted: the parameters of a program in order, then loop values, outermost first.
use Rattle.std.specs.Prelude.{Bool, ℤ, pos, ◌+ℤ◌, ◌*ℤ◌, ◌≤ℤ◌, int_le, List, [], ◌∷◌}
use Rattle.std.specs.List.{AllByRecursion, list_all}

-- one coefficient for each variable, and a constant
pub record AffineForm : Type 0 where
  pub coefficients : List ℤ
  pub constant : ℤ

-- the sum of the products, pair by pair; what one list has past the other's end counts nothing
abbrev pub dot : List ℤ → List ℤ → ℤ
dot [] ys = pos 0
dot (x ∷ xs) [] = pos 0
dot (x ∷ xs) (y ∷ ys) = (x *ℤ y) +ℤ dot xs ys

-- the value of a form at a point: each coefficient times its variable's value, and the constant
abbrev pub form_value : AffineForm → List ℤ → ℤ
form_value form point = dot form.coefficients point +ℤ form.constant

-- each of these forms is at least 0 at the point
abbrev pub AreMet : List AffineForm → List ℤ → Type 0
AreMet rows point = AllByRecursion (λ row. pos 0 ≤ℤ form_value row point) rows

-- whether each of them is
abbrev pub are_met : List AffineForm → List ℤ → Bool
are_met rows point = list_all (λ row. int_le (pos 0) (form_value row point)) rows
