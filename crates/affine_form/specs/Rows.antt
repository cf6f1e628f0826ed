-- Rows of systems, made of forms. Forms over fewer variables are read as forms over all of them.
use Rattle.std.specs.Prelude.{◌≡◌, Bool, true, false, ℕ, zero, suc, ◌-◌, ◌≤◌, ℤ, pos, negsuc, ◌+ℤ◌, ◌-ℤ◌, ⊤, List, [], ◌∷◌, ◌++◌, map, length, replicate, slice_set}
use Rattle.iolb_model.specs.Form.{AffineForm}
use Rattle.iolb_model.specs.Program.{Direction, upward, downward}
use Rattle.affine_form.specs.Form.{variables, IsSmallForm}
use Rattle.affine_form.specs.Combination.{add_lists}
use Rattle.affine_form.specs.Substitution.{substitution}
use Rattle.iolb_model.specs.declared.limits.TheConstants.{NUMBER_SIZE}

-- a form read over so many variables: those that it lacks have coefficient 0
abbrev pub widened : ℕ → AffineForm → AffineForm
widened vars form = record form { coefficients = form.coefficients ++ replicate (vars - length form.coefficients) (pos 0) }

-- the form over so many variables that is one of them
abbrev pub variable : ℕ → ℕ → AffineForm
variable vars place = record { coefficients = slice_set (replicate vars (pos 0)) place (pos 1); constant = pos 0 }

-- so many variables in a row, from the first on
abbrev pub variables_from : ℕ → ℕ → ℕ → List AffineForm
variables_from vars first zero = []
variables_from vars first (suc count) = variable vars first ∷ variables_from vars (suc first) count

-- a form less another, over so many variables, and a number
abbrev pub difference : ℕ → AffineForm → AffineForm → ℤ → AffineForm
difference vars f g number = record {
  coefficients = add_lists (widened vars f).coefficients (map (λ x. pos 0 -ℤ x) (widened vars g).coefficients);
  constant = (f.constant -ℤ g.constant) +ℤ number;
}

-- The rows which say that values are within the bounds of loops, where the forms before stand for the parameters and
-- the loops around: `value - lower` and `upper - value` for each loop.
abbrev pub within_rows : ℕ → List (AffineForm × AffineForm) → List AffineForm → List AffineForm → List AffineForm
within_rows vars [] before values = []
within_rows vars (bounds ∷ loops) before [] = []
within_rows vars (bounds ∷ loops) before (value ∷ values) =
    difference vars value (substitution bounds.0 before) (pos 0) ∷ difference vars (substitution bounds.1 before) value (pos 0)
    ∷ within_rows vars loops (before ++ value ∷ []) values

-- the rows which say that forms are equal pair by pair: `f - g`, then `g - f`
abbrev pub equality_rows : ℕ → List AffineForm → List AffineForm → List AffineForm
equality_rows vars [] gs = []
equality_rows vars (f ∷ fs) [] = []
equality_rows vars (f ∷ fs) (g ∷ gs) = difference vars f g (pos 0) ∷ difference vars g f (pos 0) ∷ equality_rows vars fs gs

-- forms with other forms put in for their variables
abbrev pub put_in : List AffineForm → List AffineForm → List AffineForm
put_in point forms = map (λ form. substitution form point) forms

-- the rows which say that guards are met where these forms stand for their variables
abbrev pub guard_rows : ℕ → List AffineForm → List AffineForm → List AffineForm
guard_rows vars guards point = map (widened vars) (put_in point guards)

-- how a loop's values go, by whether it runs downward
abbrev pub direction_of : Bool → Direction
direction_of false = upward
direction_of true = downward

-- The row which says that the value y of a loop comes before the value x: `x - y - 1` where the loop runs upward, and
-- `y - x - 1` where it runs downward.
abbrev pub earlier_row : ℕ → Direction → AffineForm → AffineForm → AffineForm
earlier_row vars upward y x = difference vars x y (negsuc 0)
earlier_row vars downward y x = difference vars y x (negsuc 0)

-- The rows which say that loop values ys come before loop values xs at a level of the loops around both: equalities in
-- as many loops as the level says, and that y comes before x in the next. The last level has no more rows.
abbrev pub order_rows : ℕ → List Direction → ℕ → List AffineForm → List AffineForm → List AffineForm
order_rows vars [] level ys xs = []
order_rows vars (direction ∷ loops) level [] xs = []
order_rows vars (direction ∷ loops) level (y ∷ ys) [] = []
order_rows vars (direction ∷ loops) zero (y ∷ ys) (x ∷ xs) = earlier_row vars direction y x ∷ []
order_rows vars (direction ∷ loops) (suc level) (y ∷ ys) (x ∷ xs) =
    difference vars y x (pos 0) ∷ difference vars x y (pos 0) ∷ order_rows vars loops level ys xs

-- a form over at most so many variables whose numbers are of size below 2^20
pub record IsSmallWithin (vars : ℕ) (form : AffineForm) : Type 0 where
  pub within : variables form ≤ vars
  pub small : IsSmallForm NUMBER_SIZE form

-- a form over so many variables whose numbers are of size below 2^20
pub record IsSmallOver (vars : ℕ) (form : AffineForm) : Type 0 where
  pub over : variables form ≡ vars
  pub small : IsSmallForm NUMBER_SIZE form

-- bounds of loops, each over so many variables and one more for each loop before it
abbrev pub BoundsFit : ℕ → List (AffineForm × AffineForm) → Type 0
BoundsFit vars [] = ⊤
BoundsFit vars (bounds ∷ others) = (IsSmallOver vars bounds.0 × IsSmallOver vars bounds.1) × BoundsFit (suc vars) others
