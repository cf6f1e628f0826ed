-- The limits of affine forms.
use Rattle.std.specs.Prelude.{ℕ, ◌<◌, ◌≤◌, unsigned_abs, ℤ, length}
use Rattle.std.specs.List.{AllByRecursion}
use Rattle.iolb_model.specs.Form.{AffineForm}
use Rattle.iolb_model.specs.declared.limits.TheConstants.{COEFFICIENT_SIZE, VARIABLES}

-- a number's size is below a limit
abbrev pub IsSmall : ℕ → ℤ → Type 0
IsSmall limit x = unsigned_abs x < limit

-- all of a form's numbers have a size below a limit
abbrev pub IsSmallForm : ℕ → AffineForm → Type 0
IsSmallForm limit form = AllByRecursion (IsSmall limit) form.coefficients × IsSmall limit form.constant

-- how many variables a form has
abbrev pub variables : AffineForm → ℕ
variables form = length form.coefficients

-- what holds of each form that a program holds: at most 24 variables, and numbers of size below 2^62
abbrev pub IsLegalForm : AffineForm → Type 0
IsLegalForm form = (variables form ≤ VARIABLES) × IsSmallForm COEFFICIENT_SIZE form
