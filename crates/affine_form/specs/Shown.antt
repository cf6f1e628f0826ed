-- What Farkas multipliers show. (Farkas 1902; Schrijver 1986, Theory of Linear and Integer Programming.)
use Rattle.std.specs.Prelude.{◌≡◌, ℕ, ◌<◌, ℤ, pos, negsuc, ◌≤ℤ◌, List, [], map, length, slice_index_or}
use Rattle.std.specs.List.{AllByRecursion}
use Rattle.iolb_model.specs.Form.{AffineForm, form_value}
use Rattle.affine_form.specs.Combination.{scale_form, constant_form, combination}
use Rattle.affine_form.specs.Multipliers.{FarkasMultipliers}
use Rattle.affine_form.specs.System.{AffineSystem, IsMet}

-- the row with a number
abbrev pub row_at : List AffineForm → ℕ → AffineForm
row_at rows number = slice_index_or rows number (record { coefficients = []; constant = pos 0 })

-- the rows that weights name, each with its multiplier
abbrev pub weighted_rows : List AffineForm → List (ℕ × ℕ) → List (ℤ × AffineForm)
weighted_rows rows weights = map (λ (weight : ℕ × ℕ). (pos weight.1, row_at rows weight.0)) weights

-- each weight names a row that is there
abbrev pub NamesRows : List AffineForm → List (ℕ × ℕ) → Type 0
NamesRows rows weights = AllByRecursion (λ (weight : ℕ × ℕ). weight.0 < length rows) weights

-- the number beside the rows, and each named row times its multiplier, as a form
abbrev pub row_sum : AffineSystem → FarkasMultipliers → AffineForm
row_sum system shown =
    combination (weighted_rows system.rows shown.weights) (constant_form system.vars (pos shown.rest))

-- The multipliers show a goal: the rows that they name are there, and the scale times the goal is, as a form, the
-- sum of the rows.
pub record Shows (system : AffineSystem) (goal : AffineForm) (shown : FarkasMultipliers) : Type 0 where
  pub named : NamesRows system.rows shown.weights
  pub identity : scale_form (pos shown.scale) goal ≡ row_sum system shown

-- the form that is -1 everywhere
abbrev pub minus_one : ℕ → AffineForm
minus_one vars = constant_form vars (negsuc 0)

-- the goal is at least 0 at every point where all rows are
abbrev pub Follows : AffineSystem → AffineForm → Type 0
Follows system goal = (point : List ℤ) → IsMet system.rows point → pos 0 ≤ℤ form_value goal point

-- at no point all rows are at least 0
abbrev pub HasNoPoint : AffineSystem → Type 0
HasNoPoint system = (point : List ℤ) → ¬ IsMet system.rows point
