-- Multipliers that take one row, or none.
use Rattle.std.specs.Prelude.{ℕ, zero, suc, ◌*◌, List, [], ◌∷◌, replicate}
use Rattle.affine_form.specs.Multipliers.{FarkasMultipliers}

-- they show a form that is 0
abbrev pub none_taken : FarkasMultipliers
none_taken = record { scale = 1; rest = 0; weights = [] }

-- they show the row with this number
abbrev pub one_taken : ℕ → FarkasMultipliers
one_taken number = record { scale = 1; rest = 0; weights = (number, 1) ∷ [] }

-- those of so many rows from one on
abbrev pub rows_taken : ℕ → ℕ → List FarkasMultipliers
rows_taken first zero = []
rows_taken first (suc count) = one_taken first ∷ rows_taken (suc first) count

-- those which show that two labels of so many forms are the same: two for each form, which are 0
abbrev pub labels_agree : ℕ → List FarkasMultipliers
labels_agree size = replicate (2 * size) none_taken
