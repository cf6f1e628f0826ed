-- Assumptions about the parameters, at their values.
use Rattle.std.specs.Prelude.{ℕ, zero, suc, ℤ, pos, ◌≤ℤ◌, List, [], ◌∷◌}
use Rattle.iolb_model.specs.Form.{AffineForm, form_value}

-- the assumption of this number isn't met, and those before it are
abbrev pub IsFirstUnmet : List AffineForm → List ℤ → ℕ → Type 0
IsFirstUnmet [] sizes number = ⊥
IsFirstUnmet (row ∷ rows) sizes zero = ¬ (pos 0 ≤ℤ form_value row sizes)
IsFirstUnmet (row ∷ rows) sizes (suc number) = (pos 0 ≤ℤ form_value row sizes) × IsFirstUnmet rows sizes number
