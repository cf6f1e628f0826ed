-- Systems of affine rows.
use Rattle.std.specs.Prelude.{◌≡◌, ℕ, List, ℤ, pos, ◌≤ℤ◌}
use Rattle.std.specs.List.{AllByRecursion}
use Rattle.iolb_model.specs.Form.{AffineForm, form_value}
use Rattle.affine_form.specs.Form.{variables}

-- forms over so many variables, the rows, each to be at least 0
pub record AffineSystem : Type 0 where
  pub vars : ℕ
  pub rows : List AffineForm

-- each row has so many variables
abbrev pub AllOver : ℕ → List AffineForm → Type 0
AllOver vars rows = AllByRecursion (λ row. variables row ≡ vars) rows

-- every row is at least 0 at a point
abbrev pub IsMet : List AffineForm → List ℤ → Type 0
IsMet rows point = AllByRecursion (λ row. pos 0 ≤ℤ form_value row point) rows
