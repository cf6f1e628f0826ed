-- Rows of guards, one after the other.
use Rattle.std.proofs.Common.{◌≡◌, refl, Bool, true, false, List, ◌∷◌, T, arith}
use Rattle.std.specs.Prelude.{◌&&◌, ◌≤ℤ◌, ◌<ℤ◌, int_le}
use Rattle.std.proofs.Math.IntN.{ℤ, pos}
use Rattle.std.proofs.lemmas.Int.{ints}
use Rattle.iolb_model.specs.Form.{AffineForm, form_value, are_met}
use Rattle.iolb_model.proofs.Forms.{are_met-says}

-- where the first row is met the others say whether all are
pub met_first : (row : AffineForm) (rows : List AffineForm) (point : List ℤ) → pos 0 ≤ℤ form_value row point → are_met rows point ≡ are_met (row ∷ rows) point
met_first row rows point met = by (int_le (pos 0) (form_value row point)) met.le where
  by : (b : Bool) → T b → are_met rows point ≡ (b && are_met rows point)
  by true h = refl
  by false h = absurd h

-- and where it isn't they aren't
pub unmet_first : (row : AffineForm) (rows : List AffineForm) (point : List ℤ) → form_value row point <ℤ pos 0 → are_met (row ∷ rows) point ≡ false
unmet_first row rows point unmet = by (are_met (row ∷ rows) point) refl where
  by : (b : Bool) → are_met (row ∷ rows) point ≡ b → b ≡ false
  by false e = refl
  by true e = absurd (omega (arith, ints, (are_met-says (row ∷ rows) point e).0, unmet))
