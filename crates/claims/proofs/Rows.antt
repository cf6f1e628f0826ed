-- Rows that are read over more variables.
use Rattle.std.proofs.Common.{ℕ, ◌≤◌, List, [], ◌∷◌, map, arith}
use Rattle.iolb_model.specs.Form.{AffineForm}
use Rattle.affine_form.specs.Rows.{widened}
use Rattle.affine_form.specs.System.{AllOver}
use Rattle.affine_form.proofs.RowLemmas.{length-widened}

-- rows read over more variables are over them
pub widened-over : (many vars : ℕ) (rows : List AffineForm) → many ≤ vars → AllOver many rows → AllOver vars (map (widened vars) rows)
widened-over many vars [] more h = tt
widened-over many vars (row ∷ rows) more h = (length-widened vars row (omega (arith, h.0)), widened-over many vars rows more h.1)
