-- What is known where the newest entry stands before the others.
use Rattle.std.proofs.Common.{◌≡◌, refl, sym, ◌∙◌, ap, ℕ, Bool, true, false, cond, Option, Some, None}
use Rattle.std.specs.Prelude.{ℤ}
use Rattle.arrayvec.specs.ArrayVec.{ArrayVec}
use Rattle.execution_laws.proofs.Cells.{same_cell-equal}
use Rattle.iolb_model.specs.Source.{Cell, same_cell}
use Rattle.loop_graph.specs.Cells.{cell_view, is_cell}
use Rattle.loop_graph.specs.Known.{is_newest, newest_or}

-- an entry of the same cell takes the place of the newest
pub put-over : (newest : Option ((ℕ × ArrayVec ℤ) × ℕ)) (cell other : ℕ × ArrayVec ℤ) (vertex : ℕ) (rest : Option ℕ) → is_newest newest cell ≡ true
    → cond (is_cell cell other) (Some vertex) rest ≡ cond (is_cell cell other) (Some vertex) (newest_or newest rest other)
put-over None cell other vertex rest is = absurd cc
put-over (Some entry) cell other vertex rest is = by (is_cell cell other) refl where
  by : (b : Bool) → is_cell cell other ≡ b → cond b (Some vertex) rest ≡ cond b (Some vertex) (cond (is_cell entry.0 other) (Some entry.1) rest)
  by true e = refl
  by false e =
      let same : is_cell entry.0 other ≡ false = ap (λ (c : Cell). same_cell c (cell_view other)) (same_cell-equal (cell_view entry.0) (cell_view cell) is) ∙ e in
      sym (ap (λ (b : Bool). cond b (Some entry.1) rest) same)
