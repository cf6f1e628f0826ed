-- Weights of rows that rise.
use Rattle.std.proofs.Common.{ℕ, ◌+◌, ◌<◌, List, [], ◌∷◌, ◌++◌, arith}
use Rattle.std.specs.List.{AllByRecursion}
use Rattle.base_laws.proofs.Lists.{All-push, All-weaken}
use Rattle.affine_form.specs.Multipliers.{RowsRise}

-- a later row at the end
pub rising-push : (row weight : ℕ) (ws : List (ℕ × ℕ)) → RowsRise ws → AllByRecursion (λ (w : ℕ × ℕ). w.0 < row) ws → RowsRise (ws ++ (row, weight) ∷ [])
rising-push row weight [] rise below = (tt, tt)
rising-push row weight (w ∷ ws) rise below =
    (All-push (λ (later : ℕ × ℕ). w.0 < later.0) ws (row, weight) rise.0 below.0, rising-push row weight ws rise.1 below.1)

-- what is below a number is below the next
pub below-next : (row : ℕ) (ws : List (ℕ × ℕ)) → AllByRecursion (λ (w : ℕ × ℕ). w.0 < row) ws → AllByRecursion (λ (w : ℕ × ℕ). w.0 < row + 1) ws
below-next row ws below = All-weaken (λ (w : ℕ × ℕ). w.0 < row) (λ (w : ℕ × ℕ). w.0 < row + 1) ws (λ w h. omega (arith, h)) below
