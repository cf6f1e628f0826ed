-- The last write of a cell before a place.
use Rattle.std.proofs.Common.{◌≡◌, refl, sym, ◌∙◌, ap, subst, inl, inr, ℕ, zero, suc, ◌<◌, Bool, true, false, List, arith}
use Rattle.std.specs.Prelude.{◌⊎◌, if◌then◌else◌, ℤ, Option, Some, None, slice_get}
use Rattle.std.specs.Option.{option_map_or}
use Rattle.std.proofs.Math.Nat.{eq-or-lt_of_le}
use Rattle.iolb_model.specs.Program.{AffineProgram}
use Rattle.iolb_model.specs.Execution.{Instance}
use Rattle.iolb_model.specs.Source.{Cell, same_cell, written_cell, writes_at, last_write_before}
use Rattle.execution_laws.proofs.Cells.{same_cell-equal, same_cell_refl}

-- an instance that writes the cell
pub writer-at : (program : AffineProgram) (parameters : List ℤ) (runs : List Instance) (cell : Cell) (k : ℕ) → writes_at program parameters runs cell k ≡ true
    → (instance : Instance) × ((slice_get runs k ≡ Some instance) × (written_cell program parameters instance ≡ cell))
writer-at program parameters runs cell k h = by (slice_get runs k) refl h where
  by : (o : Option Instance) → slice_get runs k ≡ o → option_map_or (λ (instance : Instance). same_cell (written_cell program parameters instance) cell) o false ≡ true
      → (instance : Instance) × ((slice_get runs k ≡ Some instance) × (written_cell program parameters instance ≡ cell))
  by None e g = absurd cc
  by (Some instance) e g = (instance, (e, same_cell-equal (written_cell program parameters instance) cell g))

-- an instance that stands at a place and writes the cell
pub writes-from : (program : AffineProgram) (parameters : List ℤ) (runs : List Instance) (cell : Cell) (k : ℕ) (instance : Instance)
    → slice_get runs k ≡ Some instance → written_cell program parameters instance ≡ cell → writes_at program parameters runs cell k ≡ true
writes-from program parameters runs cell k instance there same =
    ap (λ (o : Option Instance). option_map_or (λ (i : Instance). same_cell (written_cell program parameters i) cell) o false) there
    ∙ ap (λ (c : Cell). same_cell c cell) same ∙ same_cell_refl cell

-- where no earlier place writes the cell there is no last write
pub no_last : (program : AffineProgram) (parameters : List ℤ) (runs : List Instance) (cell : Cell) (n : ℕ)
    → ((k : ℕ) → k < n → writes_at program parameters runs cell k ≡ true → ⊥) → last_write_before program parameters runs cell n ≡ None
no_last program parameters runs cell zero none = refl
no_last program parameters runs cell (suc n) none = by (writes_at program parameters runs cell n) refl (no_last program parameters runs cell n (λ k less. none k (omega arith))) where
  by : (b : Bool) → b ≡ writes_at program parameters runs cell n → last_write_before program parameters runs cell n ≡ None
      → (if b then Some n else last_write_before program parameters runs cell n) ≡ None
  by true e h = absurd (none n (omega arith) (sym e))
  by false e h = h

-- a place that writes the cell, with no such place between, is the last write
pub is_last : (program : AffineProgram) (parameters : List ℤ) (runs : List Instance) (cell : Cell) (m n : ℕ) → m < n → writes_at program parameters runs cell m ≡ true
    → ((k : ℕ) → m < k → k < n → writes_at program parameters runs cell k ≡ true → ⊥) → last_write_before program parameters runs cell n ≡ Some m
is_last program parameters runs cell m zero less here none = absurd (omega arith)
is_last program parameters runs cell m (suc n) less here none =
    by (writes_at program parameters runs cell n) refl (eq-or-lt_of_le {n = m} {m = n} (omega arith)) (λ smaller. is_last program parameters runs cell m n smaller here (λ k p q. none k p (omega arith))) where
      by : (b : Bool) → b ≡ writes_at program parameters runs cell n → (m ≡ n) ⊎ (m < n) → (m < n → last_write_before program parameters runs cell n ≡ Some m)
          → (if b then Some n else last_write_before program parameters runs cell n) ≡ Some m
      by true e (inl same) h = ap Some (sym same)
      by true e (inr smaller) h = absurd (none n smaller (omega arith) (sym e))
      by false e (inl same) h = absurd (let no : writes_at program parameters runs cell n ≡ true = subst (λ (k : ℕ). writes_at program parameters runs cell k ≡ true) same here in cc)
      by false e (inr smaller) h = h smaller
