-- Forms, multipliers, matrices and nests that are written, read.
use Rattle.std.proofs.Common.{◌≡◌, ℕ, zero, suc, ◌+◌, ◌-◌, ◌*◌, ◌%◌, ◌<◌, ◌≤◌, true, List, [], ◌∷◌, ◌++◌, length, map, take, drop, Ok, refl, sym, ◌∙◌, ap, arith}
use Rattle.std.proofs.Math.IntN.{ℤ}
use Rattle.std.specs.Prelude.{◌==◌}
use Rattle.std.specs.List.{AllByRecursion}
use Rattle.std.proofs.lemmas.Bool.{le-leb}
use Rattle.std.proofs.lemmas.List.{length-map, length_push, length-take-le, length-drop, take-append-drop}
use Rattle.iolb_model.specs.Form.{AffineForm}
use Rattle.affine_form.proofs.ShownLemmas.{above_zero}
use Rattle.affine_form.specs.Form.{IsSmall, IsSmallForm, IsLegalForm}
use Rattle.affine_form.specs.Matrix.{IntegerMatrix, HasShape}
use Rattle.affine_form.specs.Multipliers.{FarkasMultipliers, IsWeight, RowsRise}
use Rattle.certificate_fit.specs.Limits.{NamesRows}
use Rattle.json_parts.specs.Json.{reads_integer}
use Rattle.certificate_parts.specs.Nests.{reads_pair, pair_shape}
use Rattle.certificate_parts.specs.Forms.{reads_form, form_data, form_shape}
use Rattle.certificate_parts.specs.Matrices.{reads_row, all_entries, columns_of, reads_matrix, rows_of, row_data, matrix_shape}
use Rattle.certificate_parts.specs.Multipliers.{rise_from, reads_weights, multipliers_of, multipliers_in, reads_multipliers, weights_data, multipliers_shape}
use Rattle.certificate_parts.proofs.FormNumbers.{form_in-last}
use Rattle.json_parts.proofs.Items.{list_of-items_of}
use Rattle.json_parts.specs.Shape.{IsReadBack}
use Rattle.json_parts.specs.Written.{whole, natural}
use Rattle.json_parts.proofs.Back.{integer-read, natural_read, list-read, short_list-read, each-read}
use Rattle.iolb_model.specs.declared.limits.TheConstants.{NUMBER_SIZE, MULTIPLIER_SIZE}

-- ---- forms

all-joined : (P : ℤ → Type 0) (xs : List ℤ) (y : ℤ) → AllByRecursion P xs → P y → AllByRecursion P (xs ++ y ∷ [])
all-joined P [] y h k = (k, tt)
all-joined P (x ∷ xs) y h k = (h.0, all-joined P xs y h.1 k)

integers-read : (xs : List ℤ) → AllByRecursion (IsSmall NUMBER_SIZE) xs → AllByRecursion (λ (z : ℤ). reads_integer NUMBER_SIZE (whole z) ≡ Ok z) xs
integers-read [] h = tt
integers-read (x ∷ xs) h = (integer-read NUMBER_SIZE x h.0, integers-read xs h.1)

pub form-read : (form : AffineForm) → IsLegalForm form → (IsSmallForm NUMBER_SIZE form → IsReadBack form_shape form)
unfolding reads_form
form-read form legal small =
    let numbers : List ℤ = form.coefficients ++ form.constant ∷ [] in
    let few : length (map whole numbers) ≤ 25 = omega (arith, legal.0, length-map numbers whole, length_push form.coefficients form.constant) in
    rw (
      short_list-read 25 (map whole numbers) few,
      each-read (reads_integer NUMBER_SIZE) whole 0 numbers (integers-read numbers (all-joined (IsSmall NUMBER_SIZE) form.coefficients form.constant small.0 small.1)),
    )
    (form_in-last form.coefficients form.constant)

-- ---- multipliers

weights-read : (i : ℕ) (weights : List (ℕ × ℕ)) → AllByRecursion IsWeight weights → AllByRecursion (λ (weight : ℕ × ℕ). weight.0 < 128) weights
    → reads_weights i (weights_data weights) ≡ Ok weights
unfolding reads_weights
weights-read i [] h k = refl
weights-read i (w ∷ weights) h k =
    rw (natural_read 0 127 w.0 (omega arith) (omega (arith, k.0)), natural_read 1 (MULTIPLIER_SIZE - 1) w.1 h.0.0 (omega (arith, h.0.1)), weights-read (i + 2) weights h.1 k.1) refl

least-of : (w : ℕ × ℕ) (weights : List (ℕ × ℕ)) → AllByRecursion (λ (later : ℕ × ℕ). w.0 < later.0) weights → AllByRecursion (λ (later : ℕ × ℕ). w.0 + 1 ≤ later.0) weights
least-of w [] h = tt
least-of w (v ∷ weights) h = (omega (arith, h.0), least-of w weights h.1)

rise-from : (least : ℕ) (weights : List (ℕ × ℕ)) → AllByRecursion (λ (w : ℕ × ℕ). least ≤ w.0) weights → RowsRise weights → rise_from least weights ≡ true
rise-from least [] h k = refl
rise-from least (w ∷ weights) h k = rw (le-leb least w.0 h.0) (rise-from (w.0 + 1) weights (least-of w weights k.0) k.1)

even : (weights : List (ℕ × ℕ)) → length (weights_data weights) ≡ 2 * length weights
even [] = refl
even (w ∷ weights) = omega (arith, even weights)

even-test : (weights : List (ℕ × ℕ)) → (length (weights_data weights) % 2 == 0) ≡ true
even-test weights = rw (even weights) (twice (length weights)) where
  twice : (n : ℕ) → ((2 * n) % 2 == 0) ≡ true
  twice n = grind arith

pub multipliers-read : (shown : FarkasMultipliers) → 1 ≤ shown.scale → shown.scale < MULTIPLIER_SIZE → shown.rest < MULTIPLIER_SIZE → AllByRecursion IsWeight shown.weights → RowsRise shown.weights → NamesRows shown → IsReadBack multipliers_shape shown
unfolding reads_multipliers multipliers_in multipliers_of
multipliers-read shown some scale rest weights rising rows =
    rw (
      list-read (natural shown.scale ∷ natural shown.rest ∷ weights_data shown.weights),
      even-test shown.weights,
      natural_read 1 (MULTIPLIER_SIZE - 1) shown.scale some (omega (arith, scale)),
      natural_read 0 (MULTIPLIER_SIZE - 1) shown.rest (omega arith) (omega (arith, rest)),
      weights-read 2 shown.weights weights rows,
      rise-from 0 shown.weights (above_zero shown.weights) rising,
    ) refl

-- ---- matrices

all-take : (P : ℤ → Type 0) (n : ℕ) (xs : List ℤ) → AllByRecursion P xs → AllByRecursion P (take n xs) × AllByRecursion P (drop n xs)
all-take P zero xs h = (tt, h)
all-take P (suc n) [] h = (tt, tt)
all-take P (suc n) (x ∷ xs) h = let rest = all-take P n xs h.1 in ((h.0, rest.0), rest.1)

row-read : (columns : ℕ) (row : List ℤ) → length row ≡ columns → columns ≤ 6 → AllByRecursion (IsSmall NUMBER_SIZE) row → reads_row columns (row_data row) ≡ Ok row
unfolding reads_row
row-read columns row all few small =
    let short : length (map whole row) ≤ 6 = omega (arith, length-map row whole, all, few) in
    let same : (length row == columns) ≡ true = rw all (grind arith) in
    rw (short_list-read 6 (map whole row) short, each-read (reads_integer NUMBER_SIZE) whole 0 row (integers-read row small), same) refl

rows-read : (rows columns : ℕ) (cells : List ℤ) → columns ≤ 6 → length cells ≡ rows * columns → AllByRecursion (IsSmall NUMBER_SIZE) cells
    → AllByRecursion (λ (row : List ℤ). reads_row columns (row_data row) ≡ Ok row) (rows_of rows columns cells)
rows-read zero columns cells few full small = tt
rows-read (suc rows) columns cells few full small =
    let parts = all-take (IsSmall NUMBER_SIZE) columns cells small in (
      row-read columns (take columns cells) (length-take-le columns cells (omega (arith, full))) few parts.0,
      rows-read rows columns (drop columns cells) few (omega (arith, full, length-drop columns cells)) parts.1,
    )

length-rows : (rows columns : ℕ) (cells : List ℤ) → length (rows_of rows columns cells) ≡ rows
length-rows zero columns cells = refl
length-rows (suc rows) columns cells = ap suc (length-rows rows columns (drop columns cells))

entries-rows : (rows columns : ℕ) (cells : List ℤ) → length cells ≡ rows * columns → all_entries (rows_of rows columns cells) ≡ cells
entries-rows zero columns [] full = refl
entries-rows zero columns (x ∷ cells) full = absurd (omega (arith, full))
entries-rows (suc rows) columns cells full =
    ap (λ (l : List ℤ). take columns cells ++ l) (entries-rows rows columns (drop columns cells) (omega (arith, full, length-drop columns cells))) ∙ take-append-drop columns cells

first-columns : (rows columns : ℕ) (cells : List ℤ) → (rows ≡ 0 → columns ≡ 0) → length cells ≡ rows * columns → columns_of (map row_data (rows_of rows columns cells)) ≡ columns
first-columns zero columns cells none full = sym (none refl)
first-columns (suc rows) columns cells none full =
    ap length (list_of-items_of (map whole (take columns cells))) ∙ length-map (take columns cells) whole ∙ length-take-le columns cells (omega (arith, full))

pub matrix-read : (matrix : IntegerMatrix) → HasShape matrix.rows matrix.columns matrix.cells → AllByRecursion (IsSmall NUMBER_SIZE) matrix.cells → IsReadBack matrix_shape matrix
unfolding reads_matrix
matrix-read matrix shape small =
    let rows : List (List ℤ) = rows_of matrix.rows matrix.columns matrix.cells in
    let few : length (map row_data rows) ≤ 6 = omega (arith, length-map rows row_data, length-rows matrix.rows matrix.columns matrix.cells, shape.few_rows) in
    rw (
      short_list-read 6 (map row_data rows) few,
      first-columns matrix.rows matrix.columns matrix.cells shape.rows_first shape.full,
      each-read (reads_row matrix.columns) row_data 0 rows (rows-read matrix.rows matrix.columns matrix.cells shape.few_columns shape.full small),
    )
    (ap (λ (m : IntegerMatrix). Ok m) (ap (λ (n : ℕ). made n (all_entries rows)) (length-rows matrix.rows matrix.columns matrix.cells) ∙ ap (made matrix.rows) (entries-rows matrix.rows matrix.columns matrix.cells shape.full))) where
      made : ℕ → List ℤ → IntegerMatrix
      made count cells = record { rows = count; columns = matrix.columns; cells = cells }

-- ---- nests

pub pair-read : (bounds : AffineForm × AffineForm) → IsReadBack form_shape bounds.0 → IsReadBack form_shape bounds.1 → IsReadBack pair_shape bounds
unfolding reads_pair
pair-read bounds h k = rw (list-read (form_data bounds.0 ∷ form_data bounds.1 ∷ []), h, k) refl
