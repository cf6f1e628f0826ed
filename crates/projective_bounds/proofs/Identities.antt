-- Identity matrices.
use Rattle.std.proofs.Common.{◌≡◌, refl, sym, ◌∙◌, ap, ℕ, zero, suc, ◌+◌, ◌*◌, ◌<◌, ◌≤◌, List, [], ◌∷◌, ◌++◌, length, get_or, replicate, arith, Bool, true, false}
use Rattle.std.specs.Prelude.{ℤ, pos, flat_map, slice_set, ◌==◌, if◌then◌else◌, ◌+ℤ◌}
use Rattle.std.specs.List.{range_with_len}
use Rattle.std.proofs.lemmas.Int.{ints}
use Rattle.std.proofs.lemmas.Bool.{eqb-true, eqb-false}
use Rattle.std.proofs.lemmas.List.{ext_get_or, get_or-map, get_or_append_left, length-append, length-map, length-replicate, length-set}
use Rattle.std.proofs.lemmas.List.FromFn.{get_or-map-range_with_len, length-range_with_len}
use Rattle.iolb_model.specs.Form.{dot}
use Rattle.execution_laws.specs.Inverse.{column, product_entry, scaled_entry}
use Rattle.affine_form.specs.Matrix.{HasShape, entry}
use Rattle.affine_form.proofs.Meaning.{form_value-variable}
use Rattle.reuse_paths.specs.MatrixRows.{matrix_rows}
use Rattle.reuse_paths.proofs.Matrices.{row-entry, row-long, rows-many}
use Rattle.projective.proofs.Units.{unit, unit-at, unit-other, unit-same}
use Rattle.projective_bounds.specs.Whole.{identity_matrix, identity_row}
use Rattle.projective_bounds.proofs.ReaderLabels.{at-behind}

-- 1 at a variable's place, and 0 elsewhere
pub unit-is : (a b : ℕ) → unit a b ≡ scaled_entry 1 a b
unit-is a b = by (a == b) refl where
  by : (c : Bool) → c ≡ (a == b) → unit a b ≡ (if c then pos 1 else pos 0)
  by true e = ap (λ (n : ℕ). unit n b) (eqb-true a b (sym e)) ∙ unit-same b
  by false e = unit-other a b (eqb-false a b (sym e))

row-many : (size row : ℕ) → length (identity_row size row) ≡ size
row-many size row = length-map (range_with_len 0 size) (scaled_entry 1 row) ∙ length-range_with_len 0 size

pub cells-many : (size : ℕ) (rows : List ℕ) → length (flat_map (identity_row size) rows) ≡ length rows * size
cells-many size [] = omega arith
cells-many size (row ∷ rows) = length-append (identity_row size row) (flat_map (identity_row size) rows) ∙ total (length rows) (row-many size row) (cells-many size rows) where
  total : (n : ℕ) {a b : ℕ} → a ≡ size → b ≡ n * size → a + b ≡ suc n * size
  total n p q = grind arith

-- a cell of row after row
cell-at : (size first count row col : ℕ) → row < count → col < size → get_or (flat_map (identity_row size) (range_with_len first count)) (row * size + col) (pos 0) ≡ scaled_entry 1 (first + row) col
cell-at size first zero row col below inside = absurd (omega arith)
cell-at size first (suc count) zero col below inside =
    ap (λ (n : ℕ). get_or (flat_map (identity_row size) (range_with_len first (suc count))) n (pos 0)) (front size col)
    ∙ get_or_append_left (identity_row size first) (flat_map (identity_row size) (range_with_len (first + 1) count)) (pos 0) col (omega (arith, row-many size first))
    ∙ get_or-map-range_with_len (scaled_entry 1 first) 0 size col col (pos 0) inside (omega arith) ∙ ap (λ (n : ℕ). scaled_entry 1 n col) (back first) where
      front : (m n : ℕ) → 0 * m + n ≡ n
      front m n = omega arith

      back : (n : ℕ) → n ≡ n + 0
      back n = omega arith
cell-at size first (suc count) (suc row) col below inside =
    ap (λ (n : ℕ). get_or (identity_row size first ++ flat_map (identity_row size) (range_with_len (first + 1) count)) n (pos 0)) (next row size col)
    ∙ at-behind (identity_row size first) (flat_map (identity_row size) (range_with_len (first + 1) count)) size (row * size + col) (pos 0) (row-many size first)
    ∙ cell-at size (first + 1) count row col (omega arith) inside ∙ ap (λ (n : ℕ). scaled_entry 1 n col) (moved first row) where
      next : (r m n : ℕ) → suc r * m + n ≡ m + (r * m + n)
      next r m n = grind arith

      moved : (m n : ℕ) → (m + 1) + n ≡ m + suc n
      moved m n = omega arith

pub entry-is : (size row col : ℕ) → row < size → col < size → entry (identity_matrix size) row col ≡ scaled_entry 1 row col
entry-is size row col below inside = cell-at size 0 size row col below inside ∙ ap (λ (n : ℕ). scaled_entry 1 n col) (front row) where
  front : (n : ℕ) → 0 + n ≡ n
  front n = omega arith

pub identity-shape : (size : ℕ) → size ≤ 6 → HasShape (identity_matrix size).rows (identity_matrix size).columns (identity_matrix size).cells
identity-shape size few = record {
  few_rows = few;
  few_columns = few;
  rows_first = λ e. e;
  full = cells-many size (range_with_len 0 size) ∙ ap (λ (n : ℕ). n * size) (length-range_with_len 0 size);
}

-- its rows are the variables' coefficients
row-unit : (size row : ℕ) → size ≤ 6 → row < size → get_or (matrix_rows (identity_matrix size)) row [] ≡ slice_set (replicate size (pos 0)) row (pos 1)
row-unit size row few below =
    let long = row-long (identity_matrix size) row (identity-shape size few) below in
    ext_get_or (pos 0) (get_or (matrix_rows (identity_matrix size)) row []) (slice_set (replicate size (pos 0)) row (pos 1))
    (long ∙ sym (length-set (replicate size (pos 0)) row (pos 1) ∙ length-replicate size (pos 0)))
    (λ k inside. row-entry (identity_matrix size) row k below (omega (arith, inside, long)) ∙ entry-is size row k below (omega (arith, inside, long)) ∙ sym (unit-at size row k below ∙ unit-is row k))

-- times a matrix it is that matrix
pub identity-times : (size row col : ℕ) (others : List (List ℤ)) → size ≤ 6 → row < size → row < length others
    → product_entry (matrix_rows (identity_matrix size)) others row col ≡ get_or (get_or others row []) col (pos 0)
identity-times size row col others few below there =
    ap (λ (xs : List ℤ). dot xs (column col others)) (row-unit size row few below)
    ∙ plain (dot (slice_set (replicate size (pos 0)) row (pos 1)) (column col others)) (get_or (column col others) row (pos 0)) (form_value-variable size row (column col others) below)
    ∙ get_or-map (λ (r : List ℤ). get_or r col (pos 0)) others row [] (pos 0) there where
      plain : (a b : ℤ) → a +ℤ pos 0 ≡ b → a ≡ b
      plain a b e = omega (arith, ints)

-- so it is its own inverse
pub identity-undone : (size row col : ℕ) → size ≤ 6 → row < size → col < size
    → product_entry (matrix_rows (identity_matrix size)) (matrix_rows (identity_matrix size)) row col ≡ scaled_entry 1 row col
identity-undone size row col few below inside =
    identity-times size row col (matrix_rows (identity_matrix size)) few below (omega (arith, rows-many (identity_matrix size), below))
    ∙ row-entry (identity_matrix size) row col below inside ∙ entry-is size row col below inside
