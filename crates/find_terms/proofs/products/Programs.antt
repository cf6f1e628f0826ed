-- The statements of a program of matrix products, and what is around them.
use Rattle.std.proofs.Common.{◌≡◌, ◌≢◌, refl, ◌∙◌, ap, ℕ, zero, suc, ◌+◌, ◌*◌, ◌<◌, Bool, true, false, List, [], ◌∷◌, length, map, get_or, arith}
use Rattle.std.specs.Prelude.{◌==◌, if◌then◌else◌, Option, unwrap_or}
use Rattle.std.specs.List.{range_with_len}
use Rattle.std.proofs.lemmas.Bool.{eqb-true}
use Rattle.iolb_model.specs.Path.{PathStep, bounds_on, guards_on}
use Rattle.iolb_model.specs.Program.{Direction, upward, Statement, no_statement, statement_at}
use Rattle.affine_form.specs.Rows.{widened}
use Rattle.affine_program.specs.Domain.{bounds_at, guards_at, path_of}
use Rattle.affine_c.proofs.ProductPrograms.{directions, product_path, ways}
use Rattle.affine_c.specs.Products.{matrix_cell, product_program, product_statement}
use Rattle.dep_quast.specs.Context.{reference_of}
use Rattle.flow_deps.specs.Candidates.{direction_at}
use Rattle.dep_quast.specs.Levels.{writers, writers_from}

-- ---- the way to a statement

path-is : (n q : ℕ) → q < n → path_of (product_program n) q ≡ product_path
path-is n q below = ap (λ (way : Option (List PathStep)). unwrap_or way []) (ways 0 n q (omega arith) (omega (arith, below)))

pub bounds-are : (n q : ℕ) → q < n → bounds_at (product_program n) q ≡ bounds_on product_path
bounds-are n q below = ap bounds_on (path-is n q below)

pub no-guards : (n q : ℕ) → q < n → guards_at (product_program n) q ≡ []
no-guards n q below =
    ap (λ (path : List PathStep). map (widened (length (product_program n).parameters + length (bounds_on path))) (guards_on path)) (path-is n q below)

-- ---- the loops around a statement run upward

pub runs-upward : (n q : ℕ) → q < n → (loop : ℕ) → direction_at (product_program n) q loop ≡ upward
runs-upward n q below loop = ap (λ (loops : List Direction). get_or loops loop upward) (directions 0 n q (omega arith) (omega (arith, below))) ∙ each loop where
  each : (k : ℕ) → get_or (upward ∷ upward ∷ upward ∷ []) k upward ≡ upward
  each zero = refl
  each (suc zero) = refl
  each (suc (suc zero)) = refl
  each (suc (suc (suc k))) = refl

-- ---- the statement itself

statement-in : (count first k : ℕ) → k < count → get_or (map product_statement (range_with_len first count)) k no_statement ≡ product_statement (first + k)
statement-in zero first k below = absurd (omega (arith, below))
statement-in (suc count) first zero below = ap product_statement (omega arith)
statement-in (suc count) first (suc k) below = statement-in count (first + 1) k (omega (arith, below)) ∙ ap product_statement (omega arith)

pub statement-is : (n q : ℕ) → q < n → statement_at (product_program n) q ≡ product_statement q
statement-is n q below = statement-in n 0 q below ∙ ap product_statement (omega arith)

-- A and B of the product
pub first-read : (n q : ℕ) → q < n → reference_of (product_program n) (record { statement = q; read = 1 }) ≡ matrix_cell (3 * q + 1) 1 3
first-read n q below = ap (λ (s : Statement). get_or s.reads 1 no_statement.writes) (statement-is n q below)

pub second-read : (n q : ℕ) → q < n → reference_of (product_program n) (record { statement = q; read = 2 }) ≡ matrix_cell (3 * q + 2) 3 2
second-read n q below = ap (λ (s : Statement). get_or s.reads 2 no_statement.writes) (statement-is n q below)

-- ---- no statement writes them

none-write : (count first from array : ℕ) → ((p : ℕ) → 3 * p ≢ array) → writers_from from (map product_statement (range_with_len first count)) array ≡ []
none-write zero first from array never = refl
none-write (suc count) first from array never = by (3 * first == array) refl (none-write count (first + 1) (suc from) array never) where
  rest : List ℕ
  rest = writers_from (suc from) (map product_statement (range_with_len (first + 1) count)) array

  by : (writes : Bool) → (3 * first == array) ≡ writes → rest ≡ [] → (if 3 * first == array then from ∷ rest else rest) ≡ []
  by true e later = absurd (never first (eqb-true (3 * first) array e))
  by false e later = ap (λ (b : Bool). if b then from ∷ rest else rest) e ∙ later

pub no-writer : (n array : ℕ) → ((p : ℕ) → 3 * p ≢ array) → writers (product_program n) array ≡ []
no-writer n array never = none-write n 0 0 array never
