-- The program of so many matrix products, each of matrices of its own.
use Rattle.std.specs.Prelude.{◌≡◌, false, ℕ, ◌+◌, ◌*◌, pos, negsuc, List, [], ◌∷◌, ◌++◌, map, flat_map, replicate, codes, decimal}
use Rattle.std.specs.List.{AllByRecursion, range_with_len}
use Rattle.iolb_model.specs.Form.{AffineForm}
use Rattle.iolb_model.specs.Program.{upward, Access, Statement as ModelStatement, Item as ModelItem, assign, loop, done, next, AffineProgram}
use Rattle.affine_form.specs.Rows.{variable}
use Rattle.affine_program.specs.declared.statement.Statement.{Statement}
use Rattle.affine_program.specs.Limits.{IsStatementWithinLimits}
use Rattle.affine_program.specs.Parts.{ProgramParts, array_of, statement_of}
use Rattle.affine_program.specs.Tree.{item_of, row_from}

-- 0, and the parameter less 1, where so many loops are around
abbrev pub first_value : ℕ → AffineForm
first_value loops = record { coefficients = pos 0 ∷ replicate loops (pos 0); constant = pos 0 }

abbrev pub last_value : ℕ → AffineForm
last_value loops = record { coefficients = pos 1 ∷ replicate loops (pos 0); constant = negsuc 0 }

-- the names of the matrices of a product: C0, A0 and B0 of the first
abbrev pub matrix_names : ℕ → List (List ℕ)
matrix_names product = (codes "C" ++ decimal product) ∷ (codes "A" ++ decimal product) ∷ (codes "B" ++ decimal product) ∷ []

-- the arrays of so many products, each with two subscripts
abbrev pub matrices : ℕ → List (List ℕ × ℕ)
matrices products = map (λ (name : List ℕ). (name, 2)) (flat_map matrix_names (range_with_len 0 products))

-- the cell of an array whose subscripts are two of the variables N, i, j and k
abbrev pub matrix_cell : ℕ → ℕ → ℕ → Access
matrix_cell array row column = record { array = array; subscripts = variable 4 row ∷ variable 4 column ∷ [] }

-- C[i][j] is computed of itself, A[i][k] and B[k][j]
abbrev pub product_statement : ℕ → ModelStatement
product_statement product = record {
  writes = matrix_cell (3 * product) 1 2;
  reads = matrix_cell (3 * product) 1 2 ∷ matrix_cell (3 * product + 1) 1 3 ∷ matrix_cell (3 * product + 2) 3 2 ∷ [];
}

-- the loops i, j and k around a product's statement, each from 0 to N - 1, upward
abbrev pub product_nest : ℕ → ModelItem
product_nest product =
    loop (codes "i") upward (first_value 0) (last_value 0)
    (next (loop (codes "j") upward (first_value 1) (last_value 1) (next (loop (codes "k") upward (first_value 2) (last_value 2) (next (assign product) done)) done)) done)

-- so many products: the parameter is N, at least 1
abbrev pub product_program : ℕ → AffineProgram
product_program products = record {
  parameters = codes "N" ∷ [];
  assumptions = last_value 0 ∷ [];
  arrays = map array_of (matrices products);
  statements = map product_statement (range_with_len 0 products);
  tree = row_from (map product_nest (range_with_len 0 products));
}

-- ---- the parts that are built

-- the bounds of the loops around a product's statement
abbrev pub product_bounds : List (AffineForm × AffineForm)
product_bounds = (first_value 0, last_value 0) ∷ (first_value 1, last_value 1) ∷ (first_value 2, last_value 2) ∷ []

-- a statement in these loops, which run upward, and in no guards, within the limits
pub record IsInProductNest (statement : Statement) : Type 0 where
  pub bounds : statement.bounds.items ≡ product_bounds
  pub down : statement.down.items ≡ false ∷ false ∷ false ∷ []
  pub guards : statement.guards.items ≡ []
  pub limits : IsStatementWithinLimits statement

-- parts that are so many products
pub record AreProducts (products : ℕ) (parts : ProgramParts) : Type 0 where
  pub params : parts.params ≡ codes "N" ∷ []
  pub assumed : parts.assumed ≡ record { vars = 1; rows = last_value 0 ∷ [] }
  pub arrays : parts.arrays ≡ matrices products
  pub statements : map statement_of parts.statements ≡ map product_statement (range_with_len 0 products)
  pub nests : AllByRecursion IsInProductNest parts.statements
  pub tree : map item_of parts.tree ≡ map product_nest (range_with_len 0 products)
