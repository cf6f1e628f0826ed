-- Source trees of all reads stand: a certificate of them without branches meets all conditions.
use Rattle.std.proofs.Common.{◌≡◌, subst, ℕ, suc, ◌+◌, List, [], ◌∷◌, ◌++◌, length, arith}
use Rattle.iolb_model.specs.Program.{AffineProgram, IsWellFormed}
use Rattle.claims.specs.Claims.{AllHold, FirstFails}
use Rattle.claims.specs.declared.refused.FailedCondition.{FailedCondition}
use Rattle.claims.proofs.Laws.{AllHold-append, accepted-stand}
use Rattle.dep_quast.specs.Tree.{SelectionTree}
use Rattle.certificate_fit.specs.TreeFit.{trees_fit}
use Rattle.dep_quast.specs.Trees.{read_of, rows_claims}
use Rattle.flow_deps.specs.Standing.{AllStand, AreStanding, AreStandingRows}
use Rattle.flow_deps.proofs.StandingTrees.{trees-fit, trees-valid}
use Rattle.iolb_check.specs.Conditions.{conditions}
use Rattle.find_terms.specs.Trees.{HasRow, HasTrees, IsSourceTree, RowStands, RowsStand}
use Rattle.find_terms.specs.declared.trees.Scope.{Scope}

module _ (program : AffineProgram) (scope : Scope) where
  row-standing : (statement read : ℕ) (row : List SelectionTree) → RowStands program scope statement read row → AreStanding program statement read row
  row-standing statement read [] stand = tt
  row-standing statement read (tree ∷ row) stand = (stand.0.standing, row-standing statement (suc read) row stand.1)

  rows-standing : (statement : ℕ) (rows : List (List SelectionTree)) → RowsStand program scope statement rows → AreStandingRows program statement rows
  rows-standing statement [] stand = tt
  rows-standing statement (row ∷ rows) stand = (record { many = stand.0.many; each = row-standing statement 0 row stand.0.stand }, rows-standing (suc statement) rows stand.1)

  pub all-standing : (trees : List (List SelectionTree)) → HasTrees program scope trees → AllStand program trees
  all-standing trees has = record { many = has.many; rows = rows-standing 0 trees has.stand }

-- a certificate of trees that stand, without branches, meets all conditions
bare-holds : (program : AffineProgram) → IsWellFormed program → (trees : List (List SelectionTree)) → AllStand program trees → AllHold (conditions program (record { trees = trees; branches = [] }))
bare-holds program well trees stand =
    AllHold-append (trees_fit program trees ++ rows_claims program 0 trees) []
    (AllHold-append (trees_fit program trees) (rows_claims program 0 trees) (trees-fit program well trees stand) (trees-valid program well trees stand)) tt

-- so it isn't refused
pub bare-stands : (program : AffineProgram) → IsWellFormed program → (trees : List (List SelectionTree)) (failed : FailedCondition) → AllStand program trees
    → FirstFails (conditions program (record { trees = trees; branches = [] })) failed → ⊥
bare-stands program well trees failed stand fails = accepted-stand (conditions program (record { trees = trees; branches = [] })) failed (bare-holds program well trees stand) fails

-- one tree more at the end of a row, and one row more
pub row-pushed : (program : AffineProgram) (scope : Scope) (statement read : ℕ) (row : List SelectionTree) (tree : SelectionTree) → RowStands program scope statement read row → IsSourceTree program scope (read_of statement (read + length row)) tree
    → RowStands program scope statement read (row ++ tree ∷ [])
row-pushed program scope statement read [] tree stand is = (subst (λ (n : ℕ). IsSourceTree program scope (read_of statement n) tree) (none read) is, tt) where
  none : (n : ℕ) → n + 0 ≡ n
  none n = omega arith
row-pushed program scope statement read (first ∷ row) tree stand is =
    (stand.0, row-pushed program scope statement (suc read) row tree stand.1 (subst (λ (n : ℕ). IsSourceTree program scope (read_of statement n) tree) (next read (length row)) is)) where
      next : (m n : ℕ) → m + suc n ≡ suc m + n
      next m n = omega arith

pub rows-pushed : (program : AffineProgram) (scope : Scope) (first : ℕ) (rows : List (List SelectionTree)) (row : List SelectionTree) → RowsStand program scope first rows → HasRow program scope (first + length rows) row
    → RowsStand program scope first (rows ++ row ∷ [])
rows-pushed program scope first [] row stand has = (subst (λ (n : ℕ). HasRow program scope n row) (none first) has, tt) where
  none : (n : ℕ) → n + 0 ≡ n
  none n = omega arith
rows-pushed program scope first (one ∷ rows) row stand has =
    (stand.0, rows-pushed program scope (suc first) rows row stand.1 (subst (λ (n : ℕ). HasRow program scope n row) (next first (length rows)) has)) where
      next : (m n : ℕ) → m + suc n ≡ suc m + n
      next m n = omega arith
