-- Claims of source trees, one after another.
use Rattle.std.proofs.Common.{◌≡◌, ap, subst, ℕ, zero, suc, ◌+◌, ◌<◌, List, [], ◌∷◌, length, map, get_or, drop, arith, Vec, Global, sym, zero-add}
use Rattle.std.specs.Prelude.{Some, slice_get}
use Rattle.std.proofs.lemmas.List.{length-map}
use Rattle.std.proofs.Math.Nat.{add-zero}
use Rattle.base_laws.proofs.Lists.{rest_after, there}
use Rattle.iolb_model.specs.Program.{AffineProgram, Statement as ModelStatement}
use Rattle.affine_program.specs.Parts.{ProgramParts, IsProgram, access_of, statement_of, meaning}
use Rattle.affine_program.proofs.Bounds.{limits-at}
use Rattle.dep_quast.proofs.Fits.{statement-is}
use Rattle.dep_quast.specs.declared.quast.Quast.{Quast}
use Rattle.dep_quast.specs.Tree.{SelectionTree, tree_of}
use Rattle.dep_quast.specs.Truth.{ReadFits, TreeFits, IsTrueTree}
use Rattle.claims.proofs.Members.{suc-moved}
use Rattle.dep_quast.specs.Quasts.{row_trees, tree_at}
use Rattle.dep_quast.specs.Trees.{read_of, RowFits, RowsFit, RowIsTrue, RowsAreTrue}

-- the tree at a place of true trees is true
row-at : (program : AffineProgram) (statement first read : ℕ) (row : List SelectionTree) (tree : SelectionTree) → RowIsTrue program statement first row
    → slice_get row read ≡ Some tree → IsTrueTree program (read_of statement (first + read)) tree
row-at program statement first read [] tree h e = absurd cc
row-at program statement first zero (q ∷ row) tree h e =
    subst (λ (t : SelectionTree). IsTrueTree program (read_of statement (first + 0)) t) (same q tree e)
    (subst (λ (n : ℕ). IsTrueTree program (read_of statement n) q) (sym (add-zero first)) h.0) where
      same : (t u : SelectionTree) → Some t ≡ Some u → t ≡ u
      same t u p = cc
row-at program statement first (suc read) (q ∷ row) tree h e =
    subst (λ (n : ℕ). IsTrueTree program (read_of statement n) tree) (suc-moved first read) (row-at program statement (suc first) read row tree h.1 e)

pub rows-at : (program : AffineProgram) (first statement read : ℕ) (rows : List (List SelectionTree)) (tree : SelectionTree) → RowsAreTrue program first rows
    → tree_at rows statement read ≡ Some tree
    → IsTrueTree program (read_of (first + statement) read) tree
rows-at program first statement read [] tree h e = absurd cc
rows-at program first zero read (row ∷ rows) tree h e =
    subst (λ (n : ℕ). IsTrueTree program (read_of n read) tree) (sym (add-zero first))
    (subst (λ (n : ℕ). IsTrueTree program (read_of first n) tree) (zero-add read) (row-at program first 0 read row tree h.0 e))
rows-at program first (suc statement) read (row ∷ rows) tree h e =
    subst (λ (n : ℕ). IsTrueTree program (read_of n read) tree) (suc-moved first statement) (rows-at program (suc first) statement read rows tree h.1 e)

-- a read of a program has a small number
pub read-few : (parts : ProgramParts) → IsProgram parts → (s r : ℕ) → ReadFits (meaning parts) (read_of s r) → (s < 32) × (r < 32)
read-few parts is s r fits =
    let below : s < length parts.statements = omega (arith, length-map parts.statements statement_of, fits.statement) in
    let at = there parts.statements s below in
    let same = statement-is parts s at.0 below at.1 in (
      omega (arith, below, is.limits.statements),
      omega (arith, fits.read, ap (λ (t : ModelStatement). length t.reads) same, length-map at.0.reads.items access_of, (limits-at parts s at.0 is below at.1).reads),
    )

-- the first of the trees that are left, and the others
pub row-split : (program : AffineProgram) (s i : ℕ) (row : List Quast) (q : Quast) → RowFits program s i (map tree_of (drop i row)) → i < length row → q ≡ get_or row i q
    → (ReadFits program (read_of s i) × TreeFits program (read_of s i) (tree_of q)) × RowFits program s (suc i) (map tree_of (drop (suc i) row))
row-split program s i row q fits below is = subst (λ (l : List Quast). RowFits program s i (map tree_of l)) (rest_after row i q below is) fits

pub rows-split : (program : AffineProgram) (s : ℕ) (rows : List (Vec Quast Global)) (row : Vec Quast Global) → RowsFit program s (map row_trees (drop s rows)) → s < length rows → row ≡ get_or rows s row
    → RowFits program s 0 (row_trees row) × RowsFit program (suc s) (map row_trees (drop (suc s) rows))
rows-split program s rows row fits below is = subst (λ (l : List (Vec Quast Global)). RowsFit program s (map row_trees l)) (rest_after rows s row below is) fits

-- the source tree of a read fits, where all do
row-fits-at : (program : AffineProgram) (statement first read : ℕ) (row : List SelectionTree) (tree : SelectionTree) → RowFits program statement first row
    → slice_get row read ≡ Some tree → TreeFits program (read_of statement (first + read)) tree
row-fits-at program statement first read [] tree h e = absurd cc
row-fits-at program statement first zero (q ∷ row) tree h e =
    subst (λ (t : SelectionTree). TreeFits program (read_of statement (first + 0)) t) (same q tree e)
    (subst (λ (n : ℕ). TreeFits program (read_of statement n) q) (sym (add-zero first)) h.0.1) where
      same : (t u : SelectionTree) → Some t ≡ Some u → t ≡ u
      same t u p = cc
row-fits-at program statement first (suc read) (q ∷ row) tree h e =
    subst (λ (n : ℕ). TreeFits program (read_of statement n) tree) (suc-moved first read) (row-fits-at program statement (suc first) read row tree h.1 e)

pub rows-fit-at : (program : AffineProgram) (first statement read : ℕ) (rows : List (List SelectionTree)) (tree : SelectionTree) → RowsFit program first rows
    → tree_at rows statement read ≡ Some tree → TreeFits program (read_of (first + statement) read) tree
rows-fit-at program first statement read [] tree h e = absurd cc
rows-fit-at program first zero read (row ∷ rows) tree h e =
    subst (λ (n : ℕ). TreeFits program (read_of n read) tree) (sym (add-zero first))
    (subst (λ (n : ℕ). TreeFits program (read_of first n) tree) (zero-add read) (row-fits-at program first 0 read row tree h.0 e))
rows-fit-at program first (suc statement) read (row ∷ rows) tree h e =
    subst (λ (n : ℕ). TreeFits program (read_of n read) tree) (suc-moved first statement) (rows-fit-at program (suc first) statement read rows tree h.1 e)
