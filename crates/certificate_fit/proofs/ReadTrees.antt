-- What the source trees of reads have, where they fit a program: their leaves, their tests, and a tree for each read.
use Rattle.std.proofs.Common.{Bool, true, false, ◌≡◌, refl, sym, ◌∙◌, ap, subst, ℕ, zero, suc, ◌+◌, ◌<◌, ◌≤◌, List, [], ◌∷◌, ◌++◌, length, arith, zero-add}
use Rattle.std.specs.Prelude.{Option, Some, option_and_then, slice_get, ◌==◌, if◌then◌else◌, codes}
use Rattle.std.proofs.lemmas.Bool.{eqb-true, lt-ltb}
use Rattle.std.proofs.lemmas.List.{length-append}
use Rattle.std.proofs.Math.Nat.{add-suc, add-zero}
use Rattle.iolb_model.specs.Form.{AffineForm}
use Rattle.iolb_model.specs.Program.{AffineProgram, statement_at}
use Rattle.claims.specs.declared.place.Step.{Step}
use Rattle.claims.specs.declared.place.Step.TheVariants.{Key}
use Rattle.affine_form.specs.Rows.{BoundsFit}
use Rattle.dep_quast.specs.Context.{ReadOf}
use Rattle.dep_quast.specs.Tree.{source, input, empty, blank, SelectionTree, leaf, test}
use Rattle.dep_quast.specs.Truth.{ReadFits, TreeFits}
use Rattle.dep_quast.specs.OpenLeaves.{open_leaves, form_at, no_at}
use Rattle.dep_quast.specs.Quasts.{tree_at as tree_of_read}
use Rattle.dep_quast.specs.Trees.{RowFits, RowsFit, read_of}
use Rattle.claims.specs.Claims.{AllHold, numbered}
use Rattle.claims.proofs.Laws.{AllHold-left, AllHold-right}
use Rattle.claims.proofs.Members.{suc-moved}
use Rattle.certificate_fit.specs.EntryFit.{names_in, names_if, leaf_names}
use Rattle.certificate_fit.specs.Limits.{AreSmallBounds}
use Rattle.certificate_fit.specs.PartFit.{bounds_at}
use Rattle.certificate_fit.specs.TreeFit.{row_at, trees_fit}

-- the leaves that aren't empty are as many, whatever the point
pub open-many : (vars : ℕ) (point tests : List AffineForm) (tree : SelectionTree) → length (open_leaves vars point tests tree) ≡ length (names_in tree)
open-many vars point tests (leaf (source claim)) = refl
open-many vars point tests (leaf (input shown)) = refl
open-many vars point tests (leaf (empty shown)) = refl
open-many vars point tests (leaf blank) = refl
open-many vars point tests (test form above below) =
    let above_tests : List AffineForm = tests ++ form_at vars point form ∷ [] in
    let below_tests : List AffineForm = tests ++ no_at vars point form ∷ [] in
    omega (
      arith,
      length-append (open_leaves vars point above_tests above) (open_leaves vars point below_tests below),
      length-append (names_in above) (names_in below),
      open-many vars point above_tests above,
      open-many vars point below_tests below,
    )

pub bounds-fit : (vars index : ℕ) (place : List Step) (nest : List (AffineForm × AffineForm))
    → AreSmallBounds nest → AllHold (numbered (bounds_at vars place) index nest) → BoundsFit (vars + index) nest
bounds-fit vars index place [] small h = tt
bounds-fit vars index place (bounds ∷ nest) small h = (
  (record { over = h.0; small = small.0.0 }, record { over = h.1.0; small = small.0.1 }),
  subst (λ (n : ℕ). BoundsFit n nest) (add-suc vars index) (bounds-fit vars (suc index) place nest small.1 h.1.1),
)

pub columns-many : (rows columns called : ℕ) → columns ≡ (if rows == 0 then 0 else called) → 1 ≤ rows → columns ≡ called
columns-many rows columns called e some = by (rows == 0) refl e where
  by : (b : Bool) → (rows == 0) ≡ b → columns ≡ (if b then 0 else called) → columns ≡ called
  by true add-zero d = absurd (let no_rows : rows ≡ 0 = eqb-true rows 0 add-zero in omega arith)
  by false some d = d

-- ---- trees of reads

pub record TreeOfRead (program : AffineProgram) (trees : List (List SelectionTree)) (reader : ReadOf) (tree : SelectionTree) : Type 0 where
  pub there : tree_of_read trees reader.statement reader.read ≡ Some tree
  pub fits : TreeFits program reader tree

-- the row of a statement
record RowOf (program : AffineProgram) (rows : List (List SelectionTree)) (place statement : ℕ) (row : List SelectionTree) : Type 0 where
  there : slice_get rows place ≡ Some row
  many : length row ≡ length (statement_at program statement).reads
  fits : RowFits program statement 0 row

-- the tree of a read
record TreeIn (program : AffineProgram) (row : List SelectionTree) (place statement read : ℕ) (tree : SelectionTree) : Type 0 where
  there : slice_get row place ≡ Some tree
  fits : TreeFits program (read_of statement read) tree

module _ (program : AffineProgram) where
  row-of : (place : List Step) (first k : ℕ) (rows : List (List SelectionTree)) → k < length rows → AllHold (numbered (row_at program place) first rows) → RowsFit program first rows
      → (row : List SelectionTree) × RowOf program rows k (first + k) row
  row-of place first k [] below h fits = absurd (omega arith)
  row-of place first zero (row ∷ rows) below h fits =
      let here : AllHold (row_at program place first row) = AllHold-left (row_at program place first row) (numbered (row_at program place) (suc first) rows) h in (
        row,
        record {
          there = refl;
          many = subst (λ (n : ℕ). length row ≡ length (statement_at program n).reads) (sym (add-zero first)) here.0;
          fits = subst (λ (n : ℕ). RowFits program n 0 row) (sym (add-zero first)) fits.0;
        },
      )
  row-of place first (suc k) (row ∷ rows) below h fits =
      let later = row-of place (suc first) k rows (omega arith) (AllHold-right (row_at program place first row) (numbered (row_at program place) (suc first) rows) h) fits.1 in (
        later.0,
        record {
          there = later.1.there;
          many = subst (λ (n : ℕ). length later.0 ≡ length (statement_at program n).reads) (suc-moved first k) later.1.many;
          fits = subst (λ (n : ℕ). RowFits program n 0 later.0) (suc-moved first k) later.1.fits;
        },
      )

  tree-in : (statement first k : ℕ) (row : List SelectionTree) → k < length row → RowFits program statement first row → (tree : SelectionTree) × TreeIn program row k statement (first + k) tree
  tree-in statement first k [] below fits = absurd (omega arith)
  tree-in statement first zero (tree ∷ row) below fits =
      (tree, record { there = refl; fits = subst (λ (n : ℕ). TreeFits program (read_of statement n) tree) (sym (add-zero first)) fits.0.1 })
  tree-in statement first (suc k) (tree ∷ row) below fits =
      let later = tree-in statement (suc first) k row (omega arith) fits.1 in
      (later.0, record { there = later.1.there; fits = subst (λ (n : ℕ). TreeFits program (read_of statement n) later.0) (suc-moved first k) later.1.fits })

  -- the tree of a read that is there
  pub tree-of : (trees : List (List SelectionTree)) (reader : ReadOf) → ReadFits program reader → AllHold (trees_fit program trees) → RowsFit program 0 trees
      → (tree : SelectionTree) × TreeOfRead program trees reader tree
  tree-of trees reader read h fits =
      let row = row-of (Key (codes "quasts") ∷ []) 0 reader.statement trees (omega (arith, h.0, read.statement)) h.1 fits in
      let row_fits : RowFits program reader.statement 0 row.0 = subst (λ (n : ℕ). RowFits program n 0 row.0) (zero-add reader.statement) row.1.fits in
      let many : length row.0 ≡ length (statement_at program reader.statement).reads =
      subst (λ (n : ℕ). length row.0 ≡ length (statement_at program n).reads) (zero-add reader.statement) row.1.many in
      let tree = tree-in reader.statement 0 reader.read row.0 (omega (arith, read.read, many)) row_fits in (
        tree.0,
        record {
          there = ap (λ (o : Option (List SelectionTree)). option_and_then (λ (r : List SelectionTree). slice_get r reader.read) o) row.1.there ∙ tree.1.there;
          fits = subst (λ (n : ℕ). TreeFits program (read_of reader.statement n) tree.0) (zero-add reader.read) tree.1.fits;
        },
      )

-- a read that is there has its tree's leaves
pub names-of : (program : AffineProgram) (trees : List (List SelectionTree)) (reader : ReadOf) (tree : SelectionTree) → reader.read < length (statement_at program reader.statement).reads
    → tree_of_read trees reader.statement reader.read ≡ Some tree → leaf_names program trees reader ≡ names_in tree
names-of program trees reader tree below there =
    ap (λ (b : Bool). if b then names_if (tree_of_read trees reader.statement reader.read) else []) (lt-ltb reader.read (length (statement_at program reader.statement).reads) below)
    ∙ ap names_if there

-- and as many
pub leaves-many : (program : AffineProgram) (trees : List (List SelectionTree)) (reader : ReadOf) (tree : SelectionTree) → reader.read < length (statement_at program reader.statement).reads
    → tree_of_read trees reader.statement reader.read ≡ Some tree → length (leaf_names program trees reader) ≡ length (names_in tree)
leaves-many program trees reader tree below there = ap length (names-of program trees reader tree below there)
