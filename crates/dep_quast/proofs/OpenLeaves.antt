-- The tests of open leaves are over the nest's variables, and a reader's forms are few.
use Rattle.std.proofs.Common.{◌≡◌, sym, ℕ, ◌≤◌, List, [], ◌∷◌, ◌++◌, length, arith}
use Rattle.std.specs.List.{AllByRecursion}
use Rattle.std.proofs.Math.IntN.{pos, negsuc}
use Rattle.std.proofs.lemmas.List.{length-map}
use Rattle.base_laws.proofs.Lists.{All-append}
use Rattle.iolb_model.specs.Form.{AffineForm}
use Rattle.iolb_model.specs.Program.{AffineProgram}
use Rattle.affine_form.specs.Form.{variables}
use Rattle.affine_form.specs.Substitution.{substitution}
use Rattle.affine_form.specs.System.{AllOver}
use Rattle.affine_form.specs.Rows.{IsSmallOver}
use Rattle.affine_form.proofs.RowLemmas.{length-widened, length-difference, variables-substitution}
use Rattle.affine_program.specs.Parts.{ProgramParts, IsProgram, meaning, statement_of}
use Rattle.dep_quast.specs.Context.{ReadOf, no_row, variables_at}
use Rattle.dep_quast.specs.Tree.{Leaf as TreeLeaf, source, input, empty, blank, SelectionTree, leaf, test}
use Rattle.dep_quast.specs.Truth.{ReadFits, FitsUnder}
use Rattle.dep_quast.proofs.Fits.{params-few, depth-few}
use Rattle.dep_quast.specs.OpenLeaves.{OpenLeaf, form_at, no_at, open_leaf, open_leaves, TestsFit}

module _ (vars : ℕ) (point : List AffineForm) (point-over : AllByRecursion (IsSmallOver vars) point) where
  leaf-over : (tests : List AffineForm) (chosen : TreeLeaf) → AllOver vars tests → AllByRecursion (λ (l : OpenLeaf). AllOver vars l.tests) (open_leaf tests chosen)
  leaf-over tests (source claim) h = (h, tt)
  leaf-over tests (input shown) h = (h, tt)
  leaf-over tests (empty shown) h = tt
  leaf-over tests blank h = (h, tt)

  pub open-over : (tests : List AffineForm) (tree : SelectionTree) → TestsFit (length point) tree → AllOver vars tests → AllByRecursion (λ (l : OpenLeaf). AllOver vars l.tests) (open_leaves vars point tests tree)
  open-over tests (leaf chosen) fit h = leaf-over tests chosen h
  open-over tests (test form above below) fit h =
      let put : variables (substitution form point) ≤ vars = variables-substitution form point vars (sym fit.0.over) point-over in
      let yes : variables (form_at vars point form) ≡ vars = length-widened vars (substitution form point) put in
      let no : variables (no_at vars point form) ≡ vars = length-difference vars (record { coefficients = []; constant = pos 0 }) (substitution form point) (negsuc 0) (omega arith) put in
      All-append (λ (l : OpenLeaf). AllOver vars l.tests) (open_leaves vars point (tests ++ form_at vars point form ∷ []) above) (open_leaves vars point (tests ++ no_at vars point form ∷ []) below)
      (open-over (tests ++ form_at vars point form ∷ []) above fit.1 (All-append (λ (row : AffineForm). variables row ≡ vars) tests (form_at vars point form ∷ []) h (yes, tt)))
      (open-over (tests ++ no_at vars point form ∷ []) below fit.2 (All-append (λ (row : AffineForm). variables row ≡ vars) tests (no_at vars point form ∷ []) h (no, tt)))

-- a reader has few variables
pub reader-few : (parts : ProgramParts) (reader : ReadOf) → IsProgram parts → ReadFits (meaning parts) reader → variables_at (meaning parts) reader ≤ 24
reader-few parts reader is fits =
    omega (arith, params-few parts is, depth-few parts is reader.statement (omega (arith, length-map parts.statements statement_of, fits.statement)))

-- the tests of a tree that fits are over its reader's variables
pub tests-fit : (program : AffineProgram) (reader : ReadOf) (tests : List AffineForm) (tree : SelectionTree) → FitsUnder program reader tests tree → TestsFit (variables_at program reader) tree
tests-fit program reader tests (leaf chosen) h = tt
tests-fit program reader tests (test form above below) h =
    (h.0, tests-fit program reader (tests ++ form ∷ []) above h.1, tests-fit program reader (tests ++ no_row (variables_at program reader) form ∷ []) below h.2)
