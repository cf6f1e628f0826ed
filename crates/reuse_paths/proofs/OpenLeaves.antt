-- The open leaves of a tree that fits fit a walk.
use Rattle.std.proofs.Common.{◌≡◌, sym, ◌∙◌, ℕ, ◌≤◌, List, [], ◌∷◌, ◌++◌, length, arith}
use Rattle.std.specs.List.{AllByRecursion}
use Rattle.std.proofs.Math.IntN.{pos, negsuc}
use Rattle.base_laws.proofs.Lists.{All-append}
use Rattle.iolb_model.specs.Form.{AffineForm}
use Rattle.affine_form.specs.Form.{variables}
use Rattle.affine_form.specs.Substitution.{substitution}
use Rattle.affine_form.specs.System.{AllOver}
use Rattle.affine_form.specs.Rows.{IsSmallOver}
use Rattle.affine_form.proofs.RowLemmas.{length-widened, length-difference, variables-substitution}
use Rattle.dep_quast.specs.Context.{ReadOf, no_row, variables_at}
use Rattle.dep_quast.specs.Tree.{Leaf as TreeLeaf, source, input, empty, blank, SelectionTree, leaf, test}
use Rattle.dep_quast.specs.Truth.{FitsUnder, LeafFits}
use Rattle.reuse_paths.specs.WalkSettings.{WalkSetting, reading_point, region_variables}
use Rattle.reuse_paths.specs.WalkViews.{OpenLeafFits}
use Rattle.dep_quast.specs.OpenLeaves.{form_at, no_at, open_leaf, open_leaves}

module _ (walk : WalkSetting) (reader : ReadOf) (point-over : AllByRecursion (IsSmallOver (region_variables walk reader.statement)) (reading_point walk reader.statement)) where
  -- the open leaves of a tree that fits fit
  leaf-fits : (under tests : List AffineForm) (chosen : TreeLeaf) → LeafFits walk.program reader under chosen → AllOver (region_variables walk reader.statement) tests
      → AllByRecursion (OpenLeafFits walk reader.statement) (open_leaf tests chosen)
  leaf-fits under tests (source claim) fits h = (record { tests = h; origin = (fits.there.statement, fits.there.point, fits.there.forms) }, tt)
  leaf-fits under tests (input shown) fits h = (record { tests = h; origin = tt }, tt)
  leaf-fits under tests (empty shown) fits h = tt
  leaf-fits under tests blank fits h = (record { tests = h; origin = tt }, tt)

  pub open-fits : (under tests : List AffineForm) (tree : SelectionTree) → FitsUnder walk.program reader under tree → length (reading_point walk reader.statement) ≡ variables_at walk.program reader
      → AllOver (region_variables walk reader.statement) tests
      → AllByRecursion (OpenLeafFits walk reader.statement) (open_leaves (region_variables walk reader.statement) (reading_point walk reader.statement) tests tree)
  open-fits under tests (leaf chosen) fits many h = leaf-fits under tests chosen fits h
  open-fits under tests (test form above below) fits many h =
      let vars : ℕ = region_variables walk reader.statement in
      let point : List AffineForm = reading_point walk reader.statement in
      let put : variables (substitution form point) ≤ vars = variables-substitution form point vars (many ∙ sym fits.0.over) point-over in
      let yes : variables (form_at vars point form) ≡ vars = length-widened vars (substitution form point) put in
      let no : variables (no_at vars point form) ≡ vars = length-difference vars (record { coefficients = []; constant = pos 0 }) (substitution form point) (negsuc 0) (omega arith) put in
      All-append (OpenLeafFits walk reader.statement) (open_leaves vars point (tests ++ form_at vars point form ∷ []) above) (open_leaves vars point (tests ++ no_at vars point form ∷ []) below)
      (open-fits (under ++ form ∷ []) (tests ++ form_at vars point form ∷ []) above fits.1 many (All-append (λ (row : AffineForm). variables row ≡ vars) tests (form_at vars point form ∷ []) h (yes, tt)))
      (open-fits (under ++ no_row (variables_at walk.program reader) form ∷ []) (tests ++ no_at vars point form ∷ []) below fits.2 many (All-append (λ (row : AffineForm). variables row ≡ vars) tests (no_at vars point form ∷ []) h (no, tt)))
