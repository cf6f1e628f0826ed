-- The leaves of a wavefront term's edge fit what its check asks.
use Rattle.std.proofs.Common.{◌≡◌, sym, ◌∙◌, ap, subst, ℕ, List, [], ◌∷◌, ◌++◌, length, arith}
use Rattle.std.specs.Prelude.{Option, Some, None}
use Rattle.std.specs.List.{AllByRecursion}
use Rattle.base_laws.proofs.Lists.{All-append}
use Rattle.iolb_model.specs.Form.{AffineForm}
use Rattle.iolb_model.specs.Program.{AffineProgram}
use Rattle.affine_form.specs.System.{AllOver}
use Rattle.affine_form.specs.Rows.{IsSmallOver}
use Rattle.affine_program.specs.Domain.{depth_of}
use Rattle.dep_quast.specs.Context.{ReadOf, variables_at, no_row}
use Rattle.dep_quast.specs.Tree.{Leaf, source as source_leaf, input, empty, blank, SelectionTree, leaf, test}
use Rattle.dep_quast.specs.Truth.{FitsUnder, LeafFits}
use Rattle.reuse_paths.specs.LeafClaims.{LeafClaim, no_point, stops, is_credited, goes_on, arrives}
use Rattle.dep_quast.specs.OpenLeaves.{LeafOrigin, written, as_input, unknown, OpenLeaf, form_at, no_at, open_leaf, open_leaves, TestsFit}
use Rattle.reuse_paths.specs.Walks.{SpotForms}
use Rattle.reuse_paths.specs.WalkViews.{OriginFits}
use Rattle.dep_quast.proofs.OpenLeaves.{open-over, tests-fit}
use Rattle.wavefront.specs.EdgeViews.{AreFit, EntryFits}
use Rattle.wavefront.specs.FrontClaims.{front_variables, user_point, edge_leaves}
use Rattle.wavefront.specs.FrontFits.{EdgeFits, EdgesFit, PartsFit, SourceFits}
use Rattle.wavefront.specs.FrontTerm.{WavefrontTerm, user_read}

module _ (program : AffineProgram) (reader : ReadOf) (vars : ℕ) (point : List AffineForm) where
  abbrev IsFrom : OpenLeaf → Type 0
  IsFrom l = OriginFits program (variables_at program reader) l.origin

  from-leaf : (under tests : List AffineForm) (chosen : Leaf) → LeafFits program reader under chosen → AllByRecursion IsFrom (open_leaf tests chosen)
  from-leaf under tests (source_leaf claim) h = ((h.there.statement, h.there.point, h.there.forms), tt)
  from-leaf under tests (input shown) h = (tt, tt)
  from-leaf under tests (empty shown) h = tt
  from-leaf under tests blank h = (tt, tt)

  -- where the words of a tree's leaves come from fits
  pub from-fit : (under tests : List AffineForm) (tree : SelectionTree) → FitsUnder program reader under tree → AllByRecursion IsFrom (open_leaves vars point tests tree)
  from-fit under tests (leaf chosen) h = from-leaf under tests chosen h
  from-fit under tests (test form above below) h =
      All-append IsFrom (open_leaves vars point (tests ++ form_at vars point form ∷ []) above) (open_leaves vars point (tests ++ no_at vars point form ∷ []) below)
      (from-fit (under ++ form ∷ []) (tests ++ form_at vars point form ∷ []) above h.1)
      (from-fit (under ++ no_row (variables_at program reader) form ∷ []) (tests ++ no_at vars point form ∷ []) below h.2)

module _ (program : AffineProgram) (vars reading : ℕ) where
  entry-fits : (source : Option SpotForms) (origin : LeafOrigin) (entry : LeafClaim) → SourceFits program vars source → OriginFits program reading origin → EdgeFits program source entry
      → EntryFits vars reading source origin entry
  entry-fits source origin (no_point shown) there from fit = tt
  entry-fits source origin (stops label) there from fit = tt
  entry-fits source origin (is_credited credit rows label) there from fit = tt
  entry-fits source origin (goes_on rows label) there from fit = tt
  entry-fits None origin (arrives equal) there from fit = tt
  entry-fits (Some spot) as_input (arrives equal) there from fit = tt
  entry-fits (Some spot) unknown (arrives equal) there from fit = tt
  entry-fits (Some spot) (written statement values) (arrives equal) there from fit = λ e. record {
    one_each = from.1 ∙ ap (depth_of program) e ∙ sym there.point;
    enough = omega (arith, fit, there.point);
    values_over = from.2;
    point_over = there.forms;
  }

  all-fit : (source : Option SpotForms) (leaves : List OpenLeaf) (entries : List LeafClaim) → length entries ≡ length leaves → SourceFits program vars source
      → AllByRecursion (λ (l : OpenLeaf). AllOver vars l.tests) leaves → AllByRecursion (λ (l : OpenLeaf). OriginFits program reading l.origin) leaves
      → AllByRecursion (EdgeFits program source) entries → AreFit vars reading source leaves entries
  all-fit source [] [] e there over from fit = tt
  all-fit source [] (entry ∷ entries) e there over from fit = absurd (omega (arith, e))
  all-fit source (l ∷ leaves) [] e there over from fit = absurd (omega (arith, e))
  all-fit source (l ∷ leaves) (entry ∷ entries) e there over from fit =
      ((over.0, entry-fits source l.origin entry there from.0 fit.0), all-fit source leaves entries (omega (arith, e)) there over.1 from.1 fit.1)

pub edges-fit : (program : AffineProgram) (tree : SelectionTree) (term : WavefrontTerm) → AllByRecursion (IsSmallOver (front_variables program term)) (user_point program term)
    → length (user_point program term) ≡ variables_at program (user_read term) → PartsFit program term → EdgesFit program tree term
    → AreFit (front_variables program term) (variables_at program (user_read term)) term.source (edge_leaves program tree term) term.edge
edges-fit program tree term over many parts fits =
    all-fit program (front_variables program term) (variables_at program (user_read term)) term.source (edge_leaves program tree term) term.edge fits.each parts.source
    (open-over (front_variables program term) (user_point program term) over [] tree
    (subst (λ (n : ℕ). TestsFit n tree) (sym many) (tests-fit program (user_read term) [] tree fits.tree_fits)) tt)
    (from-fit program (user_read term) (front_variables program term) (user_point program term) [] [] tree fits.tree_fits)
    fits.entries
