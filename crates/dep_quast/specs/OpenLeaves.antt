-- The leaves of a source tree to which points may come, at a reading instance.
use Rattle.std.specs.Prelude.{ℕ, Bool, true, false, ⊤, List, [], ◌∷◌, ◌++◌, map}
use Rattle.iolb_model.specs.Form.{AffineForm}
use Rattle.affine_form.specs.Substitution.{substitution}
use Rattle.affine_form.specs.Rows.{widened, IsSmallOver}
use Rattle.dep_quast.specs.Context.{no_row}
use Rattle.dep_quast.specs.Tree.{Leaf, source, input, empty, blank, SelectionTree, leaf, test}
use Rattle.dep_quast.specs.declared.open_leaves.Origin.{Origin}
use Rattle.dep_quast.specs.declared.open_leaves.Origin.TheVariants as origins

-- Where a leaf says that the word comes from: an instance of a statement, by its loop values as forms over the parameters
-- and the reader's loop values; no instance, so it is an input; or the leaf doesn't say.
pub data LeafOrigin : Type 0 where
  written : ℕ → List AffineForm → LeafOrigin
  as_input : LeafOrigin
  unknown : LeafOrigin

-- what the code holds
abbrev pub origin_of : Origin → LeafOrigin
origin_of (origins.Written statement point) = written statement point.items
origin_of origins.Input = as_input
origin_of origins.Unknown = unknown

-- whether it is an input
abbrev pub is_input : LeafOrigin → Bool
is_input (written statement point) = false
is_input as_input = true
is_input unknown = false

-- a leaf to which points may come: the tests on the way to it, at the reading instance, and where the word comes from
pub record OpenLeaf : Type 0 where
  pub tests : List AffineForm
  pub origin : LeafOrigin

-- a form over the parameters and the reader's loop values, at the reading instance: with the forms of a point, which are
-- over so many variables, put in for its variables
abbrev pub form_at : ℕ → List AffineForm → AffineForm → AffineForm
form_at vars point form = widened vars (substitution form point)

-- the row of a test on the side where its form is at most -1, there; on the other side it is the form
abbrev pub no_at : ℕ → List AffineForm → AffineForm → AffineForm
no_at vars point form = no_row vars (substitution form point)

-- the loop values of the instance that wrote the word, there
abbrev pub written_values : ℕ → List AffineForm → LeafOrigin → List AffineForm
written_values vars point (written statement values) = map (form_at vars point) values
written_values vars point as_input = []
written_values vars point unknown = []

-- the leaf itself, but for one that is empty
abbrev pub open_leaf : List AffineForm → Leaf → List OpenLeaf
open_leaf tests (source claim) = record { tests = tests; origin = written claim.statement claim.point } ∷ []
open_leaf tests (input shown) = record { tests = tests; origin = as_input } ∷ []
open_leaf tests (empty shown) = []
open_leaf tests blank = record { tests = tests; origin = unknown } ∷ []

-- the leaves of a tree that aren't empty, `yes` before `no`
abbrev pub open_leaves : ℕ → List AffineForm → List AffineForm → SelectionTree → List OpenLeaf
open_leaves vars point tests (leaf chosen) = open_leaf tests chosen
open_leaves vars point tests (test form above below) =
    open_leaves vars point (tests ++ form_at vars point form ∷ []) above ++ open_leaves vars point (tests ++ no_at vars point form ∷ []) below

-- a tree's tests are over so many variables
abbrev pub TestsFit : ℕ → SelectionTree → Type 0
TestsFit vars (leaf chosen) = ⊤
TestsFit vars (test form above below) = IsSmallOver vars form × TestsFit vars above × TestsFit vars below
