-- Trees that are shown by multipliers.
use Rattle.std.specs.Prelude.{◌≡◌, ℕ, ⊤, List, Option, Some, None}
use Rattle.std.specs.List.{AllByRecursion}
use Rattle.iolb_model.specs.Form.{AffineForm}
use Rattle.iolb_model.specs.Program.{AffineProgram}
use Rattle.affine_form.specs.Multipliers.{FarkasMultipliers}
use Rattle.claims.specs.Claims.{AllHold}
use Rattle.claims.specs.declared.place.Step.{Step}
use Rattle.dep_quast.specs.Claims.{claims}
use Rattle.dep_quast.specs.Context.{ReadOf}
use Rattle.dep_quast.specs.Tree.{SelectionTree, leaf, test, source, input, empty, blank, Leaf, tree_of, leaf_count}
use Rattle.dep_quast.specs.declared.quast.Quast.{Quast}
use Rattle.dep_quast.specs.Truth.{FitsUnder}
use Rattle.certificate_fit.specs.Limits.{IsNestedTree}
use Rattle.flow_deps.specs.declared.wanted.Wanted.{Wanted}
use Rattle.flow_deps.specs.declared.wanted.Wanted.TheVariants.{Short}
use Rattle.flow_deps.specs.Answers.{IsAsShort}
use Rattle.flow_deps.specs.Shapes.{Shape, shape_of}

-- A tree stands under these tests: it fits, each claim holds wherever the tree stands, and it is within the limits, with
-- so many tests nested at most.
pub record Stands (program : AffineProgram) (reader : ReadOf) (tests : List AffineForm) (nested : ℕ) (tree : SelectionTree) : Type 0 where
  pub fits : FitsUnder program reader tests tree
  pub valid : (place : List Step) → AllHold (claims program reader tests place tree)
  pub small : IsNestedTree nested tree

-- the multipliers of a leaf, and of a tree, are as short as is wanted
abbrev pub AreAsShort : Wanted → List FarkasMultipliers → Type 0
AreAsShort wanted shown = AllByRecursion (IsAsShort wanted) shown

abbrev pub IsLeafAsShort : Wanted → Leaf → Type 0
IsLeafAsShort wanted (source claim) = AreAsShort wanted claim.inside × AreAsShort wanted claim.cell × AreAsShort wanted claim.before × AreAsShort wanted claim.between
IsLeafAsShort wanted (input shown) = AreAsShort wanted shown
IsLeafAsShort wanted (empty shown) = IsAsShort wanted shown
IsLeafAsShort wanted blank = ⊤

abbrev pub IsTreeAsShort : Wanted → SelectionTree → Type 0
IsTreeAsShort wanted (leaf chosen) = IsLeafAsShort wanted chosen
IsTreeAsShort wanted (test form above below) = IsTreeAsShort wanted above × IsTreeAsShort wanted below

-- a tree of a shape that stands under these tests, with multipliers as short as is wanted
pub record IsShown (wanted : Wanted) (program : AffineProgram) (reader : ReadOf) (tests : List AffineForm) (nested : ℕ) (shape : Shape) (tree : SelectionTree) : Type 0 where
  pub has_shape : shape_of tree ≡ shape
  pub stands : Stands program reader tests nested tree
  pub as_short : IsTreeAsShort wanted tree

-- no tree of the shape is shown by short lists
abbrev pub IsNotShown : AffineProgram → ReadOf → List AffineForm → ℕ → Shape → Type 0
IsNotShown program reader tests nested shape = (tree : SelectionTree) → ¬ IsShown Short program reader tests nested shape tree

-- what a search for a tree of a shape finds under these tests: a tree that is shown, as short as is wanted; or nothing, and
-- then no short lists show one
abbrev pub FindsTree : Wanted → AffineProgram → ReadOf → List AffineForm → ℕ → Shape → Option Quast → Type 0
FindsTree wanted program reader tests nested shape None = IsNotShown program reader tests nested shape
FindsTree wanted program reader tests nested shape (Some quast) = IsShown wanted program reader tests nested shape (tree_of quast)

-- a leaf stands under tests, however many tests are nested around it
pub record IsLeafUnder (program : AffineProgram) (reader : ReadOf) (tests : List AffineForm) (tree : SelectionTree) : Type 0 where
  pub stands : (nested : ℕ) → Stands program reader tests nested tree
  pub one : leaf_count tree ≡ 1
