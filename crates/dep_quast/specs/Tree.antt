-- Source trees. (Quasi-affine selection trees, Feautrier 1991.)
use Rattle.std.specs.Prelude.{ℕ, ◌+◌, ℤ, if◌then◌else◌, List}
use Rattle.iolb_model.specs.Form.{AffineForm, form_value}
use Rattle.iolb_model.specs.Printed.{is_below_zero}
use Rattle.affine_form.specs.Multipliers.{FarkasMultipliers}
use Rattle.dep_quast.specs.declared.quast.Quast.{Quast, Test', Source, Input, Empty, Blank}

-- What a leaf claims of a source: the statement and its loop values, the level at which it comes before the reader, and
-- the multipliers that show it.
pub record SourceClaim : Type 0 where
  pub statement : ℕ
  pub level : ℕ
  pub point : List AffineForm
  pub inside : List FarkasMultipliers
  pub cell : List FarkasMultipliers
  pub before : List FarkasMultipliers
  pub between : List FarkasMultipliers

-- A leaf names a source, says that there is no earlier write, that no point comes there, or nothing.
pub data Leaf : Type 0 where
  source : SourceClaim → Leaf
  input : List FarkasMultipliers → Leaf
  empty : FarkasMultipliers → Leaf
  blank : Leaf

-- A tree is a leaf, or a test of a form over two trees: that of the points where the form is at least 0, and that of
-- the points where it is at most -1.
pub data SelectionTree : Type 0 where
  leaf : Leaf → SelectionTree
  test : AffineForm → SelectionTree → SelectionTree → SelectionTree

-- the tree that a program holds
abbrev pub tree_of : Quast → SelectionTree
tree_of (Test' form p above q below) = test form (tree_of above) (tree_of below)
tree_of (Source statement level point inside cell before between) = leaf (source (record {
  statement = statement;
  level = level;
  point = point.items;
  inside = inside.items;
  cell = cell.items;
  before = before.items;
  between = between.items;
}))
tree_of (Input earlier) = leaf (input earlier.items)
tree_of (Empty shown) = leaf (empty shown)
tree_of Blank = leaf blank

-- how many leaves a tree has
abbrev pub leaf_count : SelectionTree → ℕ
leaf_count (leaf chosen) = 1
leaf_count (test form above below) = leaf_count above + leaf_count below

-- the leaf that the tests choose at a point
abbrev pub leaf_at : SelectionTree → List ℤ → Leaf
leaf_at (leaf chosen) point = chosen
leaf_at (test form above below) point = if is_below_zero (form_value form point) then leaf_at below point else leaf_at above point
