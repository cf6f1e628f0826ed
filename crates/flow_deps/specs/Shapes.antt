-- The shapes of source trees: trees without their multipliers.
use Rattle.std.specs.Prelude.{ℕ, List}
use Rattle.iolb_model.specs.Form.{AffineForm}
use Rattle.dep_quast.specs.Tree.{SelectionTree, leaf, test, source, input, empty, blank}

-- A tree without its multipliers: it says that no write is earlier, or names a statement, a level and a point, or tests a
-- form; other leaves have no shape of their own.
pub data Shape : Type 0 where
  no_write : Shape
  last_write : ℕ → ℕ → List AffineForm → Shape
  other : Shape
  split : AffineForm → Shape → Shape → Shape

-- the shape of a tree
abbrev pub shape_of : SelectionTree → Shape
shape_of (leaf (source claim)) = last_write claim.statement claim.level claim.point
shape_of (leaf (input shown)) = no_write
shape_of (leaf (empty shown)) = other
shape_of (leaf blank) = other
shape_of (test form above below) = split form (shape_of above) (shape_of below)
