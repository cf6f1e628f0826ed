-- The way to a statement: what is around it in the tree, outermost first.
use Rattle.std.specs.Prelude.{ℕ, ◌==◌, if◌then◌else◌, List, [], ◌∷◌, ◌++◌, Option, Some, None, option_map}
use Rattle.iolb_model.specs.Form.{AffineForm}
use Rattle.iolb_model.specs.Program.{Item, assign, loop, guard, Row, done, next}

-- A step of the way: into a loop whose values are from its lower to its upper bound, both included, or into a guard whose
-- rows are to be met.
pub data PathStep : Type 0 where
  bounded : AffineForm → AffineForm → PathStep
  guarded : List AffineForm → PathStep

-- the first of two that there is
abbrev pub first_of : {A : Type 0} → Option A → Option A → Option A
first_of None b = b
first_of (Some x) b = Some x

-- the way to the statement of this number from an item and from a row, where it is there
abbrev mutual
  pub item_path : Item → ℕ → Option (List PathStep)
  item_path (assign statement) number = if statement == number then Some [] else None
  item_path (loop name direction lower upper body) number = option_map (λ path. bounded lower upper ∷ path) (row_path body number)
  item_path (guard rows body) number = option_map (λ path. guarded rows ∷ path) (row_path body number)

  pub row_path : Row → ℕ → Option (List PathStep)
  row_path done number = None
  row_path (next item row) number = first_of (item_path item number) (row_path row number)

-- the lower and the upper bound of each loop on a way
abbrev pub bounds_on : List PathStep → List (AffineForm × AffineForm)
bounds_on [] = []
bounds_on (bounded lower upper ∷ path) = (lower, upper) ∷ bounds_on path
bounds_on (guarded rows ∷ path) = bounds_on path

-- the rows of all guards on a way
abbrev pub guards_on : List PathStep → List AffineForm
guards_on [] = []
guards_on (bounded lower upper ∷ path) = guards_on path
guards_on (guarded rows ∷ path) = rows ++ guards_on path
