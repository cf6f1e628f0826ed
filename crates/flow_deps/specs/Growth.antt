-- What stands while a tree grows.
use Rattle.std.specs.Prelude.{ℕ, ◌≤◌, List, ◌++◌, length}
use Rattle.std.specs.List.{AllByRecursion}
use Rattle.iolb_model.specs.Form.{AffineForm}
use Rattle.iolb_model.specs.Program.{AffineProgram}
use Rattle.affine_form.specs.Rows.{IsSmallOver}
use Rattle.dep_quast.specs.Context.{ReadOf, variables_at}
use Rattle.dep_quast.specs.Tree.{tree_of}
use Rattle.flow_deps.specs.Shown.{IsLeafUnder}
use Rattle.flow_deps.specs.declared.growth.Guarded.{Guarded}

-- a leaf stands under tests and its guards, which are small forms, at most so many
pub record IsGuarded (program : AffineProgram) (reader : ReadOf) (tests : List AffineForm) (room : ℕ) (guarded : Guarded) : Type 0 where
  pub few : length guarded.guards.items ≤ room
  pub small : AllByRecursion (IsSmallOver (variables_at program reader)) guarded.guards.items
  pub leaf_stands : IsLeafUnder program reader (tests ++ guarded.guards.items) (tree_of guarded.leaf)
