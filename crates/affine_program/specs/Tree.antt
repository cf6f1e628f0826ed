-- What the code's tree of items means.
use Rattle.std.specs.Prelude.{List, [], ◌∷◌, map}
use Rattle.iolb_model.specs.Program.{assign, loop, guard, done, next, Item as ModelItem, Row as ModelRow}
use Rattle.affine_form.specs.Rows.{direction_of}
use Rattle.affine_program.specs.declared.item.Item.{Item}
use Rattle.affine_program.specs.declared.item.Item.TheOpen.{Item-F, Loop, Guard, Assign}
use Rattle.affine_program.specs.declared.item.Item.TheFolds.{fold-Item}

-- items in a row
abbrev pub row_from : List ModelItem → ModelRow
row_from [] = done
row_from (item ∷ items) = next item (row_from items)

-- one item, with the meaning of each inner item in its place
abbrev pub item_step : Item-F ModelItem → ModelItem
item_step (Loop name lower upper down body) = loop name (direction_of down) lower upper (row_from body.items)
item_step (Guard rows body) = guard rows.items (row_from body.items)
item_step (Assign statement) = assign statement

-- the meaning of an item
abbrev pub item_of : Item → ModelItem
item_of = fold-Item ModelItem item_step

-- the meaning of items in a row
abbrev pub row_of : List Item → ModelRow
row_of items = row_from (map item_of items)
