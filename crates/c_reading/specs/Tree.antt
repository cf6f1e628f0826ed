-- Items, as they were read.
use Rattle.std.specs.Prelude.{List, [], ◌∷◌, map, ℤ}
use Rattle.c_reading.specs.Access.{Statement}
use Rattle.c_reading.specs.declared.tree.Header.{Header}
use Rattle.c_reading.specs.declared.tree.Item.{Item as CodeItem}
use Rattle.c_reading.specs.declared.tree.Item.TheOpen.{Item-F, Loop, Guard, Assign}
use Rattle.c_reading.specs.declared.tree.Item.TheFolds.{fold-Item}

-- an item: a statement, a loop over a row of items, or a guard of so many rows over one
mutual
  pub data Item : Type 0 where
    assign : Statement → Item
    loop : Header → Items → Item
    guard : List (List ℤ) → Items → Item

  pub data Items : Type 0 where
    done : Items
    next : Item → Items → Items

-- one item behind others
abbrev pub with_item : Items → Item → Items
with_item done i = next i done
with_item (next first items) i = next first (with_item items i)

-- ---- the code's items

-- items in a row
abbrev pub items_from : List Item → Items
items_from [] = done
items_from (i ∷ items) = next i (items_from items)

-- one item, with each inner item in its place
abbrev pub item_step : Item-F Item → Item
item_step (Loop header body) = loop header (items_from body.items)
item_step (Guard rows body) = guard rows.items (items_from body.items)
item_step (Assign statement) = assign statement

-- the code's item
abbrev pub item_of : CodeItem → Item
item_of = fold-Item Item item_step

-- the code's items
abbrev pub items_of : List CodeItem → Items
items_of items = items_from (map item_of items)
