-- Items, one more behind others.
use Rattle.std.proofs.Common.{◌≡◌, ap, refl, ◌∙◌, List, [], ◌∷◌, ◌++◌, map}
use Rattle.std.proofs.lemmas.List.{map_push}
use Rattle.c_reading.specs.Tree.{Item, items_from, items_of, item_of, with_item, next}
use Rattle.c_reading.specs.declared.tree.Item.{Item as CodeItem}

from_push : (items : List Item) (i : Item) → items_from (items ++ i ∷ []) ≡ with_item (items_from items) i
from_push [] i = refl
from_push (first ∷ items) i = ap (next first) (from_push items i)

pub items_push : (items : List CodeItem) (i : CodeItem) → items_of (items ++ i ∷ []) ≡ with_item (items_of items) (item_of i)
items_push items i = ap items_from (map_push item_of items i) ∙ from_push (map item_of items) (item_of i)
