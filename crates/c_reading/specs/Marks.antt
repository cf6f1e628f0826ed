-- Items as a list, by which a proof tells them apart.
use Rattle.std.specs.Prelude.{◌≡◌, List, [], ◌∷◌, refl, ℤ}
use Rattle.std.proofs.Common.{ap, ◌∙◌}
use Rattle.std.specs.Coded.{Coded, code_by, coded_list}
use Rattle.c_reading.specs.Access.{Statement}
use Rattle.c_reading.specs.declared.tree.Header.{Header}
use Rattle.c_reading.specs.Tree.{Item, assign, loop, guard, Items, done, next}

-- a loop or a guard begins, a statement stands there, or a loop or a guard ends
pub data Mark : Type 0 where
  begins : Header → Mark
  asks : List (List ℤ) → Mark
  does : Statement → Mark
  ends : Mark

-- the marks of items, in front of others
abbrev mutual
  item_marks : Item → List Mark → List Mark
  item_marks (assign s) ms = does s ∷ ms
  item_marks (loop h body) ms = begins h ∷ items_marks body (ends ∷ ms)
  item_marks (guard rows body) ms = asks rows ∷ items_marks body (ends ∷ ms)

  items_marks : Items → List Mark → List Mark
  items_marks done ms = ms
  items_marks (next i items) ms = item_marks i (items_marks items ms)

-- a loop or a guard over a body, in front of the items around it
abbrev wrapped : (Items → Item) → Items → List Items → Items × List Items
wrapped over body [] = (body, [])
wrapped over body (items ∷ around) = (next (over body) items, around)

-- the items that marks spell, and what stands around those behind the loops and guards that end
abbrev from_marks : List Mark → Items × List Items
from_marks [] = (done, [])
from_marks (does s ∷ ms) = let rest = from_marks ms in (next (assign s) rest.0, rest.1)
from_marks (ends ∷ ms) = let rest = from_marks ms in (done, rest.0 ∷ rest.1)
from_marks (begins h ∷ ms) = let rest = from_marks ms in wrapped (loop h) rest.0 rest.1
from_marks (asks rows ∷ ms) = let rest = from_marks ms in wrapped (guard rows) rest.0 rest.1

-- items in front of others
abbrev joined : Items → Items → Items
joined done others = others
joined (next i items) others = next i (joined items others)

joined_none : (items : Items) → joined items done ≡ items
joined_none done = refl
joined_none (next i items) = ap (next i) (joined_none items)

-- a body in front of others, then what ends it
wrapped_back : (over : Items → Item) (body items : Items) (around : List Items) (r : Items × List Items) → r ≡ (joined body done, items ∷ around) → wrapped over r.0 r.1 ≡ (next (over body) items, around)
wrapped_back over body items around r e =
    ap (λ (r : Items × List Items). wrapped over r.0 r.1) e ∙ ap (λ b. (next (over b) items, around)) (joined_none body)

mutual
  item_back : (i : Item) (ms : List Mark) → from_marks (item_marks i ms) ≡ (next i (from_marks ms).0, (from_marks ms).1)
  item_back (assign s) ms = refl
  item_back (loop h body) ms = wrapped_back (loop h) body (from_marks ms).0 (from_marks ms).1 _ (items_back body (ends ∷ ms))
  item_back (guard rows body) ms = wrapped_back (guard rows) body (from_marks ms).0 (from_marks ms).1 _ (items_back body (ends ∷ ms))

  items_back : (items : Items) (ms : List Mark) → from_marks (items_marks items ms) ≡ (joined items (from_marks ms).0, (from_marks ms).1)
  items_back done ms = refl
  items_back (next i items) ms = item_back i (items_marks items ms) ∙ ap (λ (r : Items × List Items). (next i r.0, r.1)) (items_back items ms)

pub marked_back : (items : Items) → (from_marks (items_marks items [])).0 ≡ items
marked_back items = ap (λ (r : Items × List Items). r.0) (items_back items []) ∙ joined_none items

-- items are stored as their marks
abbrev pub items_code : Coded Mark → Coded Items
items_code marks = code_by (List Mark) (coded_list marks) (λ items. items_marks items []) (λ ms. (from_marks ms).0) marked_back
