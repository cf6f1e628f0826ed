use Rattle.std.proofs.Common.{◌≡◌, ◌+◌, ◌++◌, map, drop}
use Rattle.affine_program.specs.Tree.{item_of}
use Rattle.c_reading.specs.Tree as read
use Rattle.c_grammar.specs.Well.{statement_count}
use Rattle.c_grammar.specs.Program.{items_meant}
use Rattle.affine_c.specs.Built.{AreItemsInside}
use Rattle.affine_c.proofs.tree.+meaning.Given as goal

abbrev pub invariant-items_in-loop-item : goal.invariant-items_in-loop-item
invariant-items_in-loop-item l = record {
  fits : AreItemsInside l.reading l.depth (read.items_of (drop l.item-index l.items));
  count : l.number + statement_count (read.items_of (drop l.item-index l.items)) ≡ l.initial.number + statement_count (read.items_of l.items);
  items : map item_of l.made.items ++ items_meant l.reading.names l.parameters l.depth l.number (read.items_of (drop l.item-index l.items)) ≡ items_meant l.reading.names l.parameters l.depth l.initial.number (read.items_of l.items);
}
