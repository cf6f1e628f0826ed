use Rattle.std.proofs.Common.{◌≡◌, ◌+◌, ◌++◌, map, drop, length}
use Rattle.affine_program.specs.Parts.{statement_of}
use Rattle.affine_program.specs.Tree.{row_of}
use Rattle.c_reading.specs.Tree as read
use Rattle.c_grammar.specs.Well.{statement_count}
use Rattle.c_grammar.specs.Program.{statements_in}
use Rattle.affine_c.specs.Built.{AreItemsInside, ArePlaced}
use Rattle.affine_c.proofs.statements.+placing.Given as goal

abbrev pub invariant-place_items-loop-item : goal.invariant-place_items-loop-item
invariant-place_items-loop-item l = record {
  fits : AreItemsInside l.reading l.depth (read.items_of (drop l.item-index l.items));
  count : length l.statements.items + statement_count (read.items_of (drop l.item-index l.items)) ≡ length l.initial.statements.items + statement_count (read.items_of l.items);
  statements : map statement_of l.statements.items ++ statements_in l.parameters l.depth (read.items_of (drop l.item-index l.items)) ≡ map statement_of l.initial.statements.items ++ statements_in l.parameters l.depth (read.items_of l.items);
  placed : ArePlaced l.parameters (row_of l.tree) l.statements.items;
}
