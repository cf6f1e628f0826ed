use Rattle.std.proofs.Common.{◌≡◌, ◌++◌, drop, length}
use Rattle.iolb_model.specs.Program.{RowFits}
use Rattle.affine_program.specs.Parts.{meaning}
use Rattle.affine_program.specs.Tree.{row_of}
use Rattle.affine_c.specs.Text.{row_text}
use Rattle.affine_c.proofs.items.+printing.Given as goal

abbrev pub invariant-push_items-loop-item : goal.invariant-push_items-loop-item
invariant-push_items-loop-item l = record {
  fits : RowFits (meaning l.program) (length l.names) (row_of (drop l.item-index l.items));
  text : l.text.items ++ row_text (meaning l.program) l.names (row_of (drop l.item-index l.items)) ≡ l.initial.text.items ++ row_text (meaning l.program) l.names (row_of l.items);
}
