use Rattle.std.proofs.Common.{drop}
use Rattle.std.specs.Prelude.{◌↔◌}
use Rattle.affine_program.specs.Draft.{parts_of}
use Rattle.affine_program.specs.Parts.{meaning}
use Rattle.affine_program.specs.Printable.{IsPrintableRow}
use Rattle.affine_program.specs.Tree.{row_of}
use Rattle.affine_program.proofs.printable.+printable.Given as goal

abbrev pub invariant-is_row_printable-loop-item : goal.invariant-is_row_printable-loop-item
invariant-is_row_printable-loop-item l = IsPrintableRow (meaning (parts_of l.draft)) l.around l.guards (row_of (drop l.item-index l.items)) ↔ IsPrintableRow (meaning (parts_of l.draft)) l.around l.guards (row_of l.items)
