use Rattle.std.proofs.Common.{drop, length}
use Rattle.iolb_model.specs.Program.{RowFits}
use Rattle.affine_program.specs.Parts.{meaning}
use Rattle.affine_program.specs.Tree.{row_of}
use Rattle.program_pages.proofs.statements.+walk.Given as goal

abbrev pub invariant-write_items-loop-item : goal.invariant-write_items-loop-item
invariant-write_items-loop-item l = RowFits (meaning l.program) (length l.names) (row_of (drop l.item-index l.items))
