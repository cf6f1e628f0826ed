use Rattle.std.proofs.Common.{drop}
use Rattle.std.specs.Prelude.{◌↔◌}
use Rattle.iolb_model.specs.Program.{RowFits}
use Rattle.affine_program.specs.Draft.{parts_of}
use Rattle.affine_program.specs.Parts.{meaning}
use Rattle.affine_program.specs.Tree.{row_of}
use Rattle.affine_program.proofs.well_formed.+fitting.Given as goal

abbrev pub invariant-row_fits-loop-item : goal.invariant-row_fits-loop-item
invariant-row_fits-loop-item l = RowFits (meaning (parts_of l.draft)) l.variables (row_of (drop l.item-index l.items)) ↔ RowFits (meaning (parts_of l.draft)) l.variables (row_of l.items)
