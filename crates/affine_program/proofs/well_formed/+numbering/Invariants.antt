use Rattle.std.proofs.Common.{◌≡◌, ◌++◌, drop}
use Rattle.iolb_model.specs.Program.{row_statements}
use Rattle.affine_program.specs.Tree.{row_of}
use Rattle.affine_program.proofs.well_formed.+numbering.Given as goal

abbrev pub invariant-push_numbers-loop-item : goal.invariant-push_numbers-loop-item
invariant-push_numbers-loop-item l = l.numbers.items ++ row_statements (row_of (drop l.item-index l.items)) ≡ l.initial.numbers.items ++ row_statements (row_of l.items)
