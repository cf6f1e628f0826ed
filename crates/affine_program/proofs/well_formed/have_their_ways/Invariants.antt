use Rattle.std.proofs.Common.{length, take}
use Rattle.std.specs.List.{AllByRecursion, enumerate_from}
use Rattle.affine_program.specs.Parts.{HasItsWay}
use Rattle.affine_program.proofs.well_formed.have_their_ways.Given as goal

abbrev pub invariant-loop-number : goal.invariant-loop-number
invariant-loop-number l = AllByRecursion (HasItsWay (length l.draft.params.items) l.draft.tree.items) (enumerate_from 0 (take l.number l.statement-items))
