use Rattle.std.proofs.Common.{drop}
use Rattle.std.specs.Prelude.{◌↔◌}
use Rattle.affine_program.specs.Tree.{row_of}
use Rattle.projective.specs.Projective.{IsBareRow}
use Rattle.projective.proofs.loops.+bare.Given as goal

abbrev pub invariant-are_bare-loop-item : goal.invariant-are_bare-loop-item
invariant-are_bare-loop-item l = IsBareRow (row_of (drop l.item-index l.items)) ↔ IsBareRow (row_of l.items)
