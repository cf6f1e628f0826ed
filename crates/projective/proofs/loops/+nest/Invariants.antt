use Rattle.std.proofs.Common.{drop}
use Rattle.std.specs.Prelude.{◌↔◌}
use Rattle.affine_program.specs.Tree.{row_of}
use Rattle.projective.specs.Projective.{IsNestRow}
use Rattle.projective.proofs.loops.+nest.Given as goal

abbrev pub invariant-is_nest-loop-place : goal.invariant-is_nest-loop-place
invariant-is_nest-loop-place l = IsNestRow (row_of (drop l.place l.items)) ↔ IsNestRow (row_of l.items)
