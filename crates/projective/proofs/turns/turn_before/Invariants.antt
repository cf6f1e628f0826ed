use Rattle.std.proofs.Common.{◌≡◌, ◌++◌, map, drop}
use Rattle.affine_program.specs.Parts.{meaning}
use Rattle.projective.specs.Turns.{turn_before, turn_values}
use Rattle.projective.proofs.turns.turn_before.Given as goal

abbrev pub invariant-loop-place : goal.invariant-loop-place
invariant-loop-place l = l.point.items ++ turn_values (meaning l.program) l.level l.place (drop l.place l.bounds-items) ≡ turn_before (meaning l.program) l.level
