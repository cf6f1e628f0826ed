use Rattle.std.proofs.Common.{ℕ, ◌<◌}
use Rattle.affine_program.specs.Parts.{meaning}
use Rattle.projective.specs.Projective.{RunsBelow}
use Rattle.projective.proofs.loops.runs.Given as goal

abbrev pub invariant-loop-parameter : goal.invariant-loop-parameter
invariant-loop-parameter l = (parameter : ℕ) → parameter < l.parameter → RunsBelow (meaning l.program) l.vars l.bounds parameter → ⊥
