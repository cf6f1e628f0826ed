use Rattle.std.proofs.Common.{ℕ, ◌<◌}
use Rattle.affine_form.specs.UniPair.{AgreesBelow}
use Rattle.affine_form.proofs.uni_pair.UniPair.of.Given as goal

abbrev pub invariant-loop-row : goal.invariant-loop-row
invariant-loop-row l =
    (before : ℕ) → before < l.row → AgreesBelow l.fn.inverse l.fn.matrix before l.fn.matrix.columns
