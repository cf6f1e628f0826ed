use Rattle.affine_form.specs.UniPair.{AgreesBelow}
use Rattle.affine_form.proofs.uni_pair.first_difference.Given as goal

abbrev pub invariant-loop-col : goal.invariant-loop-col
invariant-loop-col l = AgreesBelow l.left l.right l.row l.col
