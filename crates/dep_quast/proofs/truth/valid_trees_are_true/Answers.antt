use Rattle.dep_quast.proofs.Truths.{trees-true}
use Rattle.dep_quast.proofs.truth.valid_trees_are_true.Goals as goal

pub returns : goal.returns
returns c = trees-true
