use Rattle.projective_bounds.proofs.Kept.{source-trees-keep}
use Rattle.projective_bounds.proofs.kept_laws.source_trees_keep_loops.Goals as goal

pub returns : goal.returns
returns c = source-trees-keep
