use Rattle.uniform_cover.proofs.MeanLemmas.{step}
use Rattle.uniform_cover.proofs.mean.superadditive_step.Goals as goal

pub returns : goal.returns
returns c = step
