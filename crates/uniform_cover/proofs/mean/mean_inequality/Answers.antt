use Rattle.uniform_cover.proofs.MeanLemmas.{mean}
use Rattle.uniform_cover.proofs.mean.mean_inequality.Goals as goal

pub returns : goal.returns
returns c = mean
