use Rattle.uniform_cover.proofs.MeanLemmas.{weighted_mean}
use Rattle.uniform_cover.proofs.mean.weighted_mean_inequality.Goals as goal

pub returns : goal.returns
returns c = weighted_mean
