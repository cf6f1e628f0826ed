use Rattle.parallel_bound.proofs.PlayedByOne.{merge-pebblings}
use Rattle.parallel_bound.proofs.merging.parallel_pebblings_merge.Goals as goal

pub returns : goal.returns
returns c = merge-pebblings
