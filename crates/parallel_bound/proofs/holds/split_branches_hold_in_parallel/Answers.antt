use Rattle.parallel_bound.proofs.Parts.{split-branches-hold}
use Rattle.parallel_bound.proofs.holds.split_branches_hold_in_parallel.Goals as goal

pub returns : goal.returns
returns c = split-branches-hold c.parallel_pebblings_merge.ensures c.processors_share.ensures.runs c.processors_share.ensures.share
