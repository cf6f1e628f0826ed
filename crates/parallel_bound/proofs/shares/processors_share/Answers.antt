use Rattle.parallel_bound.proofs.OwnShares.{instances-are-computed, processors-make-runs, some-computes-its-share}
use Rattle.parallel_bound.proofs.shares.processors_share.Goals as goal

pub returns : goal.returns
returns c = record {
  runs = processors-make-runs c.complete_pebblings_are_runs.ensures;
  computed = instances-are-computed c.complete_pebblings_are_runs.ensures;
  share = some-computes-its-share c.complete_pebblings_are_runs.ensures;
}
