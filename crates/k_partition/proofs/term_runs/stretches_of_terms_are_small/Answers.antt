use Rattle.k_partition.proofs.TermLoads.{stretches-of-terms}
use Rattle.k_partition.proofs.term_runs.stretches_of_terms_are_small.Goals as goal

pub returns : goal.returns
returns c =
    stretches-of-terms c.stretches_are_small.ensures.labels_each c.stretches_are_small.ensures.labels_sum c.stretches_are_small.ensures.points_each c.stretches_are_small.ensures.points_sum
