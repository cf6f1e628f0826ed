use Rattle.k_partition.proofs.TermLoads.{terms-loaded-in-runs, terms-split}
use Rattle.k_partition.proofs.term_runs.terms_are_loaded_in_runs.Goals as goal

pub returns-clause-loaded : goal.returns-clause-loaded
returns-clause-loaded c = terms-loaded-in-runs c.runs_are_loaded.ensures.each c.runs_are_loaded.ensures.sum

pub returns-clause-split : goal.returns-clause-split
returns-clause-split c = terms-split (terms-loaded-in-runs c.runs_are_loaded.ensures.each c.runs_are_loaded.ensures.sum) c.different_computations_are_few.ensures
