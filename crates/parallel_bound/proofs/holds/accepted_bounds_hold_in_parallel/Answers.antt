use Rattle.parallel_bound.proofs.Accepted.{accepted-hold}
use Rattle.parallel_bound.proofs.holds.accepted_bounds_hold_in_parallel.Goals as goal

pub returns : goal.returns
returns c = accepted-hold c.split_branches_hold_in_parallel.ensures c.terms_are_loaded_in_runs.ensures.split c.joint_terms_share_among_runs.ensures c.terms_have_the_value.ensures
