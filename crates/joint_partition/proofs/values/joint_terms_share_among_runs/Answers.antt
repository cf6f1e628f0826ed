use Rattle.joint_partition.proofs.JointValues.{joint-terms-share-among-runs}
use Rattle.joint_partition.proofs.values.joint_terms_share_among_runs.Goals as goal

pub returns : goal.returns
returns c = joint-terms-share-among-runs c.terms_have_the_value.ensures c.different_computations_are_few.ensures c.joint_terms_are_loaded.ensures.runs
