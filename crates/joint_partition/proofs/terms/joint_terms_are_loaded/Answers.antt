use Rattle.joint_partition.proofs.JointLoads.{joint-terms-loaded, joint-terms-loaded-in-runs}
use Rattle.joint_partition.proofs.terms.joint_terms_are_loaded.Goals as goal

pub returns-clause-runs : goal.returns-clause-runs
returns-clause-runs c = joint-terms-loaded-in-runs c.joint_terms_are_sound.ensures c.runs_are_loaded.ensures

pub returns-clause-pebblings : goal.returns-clause-pebblings
returns-clause-pebblings c = joint-terms-loaded c.joint_terms_are_sound.ensures c.joints_are_loaded.ensures
