use Rattle.std.proofs.Common.{◌≡◌, ◌∙◌, sym, ap, subst, ℕ, ◌≤◌, sum_by}
use Rattle.std.specs.Prelude.{◌↔◌, IsTrue}
use Rattle.k_partition.proofs.TermCovers.{summed}
use Rattle.joint_partition.specs.declared.limits.TheConstants.{JOINT_WEIGHTS}
use Rattle.joint_partition.specs.declared.term.JointFamily.{JointFamily as Family}
use Rattle.joint_partition.specs.JointLoads.{weight_of}
use Rattle.joint_partition.specs.Term.{JointFamily}
use Rattle.joint_partition.specs.View.{family_of, joint_of}
use Rattle.joint_partition.proofs.small.is_light.Goals as goal

pub returns : goal.returns
returns c =
    let same : sum_by (λ (f : Family). f.weight) c.as_slice.result.now ≡ weight_of (joint_of c.args.term.now) =
    ap (sum_by (λ (f : Family). f.weight)) c.as_slice.ensures.value ∙ sym (summed (λ (f : JointFamily). f.weight) family_of c.args.term.now.families.items) in
    subst (λ (n : ℕ). IsTrue c.are_light.result ↔ (n ≤ JOINT_WEIGHTS)) same c.are_light.ensures
