use Rattle.std.proofs.Common.{◌≡◌, ◌∙◌, sym, ap, subst, ℕ, ◌≤◌, sum_by}
use Rattle.std.specs.Prelude.{◌↔◌, IsTrue}
use Rattle.iolb_model.specs.declared.limits.TheConstants.{WEIGHTS}
use Rattle.reuse_paths.specs.declared.family.Family.{Family}
use Rattle.k_partition.proofs.Weights.{weight-of-code}
use Rattle.k_partition.specs.TermLoads.{weight_of}
use Rattle.k_partition.specs.View.{partition_of}
use Rattle.iolb_check.proofs.partition_limits.is_light.Goals as goal

pub returns : goal.returns
returns c =
    let same : sum_by (λ (f : Family). f.weight) c.as_slice.result.now ≡ weight_of (partition_of c.args.term.now) =
    ap (sum_by (λ (f : Family). f.weight)) c.as_slice.ensures.value ∙ sym (weight-of-code c.args.term.now.families.items) in
    subst (λ (n : ℕ). IsTrue c.are_light.result ↔ (n ≤ WEIGHTS)) same c.are_light.ensures
