use Rattle.std.proofs.Common.{subst, sym, length, ◌≡◌, refl, ◌∙◌, ap, ℕ, ◌*◌, ◌^◌, ◌≤◌, List, rules, arith}
use Rattle.std.specs.List.{AllByRecursion, range_with_len}
use Rattle.uniform_cover.specs.Products.{product_by}
use Rattle.uniform_cover.proofs.Powers.{self_pow_pos}
use Rattle.joint_partition.specs.declared.term.JointFamily.{JointFamily as Family}
use Rattle.joint_partition.specs.JointLoads.{factor_over, factor_under, weight_of}
use Rattle.joint_partition.specs.View.{joint_of}
use Rattle.joint_partition.proofs.Factors.{both-fit, labelings_power, own_weight, joint_weights}
use Rattle.joint_partition.proofs.GroupNumbers.{are-few, is-light, over-is, weight-is}
use Rattle.joint_partition.proofs.LowestTerms.{lowest-same}
use Rattle.joint_partition.proofs.numbers.joint_bound_of.Goals as goal

pub weight_of-m-requires : goal.weight_of-m-requires
weight_of-m-requires c = subst (λ (families : List Family). joint_weights families ≤ 16) (sym c.as_slice-families.ensures.value) (is-light c.args.term.now c.requires)

pub labelings_factor-requires-clause-light : goal.labelings_factor-requires-clause-light
labelings_factor-requires-clause-light c = subst (λ (families : List Family). joint_weights families ≤ 16) (sym c.as_slice-families.ensures.value) (is-light c.args.term.now c.requires)

pub labelings_factor-requires-clause-few : goal.labelings_factor-requires-clause-few
labelings_factor-requires-clause-few c =
    subst (λ (families : List Family). AllByRecursion (λ (f : Family). length f.labels.items ≤ 4) families) (sym c.as_slice-families.ensures.value) (are-few c.args.term.now c.requires)

pub weights_factor-requires : goal.weights_factor-requires
weights_factor-requires c = subst (λ (families : List Family). joint_weights families ≤ 16) (sym c.as_slice-families.ensures.value) (is-light c.args.term.now c.requires)

pub own_power-requires : goal.own_power-requires
own_power-requires c = omega (arith, c.weight_of-m.ensures, ap joint_weights c.as_slice-families.ensures.value, is-light c.args.term.now c.requires)

pub overflow_mul-over : goal.overflow_mul-over
overflow_mul-over c =
    let items : List Family = c.args.term.now.families.items in
    let labelings : c.labelings_factor.result ≡ product_by labelings_power items = c.labelings_factor.ensures ∙ ap (product_by labelings_power) c.as_slice-families.ensures.value in
    let groups : c.weights_factor.result ≡ product_by (own_weight items) (range_with_len 0 6) =
    c.weights_factor.ensures ∙ ap (λ (families : List Family). product_by (own_weight families) (range_with_len 0 6)) c.as_slice-families.ensures.value in
    let few : c.labelings_factor.result * c.weights_factor.result ≤ 79228162514264337593543950336 =
    both-fit items c.labelings_factor.result c.weights_factor.result (is-light c.args.term.now c.requires) (are-few c.args.term.now c.requires) labelings groups in
    search rules

pub lowest_terms-num-requires : goal.lowest_terms-num-requires
lowest_terms-num-requires c = omega (arith, c.own_power.ensures, self_pow_pos c.weight_of-m.result)

pub returns-clause-numbers : goal.returns-clause-numbers
returns-clause-numbers c =
    let items : List Family = c.args.term.now.families.items in
    let m_is : c.weight_of-m.result ≡ weight_of (joint_of c.args.term.now) = c.weight_of-m.ensures ∙ ap joint_weights c.as_slice-families.ensures.value ∙ weight-is c.args.term.now c.requires in
    let labelings : c.labelings_factor.result ≡ product_by labelings_power items = c.labelings_factor.ensures ∙ ap (product_by labelings_power) c.as_slice-families.ensures.value in
    let groups : c.weights_factor.result ≡ product_by (own_weight items) (range_with_len 0 6) =
    c.weights_factor.ensures ∙ ap (λ (families : List Family). product_by (own_weight families) (range_with_len 0 6)) c.as_slice-families.ensures.value in
    let over : c.labelings_factor.result * c.weights_factor.result ≡ factor_over (joint_of c.args.term.now) =
    ap (λ (n : ℕ). n * c.weights_factor.result) labelings ∙ ap (λ (n : ℕ). product_by labelings_power items * n) groups ∙ over-is c.args.term.now c.requires in
    let under : c.own_power.result ≡ factor_under (joint_of c.args.term.now) = c.own_power.ensures ∙ ap (λ (n : ℕ). n ^ n) m_is in
    record {
      a = refl;
      b = refl;
      q = refl;
      m = m_is;
      factor = lowest-same (c.labelings_factor.result * c.weights_factor.result) c.own_power.result (factor_over (joint_of c.args.term.now)) (factor_under (joint_of c.args.term.now))
          c.lowest_terms-num.result.0 c.lowest_terms-num.result.1 over under c.lowest_terms-num.ensures;
    }
