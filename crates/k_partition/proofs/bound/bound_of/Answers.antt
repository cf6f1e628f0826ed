use Rattle.std.proofs.Common.{◌≡◌, refl, sym, ◌∙◌, ap, ℕ, ◌^◌, List}
use Rattle.uniform_cover.specs.Products.{product_by}
use Rattle.uniform_cover.proofs.ProductLemmas.{product_by-map}
use Rattle.reuse_paths.specs.declared.family.Family.{Family}
use Rattle.reuse_paths.specs.Families.{FamilyForms, family_of}
use Rattle.k_partition.specs.declared.term.Shape.{Shape}
use Rattle.k_partition.specs.Numbers.{factor_over, factor_under}
use Rattle.k_partition.specs.TermLoads.{weight_of}
use Rattle.k_partition.specs.View.{partition_of}
use Rattle.k_partition.proofs.OwnPowers.{own, weights}
use Rattle.k_partition.proofs.Weights.{weight-of-code}
use Rattle.k_partition.proofs.bound.bound_of.Goals as goal
use Rattle.k_partition.proofs.bound.bound_of.Goals.{in-Each, in-Sum}

pub returns-clause-numbers : goal.returns-clause-numbers
returns-clause-numbers c =
    let term = partition_of c.args.term.now in
    let items : List Family = c.args.term.now.families.items in
    let m_is : c.weight_of-m.result ≡ weight_of term = c.weight_of-m.ensures ∙ ap weights c.as_slice-families.ensures.value ∙ sym (weight-of-code items) in
    let over : c.match-term.num.0 ≡ factor_over c.args.term.now.shape term = elim c.match-term.branch [
      | in-Each w ↦ ap (λ (p : ℕ × ℕ). p.0) w.num-is ∙ sym (ap (λ (s : Shape). factor_over s term) w.in-Each.is)
      | in-Sum w ↦ ap (λ (p : ℕ × ℕ). p.0) w.num-is ∙ w.powers_of.ensures ∙ ap (product_by own) c.as_slice-families.ensures.value
          ∙ sym (product_by-map (λ (f : FamilyForms). f.weight ^ f.weight) family_of items) ∙ sym (ap (λ (s : Shape). factor_over s term) w.in-Sum.is)
    ] in
    let under : c.match-term.num.1 ≡ factor_under c.args.term.now.shape term = elim c.match-term.branch [
      | in-Each w ↦ ap (λ (p : ℕ × ℕ). p.1) w.num-is ∙ sym (ap (λ (s : Shape). factor_under s term) w.in-Each.is)
      | in-Sum w ↦ ap (λ (p : ℕ × ℕ). p.1) w.num-is ∙ w.own_power.ensures ∙ ap (λ (n : ℕ). n ^ n) m_is ∙ sym (ap (λ (s : Shape). factor_under s term) w.in-Sum.is)
    ] in
    record { a = refl; b = refl; q = refl; m = m_is; num = over; den = under }
