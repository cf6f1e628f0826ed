use Rattle.std.proofs.Common.{◌≡◌, ◌<◌, ◌+◌, subst, ◌∙◌, ap, ℕ, ℤ, pos, List, inr, rules, arith, FitsSigned, to_z, of_z}
use Rattle.std.specs.Prelude.{unsigned_abs}
use mir.Syntax.{w128}
use Rattle.std.proofs.lemmas.Int.{to_z-of_z}
use Rattle.iolb_model.specs.Polynomial.{Term}
use Rattle.poly_tree.specs.Printed.{written_terms}
use Rattle.poly_tree.specs.Terms.{terms_of}
use Rattle.domain_count.specs.Coefficients.{degree_of}
use Rattle.domain_count.specs.Summing.{AreAdded, IsPart, PartPasses}
use Rattle.domain_count.proofs.Adding.{one-more-part, part-passes, sum-passes}
use Rattle.domain_count.proofs.nest_summation.powers_sum.Goals as goal

pub returns-in_err-part-clause-wide : goal.returns-in_err-part-clause-wide
returns-in_err-part-clause-wide c = λ e.
    let all : terms_of c.as_slice.result.now ≡ written_terms c.args.summand.now = rw c.as_slice.ensures.value c.in_ok-terms.ensures.terms in
    let terms : terms_of c.as_slice-in-loop-power.result.now ≡ written_terms c.args.summand.now = rw c.as_slice-in-loop-power.ensures.value c.in_ok-terms.ensures.terms in
    let fits : FitsSigned w128 c.den-den.result = search rules in
    let den : to_z w128 (of_z w128 c.den-den.result) ≡ pos c.args.summand.now.denominator = to_z-of_z w128 c.den-den.result fits ∙ c.den-den.ensures.denominator in
    let degree : c.degree_of-degree.result ≡ degree_of c.args.var (written_terms c.args.summand.now)
    = c.degree_of-degree.ensures ∙ ap (λ (n : ℕ). degree_of n (terms_of c.as_slice.result.now)) c.from.ensures ∙ ap (degree_of c.args.var) all in
    let less : c.loop-power.power < degree_of c.args.var (written_terms c.args.summand.now) + 1 = omega (arith, c.loop-power-test.true, c.from-power-end.ensures, degree) in
    let passes : PartPasses c.args.var c.loop-power.power (written_terms c.args.summand.now) c.args.summand.now.denominator
    = subst (λ (z : ℤ). PartPasses c.args.var c.loop-power.power (written_terms c.args.summand.now) (unsigned_abs z)) den
    (subst (λ (ts : List Term). PartPasses c.args.var c.loop-power.power ts (unsigned_abs (to_z w128 (of_z w128 c.den-den.result)))) terms (c.in_err-part.ensures.wide (search rules))) in
    inr (part-passes c.args.var (written_terms c.args.summand.now) c.args.summand.now.denominator c.loop-power.power (degree_of c.args.var (written_terms c.args.summand.now) + 1) c.loop-power.sum less c.loop-power.invariant passes)

pub returns-in_err-sum-2-clause-wide : goal.returns-in_err-sum-2-clause-wide
returns-in_err-sum-2-clause-wide c = λ e.
    let all : terms_of c.as_slice.result.now ≡ written_terms c.args.summand.now = rw c.as_slice.ensures.value c.in_ok-terms.ensures.terms in
    let terms : terms_of c.as_slice-in-loop-power.result.now ≡ written_terms c.args.summand.now = rw c.as_slice-in-loop-power.ensures.value c.in_ok-terms.ensures.terms in
    let fits : FitsSigned w128 c.den-den.result = search rules in
    let den : to_z w128 (of_z w128 c.den-den.result) ≡ pos c.args.summand.now.denominator = to_z-of_z w128 c.den-den.result fits ∙ c.den-den.ensures.denominator in
    let degree : c.degree_of-degree.result ≡ degree_of c.args.var (written_terms c.args.summand.now)
    = c.degree_of-degree.ensures ∙ ap (λ (n : ℕ). degree_of n (terms_of c.as_slice.result.now)) c.from.ensures ∙ ap (degree_of c.args.var) all in
    let less : c.loop-power.power < degree_of c.args.var (written_terms c.args.summand.now) + 1 = omega (arith, c.loop-power-test.true, c.from-power-end.ensures, degree) in
    let part : IsPart c.args.var c.loop-power.power (written_terms c.args.summand.now) c.args.summand.now.denominator c.in_ok-part.part
    = subst (λ (z : ℤ). IsPart c.args.var c.loop-power.power (written_terms c.args.summand.now) (unsigned_abs z) c.in_ok-part.part) den
    (subst (λ (ts : List Term). IsPart c.args.var c.loop-power.power ts (unsigned_abs (to_z w128 (of_z w128 c.den-den.result))) c.in_ok-part.part) terms c.in_ok-part.ensures.part) in
    inr (sum-passes c.args.var (written_terms c.args.summand.now) c.args.summand.now.denominator c.loop-power.power (degree_of c.args.var (written_terms c.args.summand.now) + 1) c.loop-power.sum c.in_ok-part.part less
    c.loop-power.invariant part (c.in_err-sum-2.ensures.wide (search rules)))

pub loop-power-preserved : goal.loop-power-preserved
loop-power-preserved c =
    let terms : terms_of c.as_slice-in-loop-power.result.now ≡ written_terms c.args.summand.now = rw c.as_slice-in-loop-power.ensures.value c.in_ok-terms.ensures.terms in
    let fits : FitsSigned w128 c.den-den.result = search rules in
    let den : to_z w128 (of_z w128 c.den-den.result) ≡ pos c.args.summand.now.denominator = to_z-of_z w128 c.den-den.result fits ∙ c.den-den.ensures.denominator in
    let part : IsPart c.args.var c.loop-power.power (written_terms c.args.summand.now) c.args.summand.now.denominator c.in_ok-part.part
    = subst (λ (z : ℤ). IsPart c.args.var c.loop-power.power (written_terms c.args.summand.now) (unsigned_abs z) c.in_ok-part.part) den
    (subst (λ (ts : List Term). IsPart c.args.var c.loop-power.power ts (unsigned_abs (to_z w128 (of_z w128 c.den-den.result))) c.in_ok-part.part) terms c.in_ok-part.ensures.part) in
    one-more-part c.args.var (written_terms c.args.summand.now) c.args.summand.now.denominator c.loop-power.power c.loop-power.sum c.in_ok-part.part _ c.loop-power.invariant part c.in_ok-sum-2.ensures.total

pub returns-clause-sum : goal.returns-clause-sum
returns-clause-sum c =
    let all : terms_of c.as_slice.result.now ≡ written_terms c.args.summand.now = rw c.as_slice.ensures.value c.in_ok-terms.ensures.terms in
    let degree : c.degree_of-degree.result ≡ degree_of c.args.var (written_terms c.args.summand.now)
    = c.degree_of-degree.ensures ∙ ap (λ (n : ℕ). degree_of n (terms_of c.as_slice.result.now)) c.from.ensures ∙ ap (degree_of c.args.var) all in
    let ended : c.loop-power.power ≡ degree_of c.args.var (written_terms c.args.summand.now) + 1
    = omega (arith, c.loop-power-test.false, c.loop-power.auto.power-end, c.from-power-end.ensures, degree) in
    record {
      few_variables = c.uses_below.ensures.0 c.if-not-uses_below.false;
      parts = subst (λ (n : ℕ). AreAdded c.args.var (written_terms c.args.summand.now) c.args.summand.now.denominator n c.loop-power.sum) ended c.loop-power.invariant;
    }
