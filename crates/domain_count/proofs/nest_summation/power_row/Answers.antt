use Rattle.std.proofs.Common.{◌≡◌, refl, subst, sym, ◌∙◌, ap, ℕ, ℤ, List, inr, rules, FitsSigned, to_z, of_z}
use Rattle.std.specs.Prelude.{unsigned_abs}
use Rattle.std.specs.List.{AllByRecursion}
use mir.Syntax.{w64, w128}
use Rattle.std.proofs.lemmas.Int.{to_z-of_z}
use Rattle.claims.proofs.Found.{IfOk-then}
use Rattle.iolb_model.specs.Polynomial.{Term}
use Rattle.poly_tree.specs.Terms.{AreApart, HasExponents, terms_of}
use Rattle.domain_count.specs.Coefficients.{power_terms}
use Rattle.domain_count.specs.Summing.{IsMade, IsPowerRow, MakingPasses}
use Rattle.domain_count.proofs.TermLemmas.{power-exponents, power-apart}
use Rattle.domain_count.proofs.nest_summation.power_row.Goals as goal

pub made-requires-clause-exponents : goal.made-requires-clause-exponents
made-requires-clause-exponents c =
    let terms : terms_of c.as_slice.result.now ≡ power_terms c.args.var 0 c.in-Some.row.num = rw c.as_slice.ensures.value (c.in_ok-terms.ensures ∙ ap (λ (n : ℕ). power_terms n 0 c.in-Some.row.num) c.from.ensures) in
    subst (AllByRecursion HasExponents) (sym terms) (power-exponents c.args.var 0 c.in-Some.row.num c.requires (search rules))

pub made-requires-clause-apart : goal.made-requires-clause-apart
made-requires-clause-apart c =
    let terms : terms_of c.as_slice.result.now ≡ power_terms c.args.var 0 c.in-Some.row.num = rw c.as_slice.ensures.value (c.in_ok-terms.ensures ∙ ap (λ (n : ℕ). power_terms n 0 c.in-Some.row.num) c.from.ensures) in
    subst AreApart (sym terms) (power-apart c.args.var 0 c.in-Some.row.num)

pub returns-clause-row : goal.returns-clause-row
returns-clause-row c =
    let terms : terms_of c.as_slice.result.now ≡ power_terms c.args.var 0 c.in-Some.row.num = rw c.as_slice.ensures.value (c.in_ok-terms.ensures ∙ ap (λ (n : ℕ). power_terms n 0 c.in-Some.row.num) c.from.ensures) in
    let fits : FitsSigned w64 c.in-Some.row.den = search rules in
    let fits_wide : FitsSigned w128 c.from-2.result = search rules in
    let den : to_z w128 (of_z w128 c.from-2.result) ≡ c.in-Some.row.den = to_z-of_z w128 c.from-2.result fits_wide ∙ c.from-2.ensures ∙ to_z-of_z w64 c.in-Some.row.den fits in
    IfOk-then c.made.result (IsMade (terms_of c.as_slice.result.now) (unsigned_abs (to_z w128 (of_z w128 c.from-2.result)))) (IsPowerRow c.args.var c.args.power) c.made.ensures.made
    (λ row made. record {
      in_table = c.in-Some.ensures.present.0 refl;
      num = c.in-Some.row.num;
      den = c.in-Some.row.den;
      sum = c.in-Some.ensures.sum;
      made = subst (λ (z : ℤ). IsMade (power_terms c.args.var 0 c.in-Some.row.num) (unsigned_abs z) row) den
          (subst (λ (ts : List Term). IsMade ts (unsigned_abs (to_z w128 (of_z w128 c.from-2.result))) row) terms made);
    })

pub returns-clause-wide : goal.returns-clause-wide
returns-clause-wide c = λ e.
    let terms : terms_of c.as_slice.result.now ≡ power_terms c.args.var 0 c.in-Some.row.num = rw c.as_slice.ensures.value (c.in_ok-terms.ensures ∙ ap (λ (n : ℕ). power_terms n 0 c.in-Some.row.num) c.from.ensures) in
    let fits : FitsSigned w64 c.in-Some.row.den = search rules in
    let fits_wide : FitsSigned w128 c.from-2.result = search rules in
    let den : to_z w128 (of_z w128 c.from-2.result) ≡ c.in-Some.row.den = to_z-of_z w128 c.from-2.result fits_wide ∙ c.from-2.ensures ∙ to_z-of_z w64 c.in-Some.row.den fits in
    inr (
      c.in-Some.row.num,
      c.in-Some.row.den,
      (
        c.in-Some.ensures.sum,
        subst (λ (z : ℤ). MakingPasses (power_terms c.args.var 0 c.in-Some.row.num) (unsigned_abs z)) den
            (subst (λ (ts : List Term). MakingPasses ts (unsigned_abs (to_z w128 (of_z w128 c.from-2.result)))) terms (c.made.ensures.wide e)),
      ),
    )
