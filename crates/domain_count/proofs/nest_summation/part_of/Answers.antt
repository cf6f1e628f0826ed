use Rattle.std.proofs.Common.{◌≡◌, subst, sym, ◌∙◌, ap, ℕ, ℤ, List, inl, inr, rules, to_z, of_z}
use Rattle.std.specs.Prelude.{unsigned_abs}
use Rattle.std.specs.List.{AllByRecursion}
use mir.Syntax.{w128}
use Rattle.std.proofs.lemmas.Int.{to_z-of_z}
use Rattle.claims.proofs.Found.{IfOk-then}
use Rattle.iolb_model.specs.Polynomial.{Term}
use Rattle.poly_tree.specs.Terms.{AreApart, HasExponents, terms_of}
use Rattle.domain_count.specs.Coefficients.{coefficient_terms}
use Rattle.domain_count.specs.Summing.{IsMade, IsMultiplied, IsPart, MakingPasses}
use Rattle.domain_count.proofs.TermLemmas.{coefficient-exponents, coefficient-apart}
use Rattle.domain_count.proofs.nest_summation.part_of.Goals as goal

pub made-requires-clause-exponents : goal.made-requires-clause-exponents
made-requires-clause-exponents c =
    let terms : terms_of c.as_slice.result.now ≡ coefficient_terms c.args.var c.args.power (terms_of c.args.terms.now)
    = rw c.as_slice.ensures.value (c.in_ok-found.ensures ∙ ap (λ (n : ℕ). coefficient_terms n c.args.power (terms_of c.args.terms.now)) c.from.ensures) in
    subst (AllByRecursion HasExponents) (sym terms) (coefficient-exponents c.args.var c.args.power (terms_of c.args.terms.now) c.requires.exponents)

pub made-requires-clause-apart : goal.made-requires-clause-apart
made-requires-clause-apart c =
    let terms : terms_of c.as_slice.result.now ≡ coefficient_terms c.args.var c.args.power (terms_of c.args.terms.now)
    = rw c.as_slice.ensures.value (c.in_ok-found.ensures ∙ ap (λ (n : ℕ). coefficient_terms n c.args.power (terms_of c.args.terms.now)) c.from.ensures) in
    subst AreApart (sym terms) (coefficient-apart c.args.var c.args.power (terms_of c.args.terms.now) c.requires.apart)

pub returns-in_err-coefficient-clause-wide : goal.returns-in_err-coefficient-clause-wide
returns-in_err-coefficient-clause-wide c = λ e.
    let terms : terms_of c.as_slice.result.now ≡ coefficient_terms c.args.var c.args.power (terms_of c.args.terms.now)
    = rw c.as_slice.ensures.value (c.in_ok-found.ensures ∙ ap (λ (n : ℕ). coefficient_terms n c.args.power (terms_of c.args.terms.now)) c.from.ensures) in
    inl (subst (λ (z : ℤ). MakingPasses (coefficient_terms c.args.var c.args.power (terms_of c.args.terms.now)) (unsigned_abs z)) (to_z-of_z w128 c.args.den c.ranges.den)
    (subst (λ (ts : List Term). MakingPasses ts (unsigned_abs (to_z w128 (of_z w128 c.args.den)))) terms (c.in_err-coefficient.ensures.wide (search rules))))

pub returns-in_err-row-clause-wide : goal.returns-in_err-row-clause-wide
returns-in_err-row-clause-wide c = λ e.
    let terms : terms_of c.as_slice.result.now ≡ coefficient_terms c.args.var c.args.power (terms_of c.args.terms.now)
    = rw c.as_slice.ensures.value (c.in_ok-found.ensures ∙ ap (λ (n : ℕ). coefficient_terms n c.args.power (terms_of c.args.terms.now)) c.from.ensures) in
    inr (
      c.in_ok-coefficient.coefficient,
      (
        subst (λ (z : ℤ). IsMade (coefficient_terms c.args.var c.args.power (terms_of c.args.terms.now)) (unsigned_abs z) c.in_ok-coefficient.coefficient) (to_z-of_z w128 c.args.den c.ranges.den)
            (subst (λ (ts : List Term). IsMade ts (unsigned_abs (to_z w128 (of_z w128 c.args.den))) c.in_ok-coefficient.coefficient) terms c.in_ok-coefficient.ensures.made),
        inl (c.in_err-row.ensures.wide (search rules)),
      ),
    )

pub returns-clause-part : goal.returns-clause-part
returns-clause-part c =
    let terms : terms_of c.as_slice.result.now ≡ coefficient_terms c.args.var c.args.power (terms_of c.args.terms.now)
    = rw c.as_slice.ensures.value (c.in_ok-found.ensures ∙ ap (λ (n : ℕ). coefficient_terms n c.args.power (terms_of c.args.terms.now)) c.from.ensures) in
    IfOk-then c.multiplied.result (IsMultiplied c.in_ok-coefficient.coefficient c.in_ok-row.row) (IsPart c.args.var c.args.power (terms_of c.args.terms.now) (unsigned_abs c.args.den)) c.multiplied.ensures.product
    (λ part product. record {
      coefficient = c.in_ok-coefficient.coefficient;
      row = c.in_ok-row.row;
      is_coefficient =
          subst (λ (z : ℤ). IsMade (coefficient_terms c.args.var c.args.power (terms_of c.args.terms.now)) (unsigned_abs z) c.in_ok-coefficient.coefficient) (to_z-of_z w128 c.args.den c.ranges.den)
          (subst (λ (ts : List Term). IsMade ts (unsigned_abs (to_z w128 (of_z w128 c.args.den))) c.in_ok-coefficient.coefficient) terms c.in_ok-coefficient.ensures.made);
      is_row = c.in_ok-row.ensures.row;
      product = product;
    })

pub returns-clause-wide : goal.returns-clause-wide
returns-clause-wide c = λ e.
    let terms : terms_of c.as_slice.result.now ≡ coefficient_terms c.args.var c.args.power (terms_of c.args.terms.now)
    = rw c.as_slice.ensures.value (c.in_ok-found.ensures ∙ ap (λ (n : ℕ). coefficient_terms n c.args.power (terms_of c.args.terms.now)) c.from.ensures) in
    inr (
      c.in_ok-coefficient.coefficient,
      (
        subst (λ (z : ℤ). IsMade (coefficient_terms c.args.var c.args.power (terms_of c.args.terms.now)) (unsigned_abs z) c.in_ok-coefficient.coefficient) (to_z-of_z w128 c.args.den c.ranges.den)
            (subst (λ (ts : List Term). IsMade ts (unsigned_abs (to_z w128 (of_z w128 c.args.den))) c.in_ok-coefficient.coefficient) terms c.in_ok-coefficient.ensures.made),
        inr (c.in_ok-row.row, (c.in_ok-row.ensures.row, c.multiplied.ensures.wide e)),
      ),
    )
