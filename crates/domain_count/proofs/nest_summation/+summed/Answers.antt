use Rattle.std.proofs.Common.{subst, sym, ℕ, List, ◌∷◌, inr, rules, add-one}
use Rattle.iolb_model.specs.Form.{AffineForm}
use Rattle.poly_tree.specs.Poly.{Quotient}
use Rattle.domain_count.specs.Summing.{AreSummed, SummationPasses}
use Rattle.domain_count.proofs.nest_summation.+summed.Goals as goal

pub returns-in_err-total-2-clause-wide : goal.returns-in_err-total-2-clause-wide
returns-in_err-total-2-clause-wide t c = λ e.
    subst (SummationPasses c.args.var) (sym c.in-Some.ensures.cases.0)
    (inr (
      c.in_ok-behind.behind.sums.items,
      c.in_ok-behind.behind.total,
      (
        subst (λ (n : ℕ). AreSummed n c.in-Some.others.now c.in_ok-behind.behind.sums.items c.in_ok-behind.behind.total) (add-one c.args.var) c.in_ok-behind.ensures.made,
        inr (c.in_ok-sum.sum, (c.in_ok-sum.ensures.sum, c.in_err-total-2.ensures.wide (search rules))),
      ),
    ))

pub returns-clause-made : goal.returns-clause-made
returns-clause-made t c =
    subst (λ (bounds : List (AffineForm × AffineForm)). AreSummed c.args.var bounds c.in_ok-sums.sums.items c.in_ok-total-2.total) (sym c.in-Some.ensures.cases.0)
    (subst (λ (sums : List Quotient). AreSummed c.args.var (c.in-Some.first.now ∷ c.in-Some.others.now) sums c.in_ok-total-2.total) (sym c.in_ok-sums.ensures) (
      c.in_ok-behind.behind.total,
      (
        subst (λ (n : ℕ). AreSummed n c.in-Some.others.now c.in_ok-behind.behind.sums.items c.in_ok-behind.behind.total) (add-one c.args.var) c.in_ok-behind.ensures.made,
        c.in_ok-sum.ensures.sum,
        c.in_ok-total-2.ensures.total,
      ),
    ))
