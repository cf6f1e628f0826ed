use Rattle.std.proofs.Common.{◌≡◌, subst, ◌+◌, min, List, [], drop, map, arith}
use Rattle.iolb_check.specs.Bounds.{terms_of}
use Rattle.iolb_check.specs.Claims.{claim_of_term}
use Rattle.iolb_check.specs.declared.bound.Value.{Value}
use Rattle.iolb_check.specs.declared.term.Term.{Term}
use Rattle.iolb_model.specs.Bound.{branch_value}
use Rattle.iolb_model.specs.declared.limits.TheConstants.{MEASURE}
use Rattle.store_bound.specs.Counted.{computed_values}
use Rattle.store_bound.proofs.WordValues.{none-left}
use Rattle.store_bound.proofs.evaluation.words_at.Goals as goal

pub returns-clause-value : goal.returns-clause-value
returns-clause-value c =
    let terms : List Term = c.args.terms.now in
    let values : List Value = c.args.values.now in
    let none : computed_values (map claim_of_term (drop c.loop-i.i terms)) (drop c.loop-i.i values) ≡ [] = none-left terms values c.loop-i.i (omega (arith, c.loop-i-test.false, c.min-i-end.ensures)) in
    let sum : min (c.loop-i.total + 0) MEASURE ≡ min (branch_value (terms_of (computed_values (map claim_of_term terms) values)) c.args.point.now c.args.s) MEASURE =
    subst (λ (left : List Value). min (c.loop-i.total + branch_value (terms_of left) c.args.point.now c.args.s) MEASURE ≡ min (branch_value (terms_of (computed_values (map claim_of_term terms) values)) c.args.point.now c.args.s) MEASURE) none c.loop-i.invariant.sum in
    omega (arith, sum, c.loop-i.invariant.low)
