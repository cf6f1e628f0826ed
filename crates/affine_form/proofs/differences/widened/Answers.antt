use Rattle.std.proofs.Common.{◌-◌, sym, ◌∙◌, subst, arith, length, replicate, pos, lit<}
use Rattle.std.specs.List.{AllByRecursion}
use Rattle.base_laws.proofs.Lists.{All-append, All-replicate}
use Rattle.affine_form.specs.Form.{IsSmall}
use Rattle.affine_form.proofs.RowLemmas.{zeros-more}
use Rattle.affine_form.proofs.differences.widened.Goals as goal
use Rattle.iolb_model.specs.declared.limits.TheConstants.{COEFFICIENT_SIZE}

pub loop-place-preserved : goal.loop-place-preserved
loop-place-preserved c = record {
  so_far = c.in_ok-push.ensures.items ∙ zeros-more c.args.form.now.coefficients c.loop-place._place c.loop-place.coef.items c.loop-place.invariant.past c.loop-place.invariant.so_far;
  past = omega (arith, c.loop-place.invariant.past);
}

pub new-requires-clause-small : goal.new-requires-clause-small
new-requires-clause-small c =
    let zeros = replicate (c.loop-place._place - length c.args.form.now.coefficients) (pos 0) in
    subst (AllByRecursion (IsSmall COEFFICIENT_SIZE)) (sym c.loop-place.invariant.so_far)
    (All-append (IsSmall COEFFICIENT_SIZE) c.args.form.now.coefficients zeros c.coef.ensures.legal.1.0
    (All-replicate (IsSmall COEFFICIENT_SIZE) (c.loop-place._place - length c.args.form.now.coefficients) (pos 0) (lit< tt)))
