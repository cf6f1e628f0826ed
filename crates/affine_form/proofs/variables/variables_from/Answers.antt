use Rattle.std.proofs.Common.{◌≡◌, ℕ, ◌+◌, ◌-◌, ◌++◌, ◌∷◌, [], ap, sym, refl, subst, length, ◌∙◌, arith}
use Rattle.std.specs.List.{AllByRecursion}
use Rattle.iolb_model.specs.Form.{AffineForm}
use Rattle.affine_form.specs.Rows.{variables_from, IsSmallOver}
use Rattle.affine_form.proofs.RowLemmas.{variables-more, length-variables, variables-over}
use Rattle.affine_form.proofs.Steps.{at_count_end}
use Rattle.affine_form.proofs.variables.variables_from.Goals as goal

pub loop-place-preserved : goal.loop-place-preserved
loop-place-preserved c = record {
  so_far = variables-more c.args.vars c.loop-place.place (c.args.first + c.args.count) c.loop-place.forms.items c.push.new.self.items (variables_from c.args.vars c.args.first c.args.count)
      (omega (arith, c.loop-place-test.true)) (c.in_ok-push.ensures.items ∙ ap (λ (f : AffineForm). c.loop-place.forms.items ++ f ∷ []) c.in_ok-variable.ensures) c.loop-place.invariant.so_far;
  from = omega (arith, c.loop-place.invariant.from);
}

pub returns-clause-many : goal.returns-clause-many
returns-clause-many c =
    let whole : c.loop-place.forms.items ≡ variables_from c.args.vars c.args.first c.args.count =
    at_count_end (λ (n : ℕ). variables_from c.args.vars c.loop-place.place n) ((c.args.first + c.args.count) - c.loop-place.place) c.loop-place.forms.items (variables_from c.args.vars c.args.first c.args.count)
    (omega (arith, c.loop-place-test.false)) refl c.loop-place.invariant.so_far in
    ap length whole ∙ length-variables c.args.vars c.args.first c.args.count

pub returns-clause-over : goal.returns-clause-over
returns-clause-over c =
    let whole : c.loop-place.forms.items ≡ variables_from c.args.vars c.args.first c.args.count =
    at_count_end (λ (n : ℕ). variables_from c.args.vars c.loop-place.place n) ((c.args.first + c.args.count) - c.loop-place.place) c.loop-place.forms.items (variables_from c.args.vars c.args.first c.args.count)
    (omega (arith, c.loop-place-test.false)) refl c.loop-place.invariant.so_far in
    subst (AllByRecursion (IsSmallOver c.args.vars)) (sym whole) (variables-over c.args.vars c.args.first c.args.count)
