use Rattle.std.proofs.Common.{◌≡◌, sym, ap, ◌∙◌, arith, rules, refl, length, pos, ℤ, ◌*ℤ◌, FitsSigned}
use mir.Syntax.{w128}
use Rattle.std.proofs.lemmas.Int.{to_z-of_z}
use Rattle.affine_form.specs.Form.{variables}
use Rattle.affine_form.specs.Shown.{Shows, row_sum}
use Rattle.affine_form.proofs.Sizes.{same-bits}
use Rattle.affine_form.proofs.ShownLemmas.{Shows-variables, Shows-from, Shows-follows}
use Rattle.affine_form.proofs.shown.entails.Goals as goal

pub returns-then-coef-vars-clause-exact : goal.returns-then-coef-vars-clause-exact
returns-then-coef-vars-clause-exact c = (
  λ t. absurd cc,
  λ h. absurd (c.if-coef-vars.true (ap length c.coef-coef.ensures.coefficients
      ∙ Shows-variables c.args.system.now c.args.goal.now c.args.shown.now c.vars.ensures.over h ∙ sym c.vars.ensures.vars)),
)

it_shows : (c : goal.Else-scaled-constant_sum) → Shows c.args.system.now c.args.goal.now c.args.shown.now
it_shows c =
    let system = c.args.system.now in
    let same : variables c.args.goal.now ≡ system.vars = sym (ap length c.coef-coef.ensures.coefficients) ∙ c.if-coef-vars.false ∙ c.vars.ensures.vars in
    let fits : FitsSigned w128 c.constant.result = search rules in
    let fits_left : FitsSigned w128 c.scaled-2.result = search rules in
    let fits_right : FitsSigned w128 c.constant_sum.result = search rules in
    let constants : (pos c.args.shown.now.scale *ℤ c.args.goal.now.constant) ≡ (row_sum system c.args.shown.now).constant
    = ap (λ (x : ℤ). pos c.args.shown.now.scale *ℤ x) (sym (to_z-of_z w128 c.constant.result fits ∙ c.constant.ensures.constant))
    ∙ sym c.scaled-2.ensures.product ∙ same-bits c.scaled-2.result c.constant_sum.result fits_left fits_right c.if-scaled-constant_sum.false ∙ c.constant_sum.ensures in
    Shows-from system c.args.goal.now c.args.shown.now c.vars.ensures.over (c.names_rows.ensures.0 c.if-not-names_rows.false) same
    (λ v p. c.loop-variable.invariant v (omega (arith, c.loop-variable-test.false, ap length c.coef-coef.ensures.coefficients))) constants

pub returns-clause-exact : goal.returns-clause-exact
returns-clause-exact c = (λ t. it_shows c, λ h. refl)

pub returns-clause-sound : goal.returns-clause-sound
returns-clause-sound c = λ t. Shows-follows c.args.system.now c.args.goal.now c.args.shown.now c.scaled-2.ensures.some (it_shows c)
