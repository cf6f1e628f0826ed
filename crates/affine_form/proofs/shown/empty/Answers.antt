use Rattle.std.proofs.Common.{sym, ap, ◌∙◌, arith, rules, refl, pos, ℤ, ◌*ℤ◌, FitsSigned, of_z}
use mir.Syntax.{w128}
use Rattle.std.proofs.lemmas.List.{length-replicate}
use Rattle.base_laws.proofs.Ring.{mul-zero}
use Rattle.affine_form.specs.Shown.{Shows, minus_one}
use Rattle.affine_form.proofs.Combination.{coefficient_of-constant}
use Rattle.affine_form.proofs.Sizes.{same-bits}
use Rattle.affine_form.proofs.ShownLemmas.{Shows-coefficient, Shows-from, Shows-none}
use Rattle.affine_form.proofs.shown.empty.Goals as goal

pub returns-then-coefficient_sum-ne0-clause-exact : goal.returns-then-coefficient_sum-ne0-clause-exact
returns-then-coefficient_sum-ne0-clause-exact c =
    let system = c.args.system.now in
    let v = c.loop-variable.variable in (
      λ t. absurd cc,
      λ h. absurd (c.if-coefficient_sum-ne0.true (ap (of_z w128)
          (c.coefficient_sum.ensures ∙ sym (Shows-coefficient system (minus_one system.vars) c.args.shown.now v h)
          ∙ ap (λ (x : ℤ). pos c.args.shown.now.scale *ℤ x) (coefficient_of-constant v system.vars) ∙ mul-zero (pos c.args.shown.now.scale)))),
    )

it_shows : (c : goal.Else-scaled-constant_sum) → Shows c.args.system.now (minus_one c.args.system.now.vars) c.args.shown.now
it_shows c =
    let system = c.args.system.now in
    let fits_left : FitsSigned w128 c.scaled.result = search rules in
    let fits_right : FitsSigned w128 c.constant_sum.result = search rules in
    Shows-from system (minus_one system.vars) c.args.shown.now c.vars-variable-end.ensures.over (c.names_rows.ensures.0 c.if-not-names_rows.false) (length-replicate system.vars (pos 0))
    (λ v p. ap (λ (x : ℤ). pos c.args.shown.now.scale *ℤ x) (coefficient_of-constant v system.vars) ∙ mul-zero (pos c.args.shown.now.scale)
    ∙ sym (c.loop-variable.invariant v (omega (arith, c.loop-variable-test.false, c.vars-variable-end.ensures.vars))))
    (sym c.scaled.ensures.product ∙ same-bits c.scaled.result c.constant_sum.result fits_left fits_right c.if-scaled-constant_sum.false ∙ c.constant_sum.ensures)

pub returns-clause-exact : goal.returns-clause-exact
returns-clause-exact c = (λ t. it_shows c, λ h. refl)

pub returns-clause-sound : goal.returns-clause-sound
returns-clause-sound c = λ t. Shows-none c.args.system.now c.args.shown.now c.scaled.ensures.some (it_shows c)
