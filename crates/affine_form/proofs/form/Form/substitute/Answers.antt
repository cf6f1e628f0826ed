use Rattle.std.proofs.Common.{◌≡◌, ◌<◌, sym, ap, ◌∙◌, arith, rules, List, [], ◌∷◌, ◌++◌, length, take, ℤ, pos, FitsSigned}
use mir.Syntax.{w128}
use Rattle.std.proofs.lemmas.Int.{to_z-of_z}
use Rattle.std.proofs.lemmas.List.{take_all, take_more}
use Rattle.iolb_model.specs.Form.{AffineForm, form_value}
use Rattle.affine_form.specs.Form.{IsSmall}
use Rattle.affine_form.specs.Substitution.{substitution}
use Rattle.base_laws.proofs.Lists.{All-push}
use Rattle.affine_form.proofs.Steps.{form_is}
use Rattle.affine_form.proofs.SubstitutionLemmas.{form_value-substitution, length-substitution}
use Rattle.affine_form.proofs.form.Form.substitute.Goals as goal
use Rattle.iolb_model.specs.declared.limits.TheConstants.{COEFFICIENT_SIZE}

pub loop-variable-preserved : goal.loop-variable-preserved
loop-variable-preserved c =
    let form = substitution c.args.self.now c.args.map.now in
    let k = c.loop-variable.variable in
    let x = c.composed_coefficient.result in
    let fits : FitsSigned w128 x = search rules in
    let within : k < length form.coefficients = omega (arith, c.loop-variable-test.true, c.variables_of-variable-end.ensures.width, length-substitution c.args.self.now c.args.map.now c.requires.one_each c.requires.same_variables) in
    let pushed = simp (to_z-of_z w128 x fits) at c.in_ok-push.ensures.items in
    rw pushed (record {
      so_far = ap (λ (xs : List ℤ). xs ++ x ∷ []) c.loop-variable.invariant.so_far
          ∙ ap (λ (y : ℤ). take k form.coefficients ++ y ∷ []) c.composed_coefficient.ensures.value
          ∙ sym (take_more form.coefficients k (pos 0) within);
      small = All-push (IsSmall COEFFICIENT_SIZE) c.loop-variable.coef.items x c.loop-variable.invariant.small c.composed_coefficient.ensures.small_result;
    })

whole : (c : goal.After-composed_constant) → c.loop-variable.coef.items ≡ (substitution c.args.self.now c.args.map.now).coefficients
whole c = c.loop-variable.invariant.so_far
    ∙ take_all c.loop-variable.variable (substitution c.args.self.now c.args.map.now).coefficients
    (omega (arith, c.loop-variable-test.false, c.variables_of-variable-end.ensures.width, length-substitution c.args.self.now c.args.map.now c.requires.one_each c.requires.same_variables))

pub new-requires-clause-few : goal.new-requires-clause-few
new-requires-clause-few c =
    omega (arith, ap length (whole c), c.variables_of-variable-end.ensures.width, c.variables_of-variable-end.ensures.few, length-substitution c.args.self.now c.args.map.now c.requires.one_each c.requires.same_variables)

result_is : (c : goal.After-new) → c.new.result ≡ substitution c.args.self.now c.args.map.now
result_is c =
    let x = c.composed_constant.result in
    let fits : FitsSigned w128 x = search rules in
    form_is (substitution c.args.self.now c.args.map.now) c.new.result c.loop-variable.coef.items c.loop-variable.variable x c.loop-variable.invariant.so_far
    (omega (arith, c.loop-variable-test.false, c.variables_of-variable-end.ensures.width, length-substitution c.args.self.now c.args.map.now c.requires.one_each c.requires.same_variables))
    c.composed_constant.ensures.value (simp (to_z-of_z w128 x fits) at c.new.ensures)

pub returns-clause-form : goal.returns-clause-form
returns-clause-form c = result_is c

pub returns-clause-value : goal.returns-clause-value
returns-clause-value c = λ point. ap (λ (f : AffineForm). form_value f point) (result_is c) ∙ form_value-substitution c.args.self.now c.args.map.now point
