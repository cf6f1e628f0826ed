use Rattle.std.proofs.Common.{◌≡◌, ◌∙◌, sym, ap, subst, ℕ, ◌<◌, ◌^◌, List, [], ◌∷◌, ◌++◌, map, get_or, pos, arith, lit<, lit≤, of_z, to_z}
use mir.Syntax.{w128}
use Rattle.std.specs.Prelude.{unsigned_abs}
use Rattle.std.specs.List.{AllByRecursion}
use Rattle.std.proofs.Math.IntN.{ℤ, ◌*ℤ◌}
use Rattle.std.proofs.lemmas.List.{take_all}
use Rattle.base_laws.proofs.Lists.{All-or, All-weaken}
use Rattle.affine_form.specs.Form.{IsSmall}
use Rattle.affine_form.proofs.Sizes.{small-bits}
use Rattle.iolb_model.specs.declared.limits.TheConstants.{COEFFICIENT_SIZE, NUMBER_SIZE, PUT_SIZE}
use Rattle.joint_partition.proofs.ScaledForms.{numbers-small, scaled-next}
use Rattle.joint_partition.proofs.start_label.scaled.Goals as goal

pub loop-number-preserved : goal.loop-number-preserved
loop-number-preserved c =
    let xs : List ℤ = c.coef-numbers.result.now in
    let k : ℕ = c.loop-number.number-index in
    let x : ℤ = get_or xs k (pos 0) in
    let small : unsigned_abs x < NUMBER_SIZE = All-or (IsSmall NUMBER_SIZE) xs k (pos 0) (subst (AllByRecursion (IsSmall NUMBER_SIZE)) (sym c.coef-numbers.ensures.coefficients) c.requires.0) (lit< tt) in
    let is : c.times-product.result ≡ pos c.args.scale *ℤ x = simp (small-bits x NUMBER_SIZE small (lit≤ tt)) at c.times-product.ensures.value in
    let bits : to_z w128 (of_z w128 c.times-product.result) ≡ c.times-product.result = small-bits c.times-product.result PUT_SIZE c.times-product.ensures.small (lit≤ tt) in
    c.in_ok-push.ensures.items ∙ ap (λ (y : ℤ). c.loop-number.coef.items ++ y ∷ []) bits ∙ scaled-next c.args.scale xs k c.loop-number.coef.items c.times-product.result c.loop-number-test.true c.loop-number.invariant is

pub new-requires-clause-small : goal.new-requires-clause-small
new-requires-clause-small c =
    let xs : List ℤ = c.coef-numbers.result.now in
    let times : ℤ → ℤ = λ x. pos c.args.scale *ℤ x in
    let whole : c.loop-number.coef.items ≡ map times xs = c.loop-number.invariant ∙ ap (map times) (take_all c.loop-number.number-index xs c.loop-number-test.false) in
    let few : c.args.scale < 2 ^ 32 = omega (arith, c.ranges.scale.fits) in
    let small : AllByRecursion (IsSmall NUMBER_SIZE) xs = subst (AllByRecursion (IsSmall NUMBER_SIZE)) (sym c.coef-numbers.ensures.coefficients) c.requires.0 in
    subst (AllByRecursion (IsSmall COEFFICIENT_SIZE)) (sym whole) (All-weaken (IsSmall PUT_SIZE) (IsSmall COEFFICIENT_SIZE) (map times xs) (λ x h. omega (arith, h)) (numbers-small c.args.scale xs few small))

pub returns : goal.returns
returns c =
    let xs : List ℤ = c.coef-numbers.result.now in
    let times : ℤ → ℤ = λ x. pos c.args.scale *ℤ x in
    let whole : c.loop-number.coef.items ≡ map times c.args.form.now.coefficients =
    c.loop-number.invariant ∙ ap (map times) (take_all c.loop-number.number-index xs c.loop-number-test.false ∙ c.coef-numbers.ensures.coefficients) in
    let small : unsigned_abs c.constant.result < NUMBER_SIZE = subst (IsSmall NUMBER_SIZE) (sym c.constant.ensures.constant) c.requires.1 in
    let read : to_z w128 (of_z w128 c.constant.result) ≡ c.constant.result = small-bits c.constant.result NUMBER_SIZE small (lit≤ tt) in
    let bits : to_z w128 (of_z w128 c.times-constant.result) ≡ c.times-constant.result = small-bits c.times-constant.result PUT_SIZE c.times-constant.ensures.small (lit≤ tt) in
    let constant : to_z w128 (of_z w128 c.times-constant.result) ≡ times c.args.form.now.constant =
    bits ∙ c.times-constant.ensures.value ∙ ap times read ∙ ap times c.constant.ensures.constant in
    c.new.ensures ∙ (λ i. record { coefficients = whole i; constant = constant i })
