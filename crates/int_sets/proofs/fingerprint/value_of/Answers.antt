use Rattle.std.proofs.Common.{◌<◌, rules, arith, ap, length, lit≤, refl, to_z, FitsSigned, pos, get_or}
use mir.Syntax.{w128}
use Rattle.std.proofs.lemmas.Int.{to_z-of_z}
use Rattle.std.specs.Prelude.{unsigned_abs}
use Rattle.std.proofs.lemmas.List.{get_or_default}
use Rattle.base_laws.proofs.Lists.{All-at}
use Rattle.affine_form.specs.Form.{IsSmall}
use Rattle.int_sets.proofs.Sums.{point-small}
use Rattle.affine_form.proofs.Lists.{dot-step}
use Rattle.affine_form.proofs.Sizes.{small-bits, sum-step}
use Rattle.affine_form.proofs.ShownLemmas.{coefficient-small}
use Rattle.int_sets.specs.declared.fingerprint.TheConstants.{POINT}
use Rattle.int_sets.proofs.fingerprint.value_of.Goals as goal
use Rattle.iolb_model.specs.declared.limits.TheConstants.{COEFFICIENT_SIZE, VALUE_SIZE}

pub loop-i-preserved : goal.loop-i-preserved
loop-i-preserved c =
    let coefs = c.coef-coefficient-items.result.now in
    let k = c.loop-i.i in
    let sum = to_z w128 c.loop-i.sum-bits in
    let below : k < 24 = omega (arith, c.loop-i-test.true, ap length c.coef-coefficient-items.ensures.coefficients, c.coef-coefficient-items.ensures.legal.0) in
    let x = get_or coefs k (pos 0) in
    let y = get_or POINT k (pos 0) in
    let small_x : unsigned_abs x < COEFFICIENT_SIZE = coefficient-small c.args.form.now coefs k c.coef-coefficient-items.ensures.coefficients c.coef-coefficient-items.ensures.legal in
    let small_y : unsigned_abs y < VALUE_SIZE = All-at (IsSmall VALUE_SIZE) POINT k (pos 0) point-small below in
    let is = simp (small-bits x COEFFICIENT_SIZE small_x (lit≤ tt), small-bits y VALUE_SIZE small_y (lit≤ tt)) at c.add_product-sum.ensures in
    let fits : FitsSigned w128 c.add_product-sum.result = search rules in
    rw (to_z-of_z w128 c.add_product-sum.result fits)
    (record {
      so_far = dot-step coefs POINT k sum _ x y (pos 0) c.add_product-sum.result c.loop-i-test.true below (get_or_default coefs k (pos 0) (get_or coefs k (pos 0)) c.loop-i-test.true) refl is c.loop-i.invariant.so_far;
      small = sum-step sum c.add_product-sum.result x y 0 k COEFFICIENT_SIZE VALUE_SIZE is small_x small_y c.loop-i.invariant.small;
    })
