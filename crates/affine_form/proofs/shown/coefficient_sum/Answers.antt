use Rattle.std.proofs.Common.{◌≡◌, ◌≤◌, ◌<◌, ◌+ℤ◌, ◌*ℤ◌, rules, arith, refl, ap, ◌∙◌, lit≤, pos, get_or, length, FitsSigned, to_z, List, [], ℤ}
use Rattle.std.specs.Prelude.{unsigned_abs}
use mir.Syntax.{w128}
use Rattle.std.proofs.lemmas.Int.{to_z-of_z}
use Rattle.std.proofs.lemmas.List.{get_or_read}
use Rattle.affine_form.specs.Combination.{coefficient_of, constant_form}
use Rattle.affine_form.specs.Shown.{row_at}
use Rattle.affine_form.proofs.Sizes.{small-bits, sum-step, product-room}
use Rattle.affine_form.proofs.ShownLemmas.{weights-few, weight-small, weight-named, coefficient-small, coefficient-step}
use Rattle.affine_form.proofs.shown.coefficient_sum.Goals as goal
use Rattle.iolb_model.specs.declared.limits.TheConstants.{MULTIPLIER_SIZE, COEFFICIENT_SIZE}

pub add_product-sum-requires : goal.add_product-sum-requires
add_product-sum-requires c =
    let ws = c.m-row-items.result.now in
    let vs = c.args.shown.now.weights in
    let k = c.loop-row.row-index in
    let few : length ws ≤ 128 = weights-few c.args.system.now.rows ws vs c.m-row-items.ensures.weights c.requires.named c.m-row-items.ensures.rising c.rows-rows.ensures.few in
    let small_w : unsigned_abs c.from-in-loop-row.result < MULTIPLIER_SIZE = weight-small ws vs k c.from-in-loop-row.result c.m-row-items.ensures.weights c.m-row-items.ensures.small c.loop-row-test.true c.from-in-loop-row.ensures in
    let x = get_or c.coef.result.now c.args.variable (pos 0) in
    let small_x : unsigned_abs x < COEFFICIENT_SIZE = coefficient-small c.index-rows-from.result c.coef.result.now c.args.variable c.coef.ensures.coefficients c.coef.ensures.legal in
    rw (small-bits c.from-in-loop-row.result MULTIPLIER_SIZE small_w (lit≤ tt), small-bits x COEFFICIENT_SIZE small_x (lit≤ tt))
    (product-room (to_z w128 c.loop-row.sum-bits) c.from-in-loop-row.result x k MULTIPLIER_SIZE COEFFICIENT_SIZE c.loop-row.invariant.small small_w small_x (omega (arith, c.loop-row-test.true)))

pub loop-row-preserved : goal.loop-row-preserved
loop-row-preserved c =
    let rows = c.args.system.now.rows in
    let ws = c.m-row-items.result.now in
    let vs = c.args.shown.now.weights in
    let k = c.loop-row.row-index in
    let w = get_or ws k (0, 0) in
    let v = c.args.variable in
    let sum = to_z w128 c.loop-row.sum-bits in
    let form = c.index-rows-from.result in
    let y = c.from-in-loop-row.result in
    let z = c.add_product-sum.result in
    let small_y : unsigned_abs y < MULTIPLIER_SIZE = weight-small ws vs k y c.m-row-items.ensures.weights c.m-row-items.ensures.small c.loop-row-test.true c.from-in-loop-row.ensures in
    let x = get_or c.coef.result.now v (pos 0) in
    let small_x : unsigned_abs x < COEFFICIENT_SIZE = coefficient-small form c.coef.result.now v c.coef.ensures.coefficients c.coef.ensures.legal in
    let is : z ≡ sum +ℤ (y *ℤ x) = simp (small-bits y MULTIPLIER_SIZE small_y (lit≤ tt), small-bits x COEFFICIENT_SIZE small_x (lit≤ tt)) at c.add_product-sum.ensures in
    let row : form ≡ row_at rows w.0 = get_or_read rows w.0 form (weight-named rows ws vs k c.m-row-items.ensures.weights c.requires.named c.loop-row-test.true) (simp (c.rows-rows.ensures.rows, c.from.ensures) at c.index-rows-from.is) (record { coefficients = []; constant = pos 0 }) in
    let read : x ≡ coefficient_of v (row_at rows w.0) = ap (λ (xs : List ℤ). get_or xs v (pos 0)) c.coef.ensures.coefficients ∙ ap (coefficient_of v) row in
    let fits : FitsSigned w128 z = search rules in
    rw (to_z-of_z w128 z fits)
    (record {
      so_far = coefficient-step rows ws (constant_form c.args.system.now.vars (pos c.args.shown.now.rest)) v k w (0, 0) sum x z _ c.loop-row-test.true refl read (is ∙ ap (λ (u : ℤ). sum +ℤ (u *ℤ x)) c.from-in-loop-row.ensures) c.loop-row.invariant.so_far;
      small = sum-step sum z y x 0 k MULTIPLIER_SIZE COEFFICIENT_SIZE is small_y small_x c.loop-row.invariant.small;
    })
