use Rattle.std.proofs.Common.{◌<◌, rules, lit≤, refl, to_z, FitsSigned, pos, get_or}
use mir.Syntax.{w128}
use Rattle.std.proofs.lemmas.Int.{to_z-of_z}
use Rattle.std.specs.Prelude.{unsigned_abs}
use Rattle.affine_form.specs.Form.{IsSmall}
use Rattle.base_laws.proofs.Lists.{All-at, All-read}
use Rattle.affine_form.proofs.Lists.{dot-step}
use Rattle.affine_form.proofs.Sizes.{small-bits, sum-step}
use Rattle.affine_form.proofs.form.Form.value.Goals as goal
use Rattle.iolb_model.specs.declared.limits.TheConstants.{COEFFICIENT_SIZE, VALUE_SIZE}

pub loop-i-preserved : goal.loop-i-preserved
loop-i-preserved c =
    let coefs = c.self.inside.coef.items in
    let point = c.args.point.now in
    let k = c.loop-i.i in
    let sum = to_z w128 c.loop-i.sum-bits in
    let x = c.index.result.now in
    let y = get_or point k (pos 0) in
    let small_x : unsigned_abs x < COEFFICIENT_SIZE = All-read (IsSmall COEFFICIENT_SIZE) coefs k x c.self.invariant.1 (search rules) c.index.ensures in
    let small_y : unsigned_abs y < VALUE_SIZE = All-at (IsSmall VALUE_SIZE) point k (pos 0) c.requires.small c.loop-i-test.true in
    let is = simp (small-bits x COEFFICIENT_SIZE small_x (lit≤ tt), small-bits y VALUE_SIZE small_y (lit≤ tt)) at c.add_product-sum.ensures in
    let fits : FitsSigned w128 c.add_product-sum.result = search rules in
    rw (to_z-of_z w128 c.add_product-sum.result fits)
    (record {
      so_far = dot-step coefs point k sum _ x y (pos 0) c.add_product-sum.result (search rules) c.loop-i-test.true c.index.ensures refl is c.loop-i.invariant.so_far;
      small = sum-step sum c.add_product-sum.result x y COEFFICIENT_SIZE k COEFFICIENT_SIZE VALUE_SIZE is small_x small_y c.loop-i.invariant.small;
    })
