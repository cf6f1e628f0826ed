use Rattle.std.proofs.Common.{◌≡◌, ◌<◌, ◌+ℤ◌, ◌*ℤ◌, rules, arith, refl, sym, subst, ap, lit≤, lit<, pos, get_or, FitsSigned, to_z, length}
use Rattle.std.specs.Prelude.{unsigned_abs}
use Rattle.std.specs.List.{AllByRecursion}
use mir.Syntax.{w128}
use Rattle.std.proofs.lemmas.Int.{to_z-of_z}
use Rattle.affine_form.specs.Combination.{constant_form}
use Rattle.affine_form.specs.Form.{IsSmall, IsSmallForm}
use Rattle.base_laws.proofs.Lists.{All-or, All-read}
use Rattle.affine_form.proofs.Sizes.{small-bits, sum-step}
use Rattle.affine_form.proofs.SubstitutionLemmas.{composed-constant-step}
use Rattle.affine_form.proofs.substitution.composed_constant.Goals as goal
use Rattle.iolb_model.specs.declared.limits.TheConstants.{NUMBER_SIZE}

pub loop-i-preserved : goal.loop-i-preserved
loop-i-preserved c =
    let xs = c.coef-coef.result.now in
    let forms = c.args.map.now in
    let k = c.loop-i.i in
    let sum = to_z w128 c.loop-i.sum-bits in
    let f = c.index-map-i.result in
    let a = get_or xs k (pos 0) in
    let x = c.constant.result in
    let z = c.add_product-sum.result in
    let small_f : IsSmallForm NUMBER_SIZE f = All-read (IsSmallForm NUMBER_SIZE) forms k f c.requires.small_map c.loop-i-test.true c.index-map-i.is in
    let small_a : unsigned_abs a < NUMBER_SIZE = All-or (IsSmall NUMBER_SIZE) xs k (pos 0) (subst (AllByRecursion (IsSmall NUMBER_SIZE)) (sym c.coef-coef.ensures.coefficients) c.requires.small.0) (lit< tt) in
    let small_x : unsigned_abs x < NUMBER_SIZE = subst (IsSmall NUMBER_SIZE) (sym c.constant.ensures.constant) small_f.1 in
    let is : z ≡ sum +ℤ (a *ℤ x) = simp (small-bits a NUMBER_SIZE small_a (lit≤ tt), small-bits x NUMBER_SIZE small_x (lit≤ tt)) at c.add_product-sum.ensures in
    let within : k < length xs = omega (arith, c.loop-i-test.true, c.requires.one_each, ap length c.coef-coef.ensures.coefficients) in
    let fits : FitsSigned w128 z = search rules in
    rw (to_z-of_z w128 z fits)
    (record {
      so_far = composed-constant-step xs forms (constant_form 0 c.args.form.now.constant) k a (pos 0) x z sum _ f f within c.loop-i-test.true refl c.index-map-i.is c.constant.ensures.constant is c.loop-i.invariant.so_far;
      small = sum-step sum z a x 0 k NUMBER_SIZE NUMBER_SIZE is small_a small_x c.loop-i.invariant.small;
    })
