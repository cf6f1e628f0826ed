use Rattle.std.proofs.Common.{arith, ◌+ℤ◌, ◌*ℤ◌, FitsSigned}
use mir.Syntax.{w128}
use Rattle.std.proofs.lemmas.Int.{ints, to_z-of_z, unsigned_abs-mul, fits_signed_from_abs}
use Rattle.affine_form.proofs.wide.add_product.Goals as goal

pub overflow_mul-product : goal.overflow_mul-product
overflow_mul-product c =
    let fits : FitsSigned w128 (c.args.x *ℤ c.args.y) = fits_signed_from_abs w128 (c.args.x *ℤ c.args.y) (omega (arith, unsigned_abs-mul c.args.x c.args.y)) in
    rw (to_z-of_z w128 c.args.x c.ranges.x, to_z-of_z w128 c.args.y c.ranges.y) fits

pub overflow_add-result : goal.overflow_add-result
overflow_add-result c =
    let x = c.args.x in
    let y = c.args.y in
    let product : FitsSigned w128 (x *ℤ y) = fits_signed_from_abs w128 (x *ℤ y) (omega (arith, unsigned_abs-mul x y)) in
    let sum : FitsSigned w128 (c.args.sum +ℤ (x *ℤ y)) = fits_signed_from_abs w128 (c.args.sum +ℤ (x *ℤ y)) (omega (arith, ints, unsigned_abs-mul x y)) in
    rw (to_z-of_z w128 c.args.sum c.ranges.sum, to_z-of_z w128 x c.ranges.x, to_z-of_z w128 y c.ranges.y, to_z-of_z w128 (x *ℤ y) product) sum
