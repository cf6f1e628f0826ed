use Rattle.std.proofs.Common.{arith, ◌-ℤ◌, FitsSigned}
use mir.Syntax.{w128}
use Rattle.std.proofs.lemmas.Int.{ints, to_z-of_z, fits_signed_from_abs}
use Rattle.int_sets.proofs.short.less.Goals as goal

pub overflow_sub-result : goal.overflow_sub-result
overflow_sub-result c =
    let fits : FitsSigned w128 (c.args.number -ℤ c.args.other) = fits_signed_from_abs w128 (c.args.number -ℤ c.args.other) (omega (arith, ints)) in
    rw (to_z-of_z w128 c.args.number c.ranges.number, to_z-of_z w128 c.args.other c.ranges.other) fits
