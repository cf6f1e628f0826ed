use Rattle.std.proofs.Common.{FitsSigned, arith, pos}
use Rattle.std.proofs.lemmas.Int.{ints, quot_is, quot_fits}
use Rattle.std.specs.Prelude.{int_div}
use lib.Signed.{◌<ℤ◌}
use mir.Syntax.{w128}
use Rattle.poly_tree.proofs.Factors.{exact-quotient}
use Rattle.poly_tree.proofs.common_factor.quotient.Goals as goal

pub returns : goal.returns
returns c =
    let n = c.args.number in
    let d = c.args.factor in
    let above : pos 0 <ℤ d = omega (arith, ints, c.requires.some) in
    let fits : FitsSigned w128 (int_div n d) = quot_fits w128 n d c.ranges.number above in
    rw (quot_is w128 n d c.ranges.number c.ranges.factor fits) (exact-quotient n d c.requires.divides)
