use Rattle.std.proofs.Common.{◌≡◌, arith, pos, to_z, of_z}
use Rattle.std.proofs.Math.IntN.{neg_ℤ, ◌-ℤ◌}
use mir.Syntax.{w128}
use Rattle.std.proofs.lemmas.Int.{ints}
use Rattle.poly_tree.specs.Poly.{IsCombinationOf, IsDifferenceOf}
use Rattle.poly_tree.proofs.LinearLemmas.{difference-value}
use Rattle.poly_tree.proofs.Products.{IfOk-map}
use Rattle.poly_tree.proofs.poly.Poly.sub.Goals as goal

pub returns-clause-value : goal.returns-clause-value
returns-clause-value c =
    let a = c.args.self.now in
    let b = c.args.other.now in
    let k = to_z w128 (of_z w128 (pos 0 -ℤ to_z w128 (of_z w128 c.den.result))) in
    let e : k ≡ neg_ℤ (pos a.denominator) = omega (arith, ints, c.den.ensures.denominator) in
    IfOk-map (IsCombinationOf a b k) (IsDifferenceOf a b) c.combined.result (λ r. difference-value a b r k e) c.combined.ensures.value
