use Rattle.std.proofs.Common.{◌≡◌, ◌*◌, arith, ap, ◌∙◌}
use Rattle.std.specs.Prelude.{unsigned_abs}
use mir.Syntax.{w128}
use Rattle.std.proofs.lemmas.Int.{to_z-of_z}
use Rattle.poly_tree.specs.declared.tree.Tree.{Tree}
use Rattle.poly_tree.specs.Expansion.{weight, scaled, IsSum, IsLinear}
use Rattle.poly_tree.specs.Tree.{expansion}
use Rattle.poly_tree.proofs.Products.{weight-scaled, IfOk-map}
use Rattle.poly_tree.proofs.LinearLemmas.{linear-from}
use Rattle.poly_tree.proofs.linear.linear.Goals as goal

pub sum-requires : goal.sum-requires
sum-requires c =
    let j = c.args.a_factor in
    let k = c.args.b_factor in
    let a = expansion c.args.a.now in
    let b = expansion c.args.b.now in
    let first : expansion c.in_ok-first.first ≡ scaled j a = simp (to_z-of_z w128 j c.ranges.a_factor) at c.in_ok-first.ensures in
    let second : expansion c.in_ok-second.second ≡ scaled k b = simp (to_z-of_z w128 k c.ranges.b_factor) at c.in_ok-second.ensures in
    let x : weight (expansion c.in_ok-first.first) ≡ unsigned_abs j * weight a = ap weight first ∙ weight-scaled j a in
    let y : weight (expansion c.in_ok-second.second) ≡ unsigned_abs k * weight b = ap weight second ∙ weight-scaled k b in
    omega (arith, c.requires.light)

pub returns : goal.returns
returns c =
    let j = c.args.a_factor in
    let k = c.args.b_factor in
    let a = expansion c.args.a.now in
    let b = expansion c.args.b.now in
    let first : expansion c.in_ok-first.first ≡ scaled j a = simp (to_z-of_z w128 j c.ranges.a_factor) at c.in_ok-first.ensures in
    let second : expansion c.in_ok-second.second ≡ scaled k b = simp (to_z-of_z w128 k c.ranges.b_factor) at c.in_ok-second.ensures in
    IfOk-map (λ (t : Tree). IsSum (expansion c.in_ok-first.first) (expansion c.in_ok-second.second) (expansion t)) (λ (t : Tree). IsLinear j a k b (expansion t)) c.sum.result
    (λ t s. linear-from j k a b (expansion c.in_ok-first.first) (expansion c.in_ok-second.second) (expansion t) c.requires.first c.requires.second first second s) c.sum.ensures
