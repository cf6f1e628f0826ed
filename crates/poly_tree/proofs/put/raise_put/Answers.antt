use Rattle.std.proofs.Common.{◌≤◌, ◌*◌, ℕ, max, arith, ap, mul-le-mul_right}
use Rattle.poly_tree.specs.Expansion.{weight}
use Rattle.poly_tree.specs.Tree.{expansion}
use Rattle.poly_tree.proofs.PutLemmas.{put-here, put-there, growth-here}
use Rattle.poly_tree.proofs.put.raise_put.Goals as goal

pub mul-requires : goal.mul-requires
mul-requires c =
    let f = weight (expansion c.args.inner.now) in
    let w = weight (expansion c.args.tree.now) in
    let e = growth-here c.args.var (max 1 f) c.args.v c.if-v-var.true in
    let le : f * w ≤ max 1 f * w = mul-le-mul_right w (omega arith) in
    omega (arith, ap (λ (n : ℕ). n * w) e, c.requires)

pub returns-then-v-var : goal.returns-then-v-var
returns-then-v-var c = put-here c.args.var c.args.v (expansion c.args.inner.now) (expansion c.args.tree.now) (expansion c.in_ok-product.product) c.if-v-var.true c.in_ok-product.ensures

pub returns : goal.returns
returns c = put-there c.args.var c.args.v (expansion c.args.inner.now) (expansion c.args.tree.now) (expansion c.in_ok-raised.raised) c.if-v-var.false c.in_ok-raised.ensures
