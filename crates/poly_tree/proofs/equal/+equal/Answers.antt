use Rattle.std.proofs.Common.{◌<◌, length, arith}
use Rattle.poly_tree.specs.Expansion.{nodes}
use Rattle.poly_tree.specs.Tree.{expansion}
use Rattle.poly_tree.proofs.Trees.{nodes-below, same-parts, same-lengths, same-at}
use Rattle.poly_tree.proofs.Made.{same-more}
use Rattle.poly_tree.proofs.equal.+equal.Goals as goal

pub returns-then-first-second : goal.returns-then-first-second
returns-then-first-second t c =
    let i = c.in-Over-Over in (
      λ e. absurd cc,
      λ h. absurd (c.if-first-second.true (same-lengths i.first.now i.second.now (same-parts (expansion c.args.a.now) (expansion c.args.b.now) i.v i.w i.first.now i.second.now i.ensures i.ensures' h))),
    )

pub equal-requires : goal.equal-requires
equal-requires t c =
    let i = c.in-Over-Over in
    let u = c.index-first-power.result in
    let fewer : nodes (expansion u) < nodes (expansion c.args.a.now) = nodes-below (expansion c.args.a.now) i.v i.first.now c.loop-power.power u i.ensures c.loop-power-test.true c.index-first-power.is in
    let d : nodes (expansion u) < t = omega (arith, c.decreases) in
    (d, tt)

pub returns-then-not-equal : goal.returns-then-not-equal
returns-then-not-equal t c =
    let i = c.in-Over-Over in
    let k = c.loop-power.power in
    let within : k < length i.second.now = omega (arith, c.loop-power-test.true, c.if-first-second.false) in (
      λ e. absurd cc,
      λ h. let yes = c.equal.ensures.1 (same-at i.first.now i.second.now k c.index-first-power.result c.index-second-power.result
          (same-parts (expansion c.args.a.now) (expansion c.args.b.now) i.v i.w i.first.now i.second.now i.ensures i.ensures' h) c.loop-power-test.true within c.index-first-power.is c.index-second-power.is) in
          let no = c.if-not-equal.true in absurd cc,
    )

pub loop-power-preserved : goal.loop-power-preserved
loop-power-preserved t c =
    let i = c.in-Over-Over in
    let k = c.loop-power.power in
    let within : k < length i.second.now = omega (arith, c.loop-power-test.true, c.if-first-second.false) in
    same-more i.first.now i.second.now k c.index-first-power.result c.index-second-power.result c.loop-power-test.true within c.index-first-power.is c.index-second-power.is
    (c.equal.ensures.0 c.if-not-equal.false) c.loop-power.invariant
