use Rattle.std.proofs.Common.{◌≡◌, ◌<◌, arith, sym, ap, ◌∙◌, subst, take, map, ℤ, rules, FitsSigned}
use Rattle.std.specs.Prelude.{unsigned_abs}
use mir.Syntax.{w128}
use Rattle.std.proofs.lemmas.Int.{to_z-of_z}
use Rattle.poly_tree.specs.Expansion.{nodes, scaled, DividesAll, number}
use Rattle.poly_tree.specs.Tree.{expansion}
use Rattle.poly_tree.proofs.Factors.{divides-read, divided-over}
use Rattle.poly_tree.proofs.Trees.{nodes-below, expansion-Num}
use Rattle.poly_tree.proofs.common_factor.+divided.Goals as goal

pub divided-requires : goal.divided-requires
divided-requires t c =
    let tree = expansion c.args.tree.now in
    let u = c.part-item.result in
    let fewer : nodes (expansion u) < nodes tree = nodes-below tree c.in-Over.var c.in-Over.parts.now c.loop-part.part-index u c.in-Over.ensures c.loop-part-test.true c.part-item.is in
    let d : nodes (expansion u) < t = omega (arith, c.decreases) in (
      d,
      rw (to_z-of_z w128 c.args.factor c.ranges.factor)
          (c.requires.some, divides-read (unsigned_abs c.args.factor) tree c.in-Over.var c.in-Over.parts.now c.loop-part.part-index u c.in-Over.ensures c.loop-part-test.true c.part-item.is c.requires.divides),
    )

pub returns-in-Number : goal.returns-in-Number
returns-in-Number t c =
    let n = c.in-Number.number in
    let f = c.args.factor in
    let q = c.quotient.result in
    let fits_n : FitsSigned w128 n = search rules in
    let fits_q : FitsSigned w128 q = search rules in
    let is = simp (to_z-of_z w128 f c.ranges.factor, to_z-of_z w128 n fits_n) at c.quotient.ensures in
    rw (to_z-of_z w128 q fits_q) (ap (scaled f) (expansion-Num q) ∙ ap number is ∙ sym c.in-Number.ensures)

pub quotient-requires-clause-divides : goal.quotient-requires-clause-divides
quotient-requires-clause-divides t c =
    let n = c.in-Number.number in
    let f = c.args.factor in
    let fits_n : FitsSigned w128 n = search rules in
    rw (to_z-of_z w128 f c.ranges.factor, to_z-of_z w128 n fits_n) (subst (DividesAll (unsigned_abs f)) c.in-Number.ensures c.requires.divides)

pub returns-after-loop-part : goal.returns-after-loop-part
returns-after-loop-part t c =
    let f = c.args.factor in
    divided-over f (expansion c.args.tree.now) c.in-Over.var c.loop-part.quotients c.in-Over.parts.now c.loop-part.part-index c.in-Over.ensures c.loop-part-test.false
    (subst (λ (g : ℤ). map (scaled g) (map expansion c.loop-part.quotients.items) ≡ map expansion (take c.loop-part.part-index c.in-Over.parts.now)) (to_z-of_z w128 f c.ranges.factor) c.loop-part.invariant)
