use Rattle.std.proofs.Common.{arith, refl}
use Rattle.poly_tree.specs.Tree.{expansion}
use Rattle.poly_tree.proofs.DegreeBounds.{degrees-count, degrees-from}
use Rattle.poly_tree.proofs.degrees.+degrees_fit.Goals as goal

pub returns-then-parts-gt9 : goal.returns-then-parts-gt9
returns-then-parts-gt9 t c =
    (λ e. absurd cc, λ h. absurd (omega (arith, degrees-count 8 (expansion c.args.tree.now) c.in-Over.field-0 c.in-Over.parts.now c.in-Over.ensures h, c.if-parts-gt9.true)))

pub returns-after-loop-part : goal.returns-after-loop-part
returns-after-loop-part t c =
    (λ e. degrees-from 8 (expansion c.args.tree.now) c.in-Over.field-0 c.in-Over.parts.now c.loop-part.part-index c.in-Over.ensures (omega (arith, c.if-parts-gt9.false)) c.loop-part-test.false c.loop-part.invariant, λ h. refl)
