use Rattle.std.proofs.Common.{List, refl, subst, arith}
use Rattle.poly_tree.specs.declared.tree.Tree.{Tree}
use Rattle.poly_tree.specs.Expansion.{EndsInZero, EndsNonzero}
use Rattle.poly_tree.specs.Tree.{expansions}
use Rattle.poly_tree.proofs.Trees.{popped}
use Rattle.poly_tree.proofs.join.trim.Goals as goal

pub loop-parts-preserved-in-loop-parts-2 : goal.loop-parts-preserved-in-loop-parts-2
loop-parts-preserved-in-loop-parts-2 c =
    popped (expansions c.args.parts.now.items) c.loop-parts.parts.items c.pop-zero.new.self.items c.pop-zero.result c.pop-zero.ensures.items (subst (λ (us : List Tree). EndsInZero (expansions us)) c.deref.ensures.value c.loop-parts-test.ensures) c.loop-parts.invariant

pub loop-parts-init : goal.loop-parts-init
loop-parts-init c = record { same = λ x point. refl; light = omega arith; canonical = λ bound h. h; count = omega arith; degrees = λ d h. h }

pub returns : goal.returns
returns c = record { trimmed = c.loop-parts.invariant; nonzero = subst (λ (us : List Tree). EndsNonzero (expansions us)) c.deref.ensures.value c.loop-parts-test.ensures }
