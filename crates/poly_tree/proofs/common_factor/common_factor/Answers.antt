use Rattle.std.proofs.Common.{◌<◌, ◌≤◌, ◌^◌, arith, subst, ap, ◌∙◌, ℕ}
use Rattle.std.specs.Prelude.{unsigned_abs}
use mir.Syntax.{w128}
use Rattle.std.proofs.lemmas.Int.{ints, to_z-of_z, to_z_pos}
use Rattle.poly_tree.specs.Expansion.{IsContent}
use Rattle.poly_tree.specs.Tree.{expansion}
use Rattle.poly_tree.proofs.Factors.{content-above, content-below}
use Rattle.poly_tree.proofs.common_factor.common_factor.Goals as goal

same : (c : goal.After-content) → IsContent (expansion c.args.tree.now) (unsigned_abs c.args.start) c.content.result
same c = subst (λ (n : ℕ). IsContent (expansion c.args.tree.now) n c.content.result) (c.unsigned_abs.ensures.value ∙ ap unsigned_abs (to_z-of_z w128 c.args.start c.ranges.start)) c.content.ensures

small : (c : goal.After-content) → c.content.result < 2 ^ 127
small c = content-below (expansion c.args.tree.now) c.args.start c.content.result (same c) c.requires c.ranges.start

pub overflow_cast-result : goal.overflow_cast-result
overflow_cast-result c = let h : c.content.result < 2 ^ 127 = small c in record { sfits = h }

pub returns-clause-some : goal.returns-clause-some
returns-clause-some c =
    let above : 1 ≤ c.content.result = content-above (expansion c.args.tree.now) c.args.start c.content.result (same c) c.requires in
    rw (to_z_pos w128 c.content.result (small c)) (omega (arith, ints))

pub returns-clause-content : goal.returns-clause-content
returns-clause-content c =
    rw (to_z_pos w128 c.content.result (small c)) (same c)
