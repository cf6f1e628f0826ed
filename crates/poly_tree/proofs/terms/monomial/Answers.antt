use Rattle.std.proofs.Common.{get_or, refl, subst, take, ℤ}
use mir.Syntax.{w128}
use Rattle.std.proofs.lemmas.Int.{to_z-of_z}
use Rattle.poly_tree.specs.Expansion.{IsMonomial}
use Rattle.poly_tree.specs.Tree.{expansion}
use Rattle.poly_tree.proofs.TermLemmas.{monomial-push}
use Rattle.poly_tree.proofs.terms.monomial.Goals as goal

pub loop-var-preserved : goal.loop-var-preserved
loop-var-preserved c =
    let es = c.args.exponents.now in
    let i = c.loop-var.var in
    rw (to_z-of_z w128 c.args.coefficient c.ranges.coefficient)
    (monomial-push c.args.coefficient es i (get_or es i 0) 0 (expansion c.loop-var.tree) (expansion c.in_ok-tree.tree) c.loop-var-test.true refl c.requires.low
    (subst (λ (k : ℤ). IsMonomial k (take i es) (expansion c.loop-var.tree)) (to_z-of_z w128 c.args.coefficient c.ranges.coefficient) c.loop-var.invariant) c.in_ok-tree.ensures)
