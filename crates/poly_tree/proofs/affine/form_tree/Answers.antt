use Rattle.std.proofs.Common.{pos, get_or, refl, subst, lit≤, ◌<◌, ℤ}
use Rattle.std.specs.Prelude.{unsigned_abs}
use Rattle.affine_form.proofs.Sizes.{small-bits}
use Rattle.affine_form.proofs.ShownLemmas.{coefficient-small}
use Rattle.poly_tree.specs.Expansion.{IsExtended}
use Rattle.poly_tree.specs.Tree.{expansion}
use Rattle.poly_tree.proofs.AffineLemmas.{affine-push}
use Rattle.poly_tree.proofs.affine.form_tree.Goals as goal
use Rattle.iolb_model.specs.declared.limits.TheConstants.{COEFFICIENT_SIZE}

pub loop-var-preserved : goal.loop-var-preserved
loop-var-preserved c =
    let xs = c.coef-coefficient-items.result.now in
    let i = c.loop-var.var in
    let x = get_or xs i (pos 0) in
    let small : unsigned_abs x < COEFFICIENT_SIZE = coefficient-small c.args.form.now xs i c.coef-coefficient-items.ensures.coefficients c.coef-coefficient-items.ensures.legal in
    affine-push xs i x (pos 0) c.args.form.now.constant (expansion c.loop-var.tree) (expansion c.in_ok-tree.tree) c.loop-var-test.true refl c.loop-var.invariant
    (subst (λ (y : ℤ). IsExtended i y (expansion c.loop-var.tree) (expansion c.in_ok-tree.tree)) (small-bits x COEFFICIENT_SIZE small (lit≤ tt)) c.in_ok-tree.ensures)
