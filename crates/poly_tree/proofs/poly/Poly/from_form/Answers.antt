use Rattle.std.proofs.Common.{rules}
use Rattle.poly_tree.specs.Tree.{expansion}
use Rattle.poly_tree.proofs.AffineLemmas.{legal-affine, form-affine}
use Rattle.poly_tree.proofs.poly.Poly.from_form.Goals as goal

pub invariant_of-result : goal.invariant_of-result
invariant_of-result c = (legal-affine c.args.form.now.coefficients c.args.form.now.constant (expansion c.in_ok-tree.tree) c.form_tree.ensures.legal.0 c.in_ok-tree.ensures.affine, search rules)

pub returns : goal.returns
returns c = form-affine c.args.form.now (expansion c.in_ok-tree.tree) c.in_ok-tree.ensures.affine
