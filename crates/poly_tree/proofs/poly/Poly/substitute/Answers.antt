use Rattle.poly_tree.specs.Expansion.{at, value}
use Rattle.poly_tree.specs.Poly.{IsPutIn, IsSubstitutionOf}
use Rattle.poly_tree.specs.Tree.{expansion}
use Rattle.poly_tree.proofs.Products.{IfOk-map}
use Rattle.poly_tree.proofs.AffineLemmas.{affine-light, substitution-value, substitution-wide}
use Rattle.poly_tree.proofs.poly.Poly.substitute.Goals as goal

pub put_in-requires-clause-light : goal.put_in-requires-clause-light
put_in-requires-clause-light c = affine-light c.args.form.now (expansion c.in_ok-inner.inner) c.form_tree.ensures.legal c.in_ok-inner.ensures.affine

pub returns-clause-value : goal.returns-clause-value
returns-clause-value c =
    let t = expansion c.in_ok-inner.inner in
    IfOk-map (IsPutIn c.args.self.now c.args.var (λ point. value t (at point))) (IsSubstitutionOf c.args.self.now c.args.var c.args.form.now) c.put_in.result
    (λ r. substitution-value c.args.self.now c.args.var c.args.form.now t r c.in_ok-inner.ensures.affine) c.put_in.ensures.value

pub returns-clause-wide : goal.returns-clause-wide
returns-clause-wide c = λ e. substitution-wide c.args.self.now c.args.var c.args.form.now (expansion c.in_ok-inner.inner) c.in_ok-inner.ensures.affine (c.put_in.ensures.wide e)
