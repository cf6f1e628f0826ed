use Rattle.std.proofs.Math.IntN.{negsuc}
use Rattle.poly_tree.specs.declared.tree.Tree.TheVariants.{Num}
use Rattle.poly_tree.specs.Expansion.{at, value}
use Rattle.poly_tree.specs.Poly.{IsPutIn, IsShiftOf}
use Rattle.poly_tree.specs.Tree.{expansion}
use Rattle.poly_tree.proofs.Products.{IfOk-map}
use Rattle.poly_tree.proofs.Trees.{expansion-Num}
use Rattle.poly_tree.proofs.AffineLemmas.{shift-value, shift-wide}
use Rattle.poly_tree.proofs.poly.Poly.shift.Goals as goal

pub returns-clause-value : goal.returns-clause-value
returns-clause-value c =
    let t = expansion c.in_ok-inner.inner in
    IfOk-map (IsPutIn c.args.self.now c.args.var (λ point. value t (at point))) (IsShiftOf c.args.self.now c.args.var) c.put_in.result
    (λ r. shift-value c.args.self.now c.args.var (expansion (Num (negsuc 0))) t r (expansion-Num (negsuc 0)) c.in_ok-inner.ensures) c.put_in.ensures.value

pub returns-clause-wide : goal.returns-clause-wide
returns-clause-wide c = λ e. shift-wide c.args.self.now c.args.var (expansion (Num (negsuc 0))) (expansion c.in_ok-inner.inner) (expansion-Num (negsuc 0)) c.in_ok-inner.ensures (c.put_in.ensures.wide e)
