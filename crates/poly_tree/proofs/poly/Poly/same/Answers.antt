use Rattle.std.proofs.Common.{◌≡◌, ap, ◌∙◌, sym, pos, of_z}
use mir.Syntax.{w128}
use Rattle.poly_tree.specs.Tree.{expansion}
use Rattle.poly_tree.proofs.SameLemmas.{same-denominators, same-trees}
use Rattle.poly_tree.proofs.poly.Poly.same.Goals as goal

pub returns-then-den-clause-exact : goal.returns-then-den-clause-exact
returns-then-den-clause-exact c = (
  λ e. absurd cc,
  λ h. absurd (c.if-den.true (ap (of_z w128) (c.den.ensures.denominator ∙ ap pos (same-denominators c.args.self.now c.args.other.now c.den.ensures.legal c.den-2.ensures.legal h) ∙ sym c.den-2.ensures.denominator))),
)

pub returns-then-not-equal-clause-exact : goal.returns-then-not-equal-clause-exact
returns-then-not-equal-clause-exact c = (
  λ e. absurd cc,
  λ h. let trees : expansion c.tree.result.now ≡ expansion c.tree-2.result.now
      = c.tree.ensures.tree ∙ same-trees c.args.self.now c.args.other.now c.tree.ensures.legal c.tree-2.ensures.legal h ∙ sym c.tree-2.ensures.tree in
      let yes = c.equal.ensures.1 trees in let no = c.if-not-equal.true in absurd cc,
)
