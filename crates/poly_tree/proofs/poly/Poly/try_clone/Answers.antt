use Rattle.std.proofs.Common.{ap, ◌∙◌, rules, FitsSigned}
use Rattle.std.specs.Prelude.{unsigned_abs}
use mir.Syntax.{w128}
use Rattle.std.proofs.lemmas.Int.{to_z-of_z}
use Rattle.poly_tree.specs.Tree.{expansion}
use Rattle.poly_tree.proofs.SameLemmas.{legal-copy, same-parts_polynomial}
use Rattle.poly_tree.proofs.poly.Poly.try_clone.Goals as goal

pub invariant_of-result : goal.invariant_of-result
invariant_of-result c =
    let fits : FitsSigned w128 c.den.result = search rules in
    rw (to_z-of_z w128 c.den.result fits)
    (legal-copy c.args.self.now (expansion c.in_ok-tree.tree) c.den.result c.den.ensures.legal (c.in_ok-tree.ensures ∙ c.tree.ensures.tree) c.den.ensures.denominator)

pub returns : goal.returns
returns c =
    let fits : FitsSigned w128 c.den.result = search rules in
    rw (to_z-of_z w128 c.den.result fits)
    (same-parts_polynomial (record { tree = expansion c.in_ok-tree.tree; denominator = unsigned_abs c.den.result }) c.args.self.now (c.in_ok-tree.ensures ∙ c.tree.ensures.tree) (ap unsigned_abs c.den.ensures.denominator))
