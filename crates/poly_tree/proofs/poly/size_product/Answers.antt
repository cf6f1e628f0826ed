use Rattle.std.proofs.Common.{◌*◌, ℕ, min, ap, ◌∙◌}
use Rattle.poly_tree.specs.Expansion.{weight}
use Rattle.poly_tree.specs.Poly.{size}
use Rattle.poly_tree.proofs.LinearLemmas.{capped, size-some}
use Rattle.poly_tree.proofs.poly.size_product.Goals as goal
use Rattle.iolb_model.specs.declared.limits.TheConstants.{MEASURE}

pub returns : goal.returns
returns c =
    let a = c.args.a.now in
    let b = c.args.b.now in
    let limit = MEASURE in
    (c.capped_product.ensures
    ∙ ap (λ (n : ℕ). min (n * c.size_of-2.result) limit) c.size_of.ensures.size
    ∙ ap (λ (n : ℕ). min (min (size a) limit * n) limit) c.size_of-2.ensures.size
    ∙ capped (size a) (size b) limit (size-some (weight a.tree) a.denominator c.size_of.ensures.legal.positive) (size-some (weight b.tree) b.denominator c.size_of-2.ensures.legal.positive))
