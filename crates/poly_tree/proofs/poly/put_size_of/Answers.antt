use Rattle.std.proofs.Common.{◌≡◌, ◌*◌, ◌^◌, ℕ, min, max, ap, ◌∙◌, arith}
use Rattle.poly_tree.specs.Expansion.{weight, degree_in}
use Rattle.poly_tree.specs.Poly.{size}
use Rattle.poly_tree.specs.Tree.{expansion}
use Rattle.poly_tree.proofs.LinearLemmas.{capped-left, power-some}
use Rattle.poly_tree.proofs.poly.put_size_of.Goals as goal
use Rattle.iolb_model.specs.declared.limits.TheConstants.{MEASURE}

pub returns : goal.returns
returns c =
    let a = c.args.poly.now in
    let limit = MEASURE in
    let heavy : c.max.result ≡ max 1 (weight (expansion c.args.inner.now)) = omega (arith, c.max.ensures, c.weight_of.ensures, c.requires) in
    let degree : c.degree_in.result ≡ degree_in c.args.var a.tree = c.degree_in.ensures ∙ ap (degree_in c.args.var) c.tree.ensures.tree in
    c.capped_power.ensures
    ∙ ap (λ (n : ℕ). min (n * c.max.result ^ c.degree_in.result) limit) c.size_of.ensures.size
    ∙ ap (λ (n : ℕ). min (min (size a) limit * n ^ c.degree_in.result) limit) heavy
    ∙ ap (λ (n : ℕ). min (min (size a) limit * max 1 (weight (expansion c.args.inner.now)) ^ n) limit) degree
    ∙ capped-left (size a) (max 1 (weight (expansion c.args.inner.now)) ^ degree_in c.args.var a.tree) limit (power-some (max 1 (weight (expansion c.args.inner.now))) (degree_in c.args.var a.tree) (omega arith))
