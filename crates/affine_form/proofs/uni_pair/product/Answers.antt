use Rattle.std.proofs.Common.{◌≡◌, ◌<◌, ◌^◌, ◌+ℤ◌, ◌*ℤ◌, rules, subst, sym, ap, ◌∙◌, lit≤, FitsSigned, to_z, ℤ, ℕ}
use Rattle.std.specs.Prelude.{unsigned_abs}
use mir.Syntax.{w32, w128}
use Rattle.std.proofs.lemmas.Int.{to_z-of_z}
use Rattle.affine_form.specs.Matrix.{entry}
use Rattle.affine_form.proofs.Sizes.{small-bits, sum-step, fits32-small}
use Rattle.affine_form.proofs.UniPairLemmas.{sum_below-more}
use Rattle.affine_form.proofs.uni_pair.product.Goals as goal

pub loop-k-preserved : goal.loop-k-preserved
loop-k-preserved c =
    let left = c.args.left.now in
    let right = c.args.right.now in
    let k = c.loop-k.k in
    let sum = to_z w128 c.loop-k.sum-bits in
    let z = c.add_product-sum.result in
    let fits_x : FitsSigned w32 c.entry.result = search rules in
    let fits_y : FitsSigned w32 c.entry-in-loop-k.result = search rules in
    let ex : c.from.result ≡ c.entry.result = c.from.ensures ∙ to_z-of_z w32 c.entry.result fits_x in
    let ey : c.from-in-loop-k.result ≡ c.entry-in-loop-k.result = c.from-in-loop-k.ensures ∙ to_z-of_z w32 c.entry-in-loop-k.result fits_y in
    let x = c.from.result in
    let y = c.from-in-loop-k.result in
    let small_x : unsigned_abs x < 2 ^ 32 = subst (λ (u : ℤ). unsigned_abs u < 2 ^ 32) (sym ex) (fits32-small c.entry.result fits_x) in
    let small_y : unsigned_abs y < 2 ^ 32 = subst (λ (u : ℤ). unsigned_abs u < 2 ^ 32) (sym ey) (fits32-small c.entry-in-loop-k.result fits_y) in
    let is : z ≡ sum +ℤ (x *ℤ y) = simp (small-bits x (2 ^ 32) small_x (lit≤ tt), small-bits y (2 ^ 32) small_y (lit≤ tt)) at c.add_product-sum.ensures in
    let f : ℕ → ℤ = λ (j : ℕ). entry left c.args.row j *ℤ entry right j c.args.col in
    let product : x *ℤ y ≡ f k = ap (λ (u : ℤ). u *ℤ y) (ex ∙ c.entry.ensures) ∙ ap (λ (u : ℤ). entry left c.args.row k *ℤ u) (ey ∙ c.entry-in-loop-k.ensures) in
    let fits : FitsSigned w128 z = search rules in
    rw (to_z-of_z w128 z fits)
    (record {
      so_far = is ∙ ap (λ (u : ℤ). sum +ℤ u) product ∙ ap (λ (u : ℤ). u +ℤ f k) c.loop-k.invariant.so_far ∙ sym (sum_below-more k f);
      small = sum-step sum z x y 0 k (2 ^ 32) (2 ^ 32) is small_x small_y c.loop-k.invariant.small;
    })
