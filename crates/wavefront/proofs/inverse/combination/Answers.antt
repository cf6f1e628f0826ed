use Rattle.std.proofs.Common.{◌≡◌, sym, ◌∙◌, ap, subst, ◌<◌, ℕ, pos, ◌+ℤ◌, length, List, ℤ, FitsSigned, to_z, of_z, ◌*ℤ◌, get_or, rules, lit≤, arith}
use mir.Syntax.{w128, w32}
use Rattle.std.specs.Prelude.{unsigned_abs}
use Rattle.std.proofs.lemmas.Int.{to_z-of_z, fits_signed_from_abs}
use Rattle.std.proofs.lemmas.List.{get_or-map, length-map, get_or_default}
use Rattle.iolb_model.specs.Form.{AffineForm}
use Rattle.affine_form.specs.Form.{IsSmall}
use Rattle.base_laws.proofs.Lists.{All-at}
use Rattle.affine_form.proofs.Lists.{dot-step}
use Rattle.affine_form.proofs.Sizes.{small-bits, sum-step}
use Rattle.wavefront.specs.Columns.{coefficients_at}
use Rattle.wavefront.proofs.inverse.combination.Goals as goal
use Rattle.iolb_model.specs.declared.limits.TheConstants.{NUMBER_SIZE, COEFFICIENT_SIZE}

pub loop-i-preserved : goal.loop-i-preserved
loop-i-preserved c =
    let row : List ℤ = c.args.row.now in
    let forms : List AffineForm = c.args.forms.now in
    let i : ℕ = c.loop-i.i in
    let place : ℕ = c.args.place in
    let sum : ℤ = to_z w128 c.loop-i.sum-bits in
    let x : ℤ = get_or row i (pos 0) in
    let y : ℤ = c.coefficient.result in
    let there : i < length forms = omega (arith, c.requires.as_many, c.loop-i-test.true) in
    let small_x : unsigned_abs x < NUMBER_SIZE = All-at (IsSmall NUMBER_SIZE) row i (pos 0) c.requires.small c.loop-i-test.true in
    let small_y : unsigned_abs y < COEFFICIENT_SIZE = c.coefficient.ensures.small in
    let bits_x : to_z w32 (of_z w32 x) ≡ x = to_z-of_z w32 x (fits_signed_from_abs w32 x (omega (arith, small_x))) in
    let bits_y : to_z w128 (of_z w128 y) ≡ y = small-bits y COEFFICIENT_SIZE small_y (lit≤ tt) in
    let is : c.add_entry-sum.result ≡ sum +ℤ (x *ℤ y) = c.add_entry-sum.ensures ∙ ap (λ (z : ℤ). sum +ℤ (z *ℤ to_z w128 (of_z w128 y))) bits_x ∙ ap (λ (z : ℤ). sum +ℤ (x *ℤ z)) bits_y in
    let column : y ≡ get_or (coefficients_at place forms) i (pos 0) =
    c.coefficient.ensures.value
    ∙ ap (λ (f : AffineForm). get_or f.coefficients place (pos 0)) c.index-forms-i.is
    ∙ sym (get_or-map (λ (f : AffineForm). get_or f.coefficients place (pos 0)) forms i c.index-forms-i.result (pos 0) there) in
    let there_column : i < length (coefficients_at place forms) = subst (λ (n : ℕ). i < n) (sym (length-map forms (λ (f : AffineForm). get_or f.coefficients place (pos 0)))) there in
    let fits : FitsSigned w128 c.add_entry-sum.result = search rules in
    rw (to_z-of_z w128 c.add_entry-sum.result fits)
    (record {
      so_far = dot-step row (coefficients_at place forms) i sum _ x y (pos 0) c.add_entry-sum.result c.loop-i-test.true there_column (get_or_self row i c.loop-i-test.true) column is c.loop-i.invariant.so_far;
      small = sum-step sum c.add_entry-sum.result x y 0 i NUMBER_SIZE COEFFICIENT_SIZE is small_x small_y c.loop-i.invariant.small;
    }) where
      get_or_self : (xs : List ℤ) (k : ℕ) → k < length xs → get_or xs k (pos 0) ≡ get_or xs k (get_or xs k (pos 0))
      get_or_self xs k l = get_or_default xs k (pos 0) (get_or xs k (pos 0)) l
