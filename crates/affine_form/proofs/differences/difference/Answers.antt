use Rattle.std.proofs.Common.{◌≡◌, ◌<◌, ◌++◌, ◌∷◌, [], ap, sym, ◌∙◌, arith, rules, length, take, pos, ℤ, List, FitsSigned, lit≤}
use mir.Syntax.{w128}
use Rattle.std.specs.Prelude.{unsigned_abs}
use Rattle.std.proofs.lemmas.Int.{to_z-of_z}
use Rattle.std.proofs.lemmas.List.{take_more}
use Rattle.affine_form.specs.Form.{IsSmall}
use Rattle.affine_form.specs.Combination.{coefficient_of}
use Rattle.base_laws.proofs.Lists.{All-push}
use Rattle.affine_form.proofs.Sizes.{small-bits}
use Rattle.affine_form.specs.Rows.{difference}
use Rattle.affine_form.proofs.RowLemmas.{coefficient_of-difference, length-difference}
use Rattle.affine_form.proofs.Steps.{form_is}
use Rattle.affine_form.proofs.differences.difference.Goals as goal
use Rattle.iolb_model.specs.declared.limits.TheConstants.{COEFFICIENT_SIZE}

pub loop-place-preserved : goal.loop-place-preserved
loop-place-preserved c =
    let form = difference c.args.vars c.args.left.now c.args.right.now (pos 0) in
    let k = c.loop-place.place in
    let x = c.coefficient_less.result in
    let fits : FitsSigned w128 x = search rules in
    let within : k < length form.coefficients = omega (arith, c.loop-place-test.true, length-difference c.args.vars c.args.left.now c.args.right.now (pos 0) c.requires.left_in c.requires.right_in) in
    let is : x ≡ coefficient_of k form = c.coefficient_less.ensures.value ∙ sym (coefficient_of-difference c.args.vars c.args.left.now c.args.right.now (pos 0) k) in
    let pushed = simp (to_z-of_z w128 x fits) at c.in_ok-push.ensures.items in
    rw pushed (record {
      so_far = ap (λ (xs : List ℤ). xs ++ x ∷ []) c.loop-place.invariant.so_far
          ∙ ap (λ (y : ℤ). take k form.coefficients ++ y ∷ []) is
          ∙ sym (take_more form.coefficients k (pos 0) within);
      small = All-push (IsSmall COEFFICIENT_SIZE) c.loop-place.coef.items x c.loop-place.invariant.small c.coefficient_less.ensures.small;
    })

pub returns : goal.returns
returns c =
    let x = c.constant_less.result in
    let fits : FitsSigned w128 x = search rules in
    let number : unsigned_abs c.args.number < 2 = omega (arith, c.requires.small_number) in
    form_is (difference c.args.vars c.args.left.now c.args.right.now c.args.number) c.new.result c.loop-place.coef.items c.loop-place.place x c.loop-place.invariant.so_far
    (omega (arith, c.loop-place-test.false, length-difference c.args.vars c.args.left.now c.args.right.now (pos 0) c.requires.left_in c.requires.right_in))
    (simp (small-bits c.args.number 2 number (lit≤ tt)) at c.constant_less.ensures.value) (simp (to_z-of_z w128 x fits) at c.new.ensures)
