use Rattle.std.proofs.Common.{rules, ◌≡◌, sym, ◌∙◌, ap, subst, ℕ, List, ◌++◌, take, drop, replicate, length, lit<, arith, FitsSigned}
use Rattle.std.specs.List.{AllByRecursion}
use Rattle.std.proofs.Math.IntN.{ℤ, pos}
use mir.Syntax.{w128}
use Rattle.std.proofs.lemmas.Int.{to_z-of_z}
use Rattle.iolb_model.specs.Form.{AffineForm}
use Rattle.affine_form.specs.Form.{IsSmall}
use Rattle.footprint_pieces.specs.DisjointClaims.{moved}
use Rattle.footprint_pieces.proofs.MovedForms.{length-moved, moved-numbers}
use Rattle.footprint_pieces.proofs.shared.moved.Goals as goal
use Rattle.iolb_model.specs.declared.limits.TheConstants.{COEFFICIENT_SIZE}

-- three parts, one behind another
joined : (front zeros behind one two three a b c : List ℤ) → one ≡ front → two ≡ one ++ zeros → three ≡ two ++ behind → front ≡ a → zeros ≡ b → behind ≡ c → three ≡ a ++ b ++ c
joined front zeros behind one two three a b c p q r s t u = cc

-- a form is known by its numbers
form_is : (form : AffineForm) (xs ys : List ℤ) (x y : ℤ) → form ≡ record { coefficients = xs; constant = x } → xs ≡ ys → x ≡ y → form ≡ record { coefficients = ys; constant = y }
form_is form xs ys x y is p q = is ∙ ap (λ (zs : List ℤ). record { coefficients = zs; constant = x }) p ∙ ap (λ (z : ℤ). record { coefficients = ys; constant = z }) q

pub new-requires-clause-few : goal.new-requires-clause-few
new-requires-clause-few c =
    let place : ℕ = c.args.place in
    let coefficients : List ℤ = c.args.form.now.coefficients in
    let whole : c.extend_from_slice-2.new.self.items ≡ take place coefficients ++ replicate c.args.more (pos 0) ++ drop place coefficients =
    joined c.split_at.result.0.now c.as_slice.result.now c.split_at.result.1.now c.in_ok-wide.wide.items c.extend_from_slice.new.self.items c.extend_from_slice-2.new.self.items
    (take place coefficients) (replicate c.args.more (pos 0)) (drop place coefficients) c.in_ok-wide.ensures.items c.in_ok-extend_from_slice.ensures.items c.in_ok-extend_from_slice-2.ensures.items
    (c.split_at.ensures.front ∙ ap (take place) c.coef-coef.ensures.coefficients) (c.as_slice.ensures.value ∙ c.in_ok-zeros.ensures.items_if_clones_equal (λ y e. e))
    (c.split_at.ensures.back ∙ ap (drop place) c.coef-coef.ensures.coefficients) in
    omega (arith, ap (λ (xs : List ℤ). length xs) whole, length-moved place c.args.more c.args.form.now c.requires.there, c.requires.few)

pub new-requires-clause-small : goal.new-requires-clause-small
new-requires-clause-small c =
    let place : ℕ = c.args.place in
    let coefficients : List ℤ = c.args.form.now.coefficients in
    let whole : c.extend_from_slice-2.new.self.items ≡ take place coefficients ++ replicate c.args.more (pos 0) ++ drop place coefficients =
    joined c.split_at.result.0.now c.as_slice.result.now c.split_at.result.1.now c.in_ok-wide.wide.items c.extend_from_slice.new.self.items c.extend_from_slice-2.new.self.items
    (take place coefficients) (replicate c.args.more (pos 0)) (drop place coefficients) c.in_ok-wide.ensures.items c.in_ok-extend_from_slice.ensures.items c.in_ok-extend_from_slice-2.ensures.items
    (c.split_at.ensures.front ∙ ap (take place) c.coef-coef.ensures.coefficients) (c.as_slice.ensures.value ∙ c.in_ok-zeros.ensures.items_if_clones_equal (λ y e. e))
    (c.split_at.ensures.back ∙ ap (drop place) c.coef-coef.ensures.coefficients) in
    subst (AllByRecursion (IsSmall COEFFICIENT_SIZE)) (sym whole) (moved-numbers COEFFICIENT_SIZE place c.args.more coefficients (lit< tt) c.coef-coef.ensures.legal.1.0)

pub returns : goal.returns
returns c =
    let place : ℕ = c.args.place in
    let coefficients : List ℤ = c.args.form.now.coefficients in
    let whole : c.extend_from_slice-2.new.self.items ≡ take place coefficients ++ replicate c.args.more (pos 0) ++ drop place coefficients =
    joined c.split_at.result.0.now c.as_slice.result.now c.split_at.result.1.now c.in_ok-wide.wide.items c.extend_from_slice.new.self.items c.extend_from_slice-2.new.self.items
    (take place coefficients) (replicate c.args.more (pos 0)) (drop place coefficients) c.in_ok-wide.ensures.items c.in_ok-extend_from_slice.ensures.items c.in_ok-extend_from_slice-2.ensures.items
    (c.split_at.ensures.front ∙ ap (take place) c.coef-coef.ensures.coefficients) (c.as_slice.ensures.value ∙ c.in_ok-zeros.ensures.items_if_clones_equal (λ y e. e))
    (c.split_at.ensures.back ∙ ap (drop place) c.coef-coef.ensures.coefficients) in
    let fits : FitsSigned w128 c.constant.result = search rules in
    form_is c.new.result c.extend_from_slice-2.new.self.items (moved place c.args.more c.args.form.now).coefficients c.constant.result c.args.form.now.constant
    (simp (to_z-of_z w128 c.constant.result fits) at c.new.ensures) whole c.constant.ensures.constant
