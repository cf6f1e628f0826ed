use Rattle.std.proofs.Common.{◌≡◌, sym, ◌∙◌, ap, subst, ℕ, suc, ◌+◌, ◌<◌, List, [], ◌∷◌, ◌++◌, length, drop, get_or, append_assoc, arith, lit≤, to_z, of_z}
use Rattle.std.specs.Prelude.{ℤ, pos, unsigned_abs}
use mir.Syntax.{w64}
use Rattle.std.proofs.lemmas.Int.{to_z-of_z, fits_signed_from_abs}
use Rattle.std.proofs.Math.Seq.{drop-cons}
use Rattle.affine_form.specs.Form.{IsSmall}
use Rattle.base_laws.proofs.Lists.{All-at}
use Rattle.affine_form.proofs.Sizes.{small-bits}
use Rattle.certificate_parts.proofs.forms.form_numbers.Goals as goal
use Rattle.iolb_model.specs.declared.limits.TheConstants.{COEFFICIENT_SIZE}

moved : (old new xs : List ℤ) (i : ℕ) (x : ℤ) → i < length xs → x ≡ get_or xs i (pos 0) → new ≡ old ++ x ∷ [] → old ++ drop i xs ≡ xs → new ++ drop (i + 1) xs ≡ xs
moved old new xs i x h e n whole =
    let next : i + 1 ≡ suc i = omega arith in
    ap (λ (l : List ℤ). l ++ drop (i + 1) xs) n ∙ append_assoc old (x ∷ []) (drop (i + 1) xs)
    ∙ ap (λ (j : ℕ). old ++ (x ∷ drop j xs)) next ∙ ap (λ (y : ℤ). old ++ (y ∷ drop (suc i) xs)) e ∙ ap (λ (l : List ℤ). old ++ l) (sym (drop-cons xs i (pos 0) h)) ∙ whole

pub loop-coefficient-preserved : goal.loop-coefficient-preserved
loop-coefficient-preserved c =
    let xs : List ℤ = c.coef-coefficient-items.result.now in
    let i : ℕ = c.loop-coefficient.coefficient-index in
    let inside : i < length xs = c.loop-coefficient-test.true in
    let small : unsigned_abs (get_or xs i (pos 0)) < COEFFICIENT_SIZE =
    subst (λ (l : List ℤ). i < length l → unsigned_abs (get_or l i (pos 0)) < COEFFICIENT_SIZE) (sym c.coef-coefficient-items.ensures.coefficients)
    (All-at (IsSmall COEFFICIENT_SIZE) c.args.form.now.coefficients i (pos 0) c.coef-coefficient-items.ensures.legal.1.0) inside in
    let is : c.narrowed.result ≡ get_or xs i (pos 0) = c.narrowed.ensures ∙ small-bits (get_or xs i (pos 0)) COEFFICIENT_SIZE small (lit≤ tt) in
    let small_whole : unsigned_abs c.narrowed.result < COEFFICIENT_SIZE = subst (λ (z : ℤ). unsigned_abs z < COEFFICIENT_SIZE) (sym is) small in
    moved c.loop-coefficient.list.items c.push.new.self.items xs i (to_z w64 (of_z w64 c.narrowed.result)) inside
    (to_z-of_z w64 c.narrowed.result (fits_signed_from_abs w64 c.narrowed.result (omega (arith, small_whole))) ∙ is) c.in_ok-push.ensures.items c.loop-coefficient.invariant
