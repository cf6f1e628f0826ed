use Rattle.std.proofs.Common.{◌≡◌, sym, ◌∙◌, ap, subst, ℕ, suc, ◌<◌, List, [], ◌∷◌, length, arith, rules, refl, inl, inr, true, false, FitsSigned}
use Rattle.std.proofs.Math.IntN.{ℤ, pos, negsuc, neg_ℤ}
use Rattle.std.specs.Prelude.{◌≤ℤ◌, unsigned_abs}
use Rattle.std.specs.Cmp.{signed_Decides}
use Rattle.std.proofs.lemmas.Int.{ints, to_z-of_z}
use Rattle.std.specs.Int.Signed.{lt_z}
use Rattle.std.proofs.lemmas.List.{get_or_default}
use Rattle.std.proofs.lemmas.Bool.Decides.{nat_tests}
use Rattle.std.proofs.lemmas.Slice.Eq.{slice_eq-Decides}
use Rattle.iolb_model.specs.Form.{AffineForm}
use Rattle.affine_form.specs.Shown.{row_at}
use Rattle.projective.specs.Projective.{HoldsOfOne}
use Rattle.projective.proofs.assumed.taken.Goals as goal
use Rattle.projective.proofs.assumed.taken.Goals.{else-eq-via-then-eq+else-constant-lt0, else-eq-via-else-eq}
use borrow.Author.Count.{below_more}
use mir.Syntax.{w128}

-- what holds of one of some rows holds of one at a place
some-row : (P : AffineForm → Type 0) (rows : List AffineForm) → HoldsOfOne P rows → (k : ℕ) × (k < length rows) × P (row_at rows k)
some-row P [] h = absurd h
some-row P (row ∷ rows) (inl here) = (0, omega arith, here)
some-row P (row ∷ rows) (inr later) = let there = some-row P rows later in (suc there.0, omega (arith, there.1), there.2)

pub unreachable-requires : goal.unreachable-requires
unreachable-requires c =
    let there = some-row _ c.args.rows.now c.requires.some in c.loop-number.invariant there.0 (omega (arith, there.1, c.loop-number-test.false)) there.2

-- numbers below 0
negative : (x : ℤ) → lt_z x (pos 0) ≡ true → x ≡ neg_ℤ (pos (unsigned_abs x))
negative (pos n) e = absurd (grind (arith, ints, nat_tests))
negative (negsuc n) e = refl

not-negative : (x : ℤ) → lt_z x (pos 0) ≡ false → x ≤ℤ negsuc 0 → ⊥
not-negative (pos n) e h = omega (arith, ints)
not-negative (negsuc n) e h = absurd (grind (arith, ints, nat_tests))

pub loop-number-preserved : goal.loop-number-preserved
loop-number-preserved c =
    let rows = c.args.rows.now in
    let lists = slice_eq-Decides signed_Decides c.coef.result.now c.args.coef.now c.eq.result c.eq.ensures in
    let here : c.index-rows-number.result ≡ row_at rows c.loop-number.number =
    c.index-rows-number.is ∙ get_or_default rows c.loop-number.number c.index-rows-number.result (record { coefficients = []; constant = pos 0 }) c.loop-number-test.true in
    below_more (λ (k : ℕ). ¬ (((row_at rows k).coefficients ≡ c.args.coef.now) × ((row_at rows k).constant ≤ℤ negsuc 0))) c.loop-number.number c.loop-number.invariant
    (elim c.else-eq.branch [
      | else-eq-via-then-eq+else-constant-lt0 w ↦ λ h.
          let x = w.constant.result in
          let fits : FitsSigned w128 x = search rules in
          not-negative x (subst (λ (z : ℤ). lt_z z (pos 0) ≡ false) (to_z-of_z w128 x fits) w.if-constant-lt0.false)
          (subst (λ (z : ℤ). z ≤ℤ negsuc 0) (sym (w.constant.ensures.constant ∙ ap (λ (f : AffineForm). f.constant) here)) h.1)
      | else-eq-via-else-eq w ↦ λ h.
          let same : c.coef.result.now ≡ c.args.coef.now = c.coef.ensures.coefficients ∙ ap (λ (f : AffineForm). f.coefficients) here ∙ h.0 in
          let yes = lists.1 same in
          let no = w.if-eq.false in absurd cc
    ])

pub returns-then-constant-lt0 : goal.returns-then-constant-lt0
returns-then-constant-lt0 c =
    let rows = c.args.rows.now in
    let lists = slice_eq-Decides signed_Decides c.coef.result.now c.args.coef.now c.eq.result c.eq.ensures in
    let here : c.index-rows-number.result ≡ row_at rows c.loop-number.number =
    c.index-rows-number.is ∙ get_or_default rows c.loop-number.number c.index-rows-number.result (record { coefficients = []; constant = pos 0 }) c.loop-number-test.true in
    let x = c.constant.result in
    let fits : FitsSigned w128 x = search rules in
    let below : x ≡ neg_ℤ (pos (unsigned_abs x)) = negative x (subst (λ (z : ℤ). lt_z z (pos 0) ≡ true) (to_z-of_z w128 x fits) c.if-constant-lt0.true) in
    let y = c.constant-then-constant-lt0.result in
    let fits-y : FitsSigned w128 y = search rules in
    let rest : c.unsigned_abs-rest.result ≡ unsigned_abs x =
    c.unsigned_abs-rest.ensures.value ∙ ap unsigned_abs (to_z-of_z w128 y fits-y ∙ c.constant-then-constant-lt0.ensures.constant ∙ sym c.constant.ensures.constant) in
    record {
      number = c.loop-number.number;
      rest = c.unsigned_abs-rest.result;
      there = c.loop-number-test.true;
      row = ap (λ (f : AffineForm). f.coefficients) (sym here) ∙ sym c.coef.ensures.coefficients ∙ lists.0 c.if-eq.true;
      below = ap (λ (f : AffineForm). f.constant) (sym here) ∙ sym c.constant.ensures.constant ∙ below ∙ ap (λ (n : ℕ). neg_ℤ (pos n)) (sym rest);
      is = c.new.ensures ∙ ap (λ (ws : List (ℕ × ℕ)). record { scale = 1; rest = c.unsigned_abs-rest.result; weights = ws }) c.in_ok-weights.ensures.items;
    }
