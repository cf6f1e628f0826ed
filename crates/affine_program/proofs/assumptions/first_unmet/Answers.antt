use Rattle.std.proofs.Common.{◌≡◌, sym, subst, ℕ, suc, ◌+◌, List, arith}
use Rattle.std.proofs.lemmas.Int.{ints}
use Rattle.iolb_model.specs.Form.{AffineForm}
use Rattle.iolb_model.specs.Bound.{AreMet}
use Rattle.affine_program.specs.Assumptions.{IsFirstUnmet}
use Rattle.base_laws.proofs.Lists.{rest_at}
use Rattle.affine_program.proofs.assumptions.first_unmet.Goals as goal

pub returns-then-value-lt0 : goal.returns-then-value-lt0
returns-then-value-lt0 c =
    let rows : List AffineForm = c.args.rows.now in
    let i : ℕ = c.loop-number.number in
    let row : AffineForm = c.index-rows-number.result in
    let split = rest_at rows i row c.loop-number-test.true c.index-rows-number.is in
    subst (IsFirstUnmet rows c.args.point.now) (none i) (c.loop-number.invariant.unmet 0 (subst (λ (l : List AffineForm). IsFirstUnmet l c.args.point.now 0) (sym split) (λ h. absurd (omega (arith, ints, h, c.if-value-lt0.true, c.value.ensures))))) where
      none : (n : ℕ) → n + 0 ≡ n
      none n = omega arith

pub loop-number-preserved : goal.loop-number-preserved
loop-number-preserved c =
    let rows : List AffineForm = c.args.rows.now in
    let i : ℕ = c.loop-number.number in
    let row : AffineForm = c.index-rows-number.result in
    let split = rest_at rows i row c.loop-number-test.true c.index-rows-number.is in
    record {
      met = λ h. c.loop-number.invariant.met (subst (λ (l : List AffineForm). AreMet l c.args.point.now) (sym split) (omega (arith, ints, c.if-value-lt0.false, c.value.ensures), h));
      unmet = λ k h. subst (IsFirstUnmet rows c.args.point.now) (moved i k) (c.loop-number.invariant.unmet (suc k) (subst (λ (l : List AffineForm). IsFirstUnmet l c.args.point.now (suc k)) (sym split) (omega (arith, ints, c.if-value-lt0.false, c.value.ensures), h)));
    } where
      moved : (a b : ℕ) → a + suc b ≡ (a + 1) + b
      moved a b = omega arith
