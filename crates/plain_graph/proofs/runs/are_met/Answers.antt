use Rattle.std.proofs.Common.{◌≡◌, refl, sym, ap, ◌∙◌, Bool, true, false, List, ◌∷◌, ◌+◌, drop, T, arith}
use Rattle.std.specs.Prelude.{◌&&◌, ◌≤ℤ◌, ◌<ℤ◌, int_le}
use Rattle.std.proofs.Math.IntN.{ℤ, pos}
use Rattle.std.proofs.lemmas.Int.{ints}
use Rattle.iolb_model.specs.Form.{AffineForm, form_value, are_met}
use Rattle.iolb_model.proofs.Forms.{are_met-says}
use Rattle.base_laws.proofs.Lists.{rest_at}
use Rattle.plain_graph.proofs.runs.are_met.Goals as goal

-- where the first form is at least 0 the others say whether all are
met_first : (form : AffineForm) (forms : List AffineForm) (point : List ℤ) → pos 0 ≤ℤ form_value form point → are_met forms point ≡ are_met (form ∷ forms) point
met_first form forms point met = by (int_le (pos 0) (form_value form point)) met.le where
  by : (b : Bool) → T b → are_met forms point ≡ (b && are_met forms point)
  by true h = refl
  by false h = absurd h

-- and where it isn't they aren't
unmet_first : (form : AffineForm) (forms : List AffineForm) (point : List ℤ) → form_value form point <ℤ pos 0 → are_met (form ∷ forms) point ≡ false
unmet_first form forms point unmet = by (are_met (form ∷ forms) point) refl where
  by : (b : Bool) → are_met (form ∷ forms) point ≡ b → b ≡ false
  by false e = refl
  by true e = absurd (omega (arith, ints, (are_met-says (form ∷ forms) point e).0, unmet))

pub loop-form-preserved : goal.loop-form-preserved
loop-form-preserved c =
    let split = rest_at c.args.forms.now c.loop-form.form-index c.form-item.result c.loop-form-test.true c.form-item.is in
    met_first c.form-item.result (drop (c.loop-form.form-index + 1) c.args.forms.now) c.args.point.now (omega (arith, ints, c.if-branch-lt0.false, c.in_ok-value_at.ensures))
    ∙ sym (ap (λ (forms : List AffineForm). are_met forms c.args.point.now) split) ∙ c.loop-form.invariant

pub returns-then-branch-lt0 : goal.returns-then-branch-lt0
returns-then-branch-lt0 c =
    let split = rest_at c.args.forms.now c.loop-form.form-index c.form-item.result c.loop-form-test.true c.form-item.is in
    sym (unmet_first c.form-item.result (drop (c.loop-form.form-index + 1) c.args.forms.now) c.args.point.now (omega (arith, ints, c.if-branch-lt0.true, c.in_ok-value_at.ensures)))
    ∙ sym (ap (λ (forms : List AffineForm). are_met forms c.args.point.now) split) ∙ c.loop-form.invariant
