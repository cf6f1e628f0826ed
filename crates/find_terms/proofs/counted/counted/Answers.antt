use Rattle.std.proofs.Common.{◌≡◌, sym, ◌∙◌, ap, subst, Bool, true, false, ℕ, List, length}
use Rattle.std.specs.Prelude.{None, Err}
use Rattle.iolb_model.specs.Form.{AffineForm}
use Rattle.affine_program.specs.Parts.{meaning}
use Rattle.projective_bounds.specs.HeldColds.{ArePolynomials}
use Rattle.poly_tree.specs.Poly.{Quotient}
use Rattle.find_terms.specs.Counted.{AreRanges, FindsRanges}
use Rattle.find_terms.proofs.CountLaws.{counted-some, first-none, misfit-none, ranges-none, wide-none}
use Rattle.find_terms.proofs.counted.counted.Goals as goal

clash : (b : Bool) → b ≡ false → b ≡ true → ⊥
clash true x y = cc
clash false x y = cc

pub returns-in_default : goal.returns-in_default
returns-in_default c =
    let program = meaning c.args.program.now in
    let none = subst (FindsRanges c.args.wanted program c.bounds.result.now) c.in_default.is c.in_ok-shown.ensures in
    ranges-none program c.args.nest.now (subst (λ (nest : List (AffineForm × AffineForm)). FindsRanges c.args.wanted program nest None) c.bounds.ensures none)

pub returns-in-Err-NotProved : goal.returns-in-Err-NotProved
returns-in-Err-NotProved c =
    first-none (meaning c.args.program.now) c.args.nest.now c.in-Err-NotProved.field-0-0
    (c.in-Err-NotProved.ensures.not_proved c.in-Err-NotProved.field-0-0 (ap Err c.in-Err-NotProved.field-0-is))

pub returns-in-Err-Wide : goal.returns-in-Err-Wide
returns-in-Err-Wide c = wide-none (meaning c.args.program.now) c.args.nest.now (c.in-Err-Wide.ensures.wide (ap Err c.in-Err-Wide.field-0-is))

pub returns-then-not-fit : goal.returns-then-not-fit
returns-then-not-fit c =
    let program = meaning c.args.program.now in
    misfit-none program c.args.nest.now c.in-Ok.made.sums c.in-Ok.ensures.made (λ fits. clash c.in_ok-fit.fit c.if-not-fit.true (c.in_ok-fit.ensures.1
    (subst (λ (n : ℕ). ArePolynomials n c.args.nest.now c.sums.result.now) (sym (ap length c.params-params.ensures.params))
    (subst (ArePolynomials (length c.args.program.now.params) c.args.nest.now) (sym c.sums.ensures) fits))))

pub returns : goal.returns
returns c =
    let program = meaning c.args.program.now in
    let ranges = subst (FindsRanges c.args.wanted program c.bounds.result.now) c.in-Some.is c.in_ok-shown.ensures in
    counted-some program c.args.nest.now c.args.wanted c.in-Some.shown.items c.in-Ok.made c.new.result
    (subst (λ (nest : List (AffineForm × AffineForm)). AreRanges c.args.wanted program nest (length nest) c.in-Some.shown.items) c.bounds.ensures ranges)
    c.in-Ok.ensures.right c.in-Ok.ensures.made
    (subst (λ (n : ℕ). ArePolynomials n c.args.nest.now c.in-Ok.made.sums) (ap length c.params-params.ensures.params)
    (subst (ArePolynomials (length c.params-params.result.now) c.args.nest.now) c.sums.ensures (c.in_ok-fit.ensures.0 c.if-not-fit.false)))
    (c.new.ensures ∙ ap (λ (sums : List Quotient). record { shown = c.in-Some.shown.items; sums = sums }) (c.in_ok-sums.ensures ∙ c.sums-2.ensures))
