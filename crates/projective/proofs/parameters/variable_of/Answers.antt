use Rattle.std.proofs.Common.{◌≡◌, ◌∙◌, ap, ℕ, ◌<◌, ◌≤◌, length, get_or, replicate, arith}
use Rattle.std.proofs.Math.IntN.{ℤ, pos}
use Rattle.std.proofs.lemmas.List.{length-replicate, length-set}
use Rattle.iolb_model.specs.Form.{AffineForm}
use Rattle.projective.specs.Projective.{shifted_variable}
use Rattle.projective.proofs.Units.{unit-at, unit-same}
use Rattle.projective.proofs.parameters.variable_of.Goals as goal

-- the variable has a coefficient
not-none : (form : AffineForm) (vars place end : ℕ) (number : ℤ) → place < vars → form ≡ shifted_variable vars place number → length form.coefficients ≤ end
    → ((k : ℕ) → k < end → get_or form.coefficients k (pos 0) ≡ pos 0) → ⊥
not-none form vars place end number below is past none =
    let many : length form.coefficients ≡ vars = ap (λ (f : AffineForm). length f.coefficients) is ∙ length-set (replicate vars (pos 0)) place (pos 1) ∙ length-replicate vars (pos 0) in
    let here : get_or form.coefficients place (pos 0) ≡ pos 1 = ap (λ (f : AffineForm). get_or f.coefficients place (pos 0)) is ∙ unit-at vars place place below ∙ unit-same place in
    let zero : get_or form.coefficients place (pos 0) ≡ pos 0 = none place (omega arith) in
    let same : pos 1 ≡ pos 0 = cc in absurd cc

pub unreachable-requires : goal.unreachable-requires
unreachable-requires c =
    let some = c.requires.some in
    not-none c.args.form.now some.0 some.1 c.loop-place.place some.2 some.3 some.4 (omega (arith, c.loop-place-test.false, ap length c.coef-number-items.ensures.coefficients)) c.loop-place.invariant
