use Rattle.std.proofs.Common.{◌≡◌, ◌∙◌, ap, sym}
use Rattle.std.specs.Cmp.{signed_Decides}
use Rattle.std.proofs.lemmas.Slice.Eq.{slice_eq-Decides}
use Rattle.iolb_model.specs.Form.{AffineForm}
use Rattle.affine_form.proofs.form.Form.is_same.Goals as goal

pub returns-then-eq : goal.returns-then-eq
returns-then-eq c =
    let lists = slice_eq-Decides signed_Decides c.coef.result.now c.coef-2.result.now c.eq.result c.eq.ensures in
    let same : c.args.self.now.coefficients ≡ c.args.other.now.coefficients = sym c.coef.ensures.coefficients ∙ lists.0 c.if-eq.true ∙ c.coef-2.ensures.coefficients in (
      λ t. let constant = c.has_same_constant.ensures.0 t in λ i. record { coefficients = same i; constant = constant i },
      λ e. c.has_same_constant.ensures.1 (ap (λ (f : AffineForm). f.constant) e),
    )

pub returns-else-eq : goal.returns-else-eq
returns-else-eq c =
    let lists = slice_eq-Decides signed_Decides c.coef.result.now c.coef-2.result.now c.eq.result c.eq.ensures in
    (λ t. absurd cc, λ e. lists.1 (c.coef.ensures.coefficients ∙ ap (λ (f : AffineForm). f.coefficients) e ∙ sym c.coef-2.ensures.coefficients))
