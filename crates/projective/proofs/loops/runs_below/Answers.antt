use Rattle.std.proofs.Common.{◌≡◌, ◌∙◌, ap, subst, sym, ℕ, ℤ, List, length}
use Rattle.iolb_model.specs.Form.{AffineForm}
use Rattle.projective.specs.Projective.{HoldsOfOne}
use Rattle.affine_form.specs.Rows.{variable}
use Rattle.affine_form.specs.System.{AffineSystem}
use Rattle.projective.proofs.loops.runs_below.Goals as goal
use Rattle.std.specs.Prelude.{◌≤ℤ◌, negsuc}

-- the same of other rows that are the same, and other coefficients
moved : (coef other : List ℤ) (rows others : List AffineForm) → coef ≡ other → rows ≡ others
    → HoldsOfOne (λ (form : AffineForm). (form.coefficients ≡ coef) × (form.constant ≤ℤ negsuc 0)) rows
    → HoldsOfOne (λ (form : AffineForm). (form.coefficients ≡ other) × (form.constant ≤ℤ negsuc 0)) others
moved coef other rows others e f holds =
    subst (λ (forms : List AffineForm). HoldsOfOne (λ (form : AffineForm). (form.coefficients ≡ other) × (form.constant ≤ℤ negsuc 0)) forms) f
    (subst (λ (list : List ℤ). HoldsOfOne (λ (form : AffineForm). (form.coefficients ≡ list) × (form.constant ≤ℤ negsuc 0)) rows) e holds)

pub returns : goal.returns
returns c =
    let rows = c.rows.ensures.rows ∙ ap (λ (s : AffineSystem). s.rows) c.assumed.ensures.assumed in
    let many = ap (λ (names : List (List ℕ)). length names) c.params.ensures.params in
    let coef = c.coef.ensures.coefficients ∙ ap (λ (f : AffineForm). f.coefficients) (c.in_ok-alone.ensures ∙ ap (λ (n : ℕ). variable n c.args.parameter) many) in (
      λ some. record {
        there = c.requires.there;
        lower = c.is_same.ensures.0 c.if-not-is_same.false ∙ c.in_ok-low.ensures;
        upper = c.is_same-2.ensures.0 c.if-not-is_same-2.false ∙ c.in_ok-high.ensures;
        assumed = moved _ _ _ _ coef rows (c.is_any_below.ensures.0 some);
      },
      λ runs. c.is_any_below.ensures.1 (moved _ _ _ _ (sym coef) (sym rows) runs.assumed),
    )
