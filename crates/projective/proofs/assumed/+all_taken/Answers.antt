use Rattle.std.proofs.Common.{◌≡◌, ◌∙◌, ap, sym, subst, ℕ, List, length, arith}
use Rattle.std.specs.Prelude.{ℤ, ◌≤ℤ◌, negsuc}
use Rattle.iolb_model.specs.Form.{AffineForm}
use Rattle.affine_form.specs.Rows.{variable}
use Rattle.affine_form.specs.System.{AffineSystem}
use Rattle.affine_program.specs.Parts.{meaning}
use Rattle.projective.specs.Projective.{HoldsOfOne}
use Rattle.projective.specs.Products.{AreAssumed}
use Rattle.projective.proofs.assumed.+all_taken.Goals as goal

-- the same of other rows that are the same, and other coefficients
moved : (coef other : List ℤ) (rows others : List AffineForm) → coef ≡ other → rows ≡ others
    → HoldsOfOne (λ (form : AffineForm). (form.coefficients ≡ coef) × (form.constant ≤ℤ negsuc 0)) rows
    → HoldsOfOne (λ (form : AffineForm). (form.coefficients ≡ other) × (form.constant ≤ℤ negsuc 0)) others
moved coef other rows others e f holds =
    subst (λ (forms : List AffineForm). HoldsOfOne (λ (form : AffineForm). (form.coefficients ≡ other) × (form.constant ≤ℤ negsuc 0)) forms) f
    (subst (λ (list : List ℤ). HoldsOfOne (λ (form : AffineForm). (form.coefficients ≡ list) × (form.constant ≤ℤ negsuc 0)) rows) e holds)

pub variable-requires-clause-there : goal.variable-requires-clause-there
variable-requires-clause-there t c =
    let first = (subst (AreAssumed (meaning c.args.program.now)) c.in-Some.ensures.cases.0 c.requires).0 in
    omega (arith, first.0, ap length c.params.ensures.params)

pub taken-requires-clause-some : goal.taken-requires-clause-some
taken-requires-clause-some t c =
    let first = (subst (AreAssumed (meaning c.args.program.now)) c.in-Some.ensures.cases.0 c.requires).0 in
    let rows = c.rows.ensures.rows ∙ ap (λ (s : AffineSystem). s.rows) c.assumed.ensures.assumed in
    let many = ap (λ (names : List (List ℕ)). length names) c.params.ensures.params in
    let coef = c.coef.ensures.coefficients ∙ ap (λ (f : AffineForm). f.coefficients) (c.in_ok-form.ensures ∙ ap (λ (n : ℕ). variable n c.in-Some.first.now) many) in
    moved _ _ _ _ (sym coef) (sym rows) first.1
