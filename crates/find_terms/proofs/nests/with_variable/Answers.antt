use Rattle.std.proofs.Common.{◌≡◌, sym, ◌∙◌, ap, subst, ℕ, ◌+◌, List, [], ◌∷◌, ◌++◌, length, map, arith}
use Rattle.iolb_model.specs.Form.{AffineForm}
use Rattle.affine_form.specs.Form.{variables, IsSmallForm}
use Rattle.affine_form.specs.Rows.{variable, widened}
use Rattle.affine_program.specs.Parts.{meaning}
use Rattle.find_terms.specs.Found.{FarFits, so_far}
use Rattle.find_terms.specs.Openings.{NestSoFar, at_values, width}
use Rattle.find_terms.proofs.NestLaws.{variable-fits, variable-made}
use Rattle.iolb_model.specs.declared.limits.TheConstants.{NUMBER_SIZE}
use Rattle.find_terms.proofs.nests.with_variable.Goals as goal

pub returns : goal.returns
returns c =
    let program = meaning c.args.program.now in
    let far : NestSoFar = so_far c.args.far in
    let lower : AffineForm = c.args.bounds.now.0 in
    let upper : AffineForm = c.args.bounds.now.1 in
    let level : ℕ = length c.args.far.values.items in
    let vars : ℕ = length c.params.result.now + c.len.result in
    let wide : vars ≡ width program far = omega (arith, ap length c.params.ensures.params, c.len.ensures) in
    let values : c.push.new.self.items ≡ map (widened (vars + 1)) far.values ++ variable (vars + 1) vars ∷ [] =
    c.in_ok-push.ensures.items ∙ ap (λ (vs : List AffineForm). vs ++ c.in_ok-variable.field-0 ∷ []) (c.in_ok-values.ensures ∙ ap (map (widened (vars + 1))) c.as_slice.ensures.value)
    ∙ ap (λ (v : AffineForm). map (widened (vars + 1)) far.values ++ v ∷ []) c.in_ok-variable.ensures in
    let made = variable-made program far lower upper c.in_ok-lower.lower c.in_ok-upper.upper vars c.push-2.new.self.items c.push.new.self.items wide c.in_ok-lower.ensures.value c.in_ok-upper.ensures.value
    c.in_ok-push-2.ensures.items values in
    let over_l : variables (at_values program far lower) ≡ width program far = ap variables (sym c.in_ok-lower.ensures.value) ∙ c.in_ok-lower.ensures.over in
    let over_u : variables (at_values program far upper) ≡ width program far = ap variables (sym c.in_ok-upper.ensures.value) ∙ c.in_ok-upper.ensures.over in
    let small_l : IsSmallForm NUMBER_SIZE (at_values program far lower) = subst (IsSmallForm NUMBER_SIZE) c.in_ok-lower.ensures.value (c.is_small_form.ensures.0 c.if-not-is_small_form.false) in
    let small_u : IsSmallForm NUMBER_SIZE (at_values program far upper) =
    subst (IsSmallForm NUMBER_SIZE) c.in_ok-upper.ensures.value (c.is_small_form-else-not-is_small_form.ensures.0 c.if-not-is_small_form-2.false) in
    (made, subst (FarFits program (level + 1)) (sym made) (variable-fits program level far lower upper c.requires.far over_l over_u small_l small_u))
