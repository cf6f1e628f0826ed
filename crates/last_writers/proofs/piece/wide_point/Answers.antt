use Rattle.std.proofs.Common.{◌≡◌, ◌≤◌, sym, ◌∙◌, ap, subst, map, lit<, arith, ℕ, List}
use Rattle.std.specs.List.{AllByRecursion}
use Rattle.base_laws.proofs.Lists.{All-weaken}
use Rattle.iolb_model.specs.Form.{AffineForm}
use Rattle.affine_form.specs.Form.{IsSmallForm, variables}
use Rattle.affine_form.specs.Rows.{IsSmallOver, widened}
use Rattle.affine_form.specs.System.{AllOver}
use Rattle.affine_program.specs.Parts.{meaning}
use Rattle.claims.proofs.Found.{IfOk-then}
use Rattle.iolb_model.specs.declared.limits.TheConstants.{PUT_SIZE}
use Rattle.store_terms.specs.Claims.{claim_of_output}
use Rattle.wavefront.proofs.PiecesCover.{wide-over, wide-small}
use Rattle.last_writers.specs.OutputClaims.{output_variables}
use Rattle.affine_form.proofs.RowLemmas.{small-wider}
use Rattle.last_writers.proofs.piece.wide_point.Goals as goal

pub returns-clause-over : goal.returns-clause-over
returns-clause-over c =
    let vars : ℕ = output_variables (meaning c.args.program.now) (claim_of_output c.args.output.now) in
    let forms : List AffineForm = c.args.output.now.point.items in
    let within : AllByRecursion (λ (form : AffineForm). variables form ≤ vars) forms =
    All-weaken (IsSmallOver vars) (λ (form : AffineForm). variables form ≤ vars) forms (λ form over. omega (arith, over.over)) c.requires.forms in
    IfOk-then c.all_widened.result (λ all. all.items ≡ map (widened c.variables-vars.result) c.as_slice.result.now) (λ all. AllOver vars all.items) c.all_widened.ensures
    (λ all e. subst (AllOver vars) (sym (e ∙ ap (λ (n : ℕ). map (widened n) c.as_slice.result.now) c.variables-vars.ensures.variables ∙ ap (map (widened vars)) c.as_slice.ensures.value)) (wide-over vars forms within))

pub returns-clause-small : goal.returns-clause-small
returns-clause-small c =
    let vars : ℕ = output_variables (meaning c.args.program.now) (claim_of_output c.args.output.now) in
    let forms : List AffineForm = c.args.output.now.point.items in
    IfOk-then c.all_widened.result (λ all. all.items ≡ map (widened c.variables-vars.result) c.as_slice.result.now) (λ all. AllByRecursion (IsSmallForm PUT_SIZE) all.items) c.all_widened.ensures
    (λ all e. subst (AllByRecursion (IsSmallForm PUT_SIZE)) (sym (e ∙ ap (λ (n : ℕ). map (widened n) c.as_slice.result.now) c.variables-vars.ensures.variables ∙ ap (map (widened vars)) c.as_slice.ensures.value))
    (wide-small PUT_SIZE vars forms (lit< tt) (All-weaken (IsSmallOver vars) (IsSmallForm PUT_SIZE) forms (λ form over. small-wider form over.small) c.requires.forms)))
