use Rattle.std.proofs.Common.{◌≡◌, ◌∙◌, ◌++◌, sym, ap, subst, arith, ℕ}
use Rattle.affine_form.specs.System.{AffineSystem, AllOver}
use Rattle.affine_program.specs.Parts.{meaning}
use Rattle.domain_count.specs.Count.{rows_before}
use Rattle.dep_quast.proofs.Fits.{wide-over, over-append}
use Rattle.claims.proofs.Found.{IfOk-then}
use Rattle.store_terms.specs.Claims.{claim_of_output}
use Rattle.last_writers.specs.OutputClaims.{output_system, output_variables, variables_with}
use Rattle.last_writers.proofs.later_rows.rows_of_write.Goals as goal

pub returns-clause-over : goal.returns-clause-over
returns-clause-over c =
    let program = meaning c.args.program.now in
    let claim = claim_of_output c.args.output.now in
    let vars : ℕ = variables_with program claim c.args.writer in
    let system : c.in_ok-nest.nest ≡ output_system program claim = c.in_ok-nest.ensures ∙ ap (rows_before program) c.bounds.ensures in
    let nest : AllOver (output_variables program claim) c.rows.result.now = subst (λ (s : AffineSystem). AllOver s.vars c.rows.result.now) system (subst (AllOver c.in_ok-nest.nest.vars) (sym c.rows.ensures.rows) c.rows.ensures.over) in
    let wide : AllOver vars c.in_ok-wide.wide.items =
    wide-over (output_variables program claim) vars c.variables_beside-vars.result c.rows.result.now c.in_ok-wide.wide.items c.variables_beside-vars.ensures.variables (omega arith) c.in_ok-wide.ensures nest in
    let domain : AllOver vars c.as_slice-3.result.now =
    subst (AllOver vars) (sym c.as_slice-3.ensures.value) (subst (λ (n : ℕ). AllOver n c.in_ok-domain.domain.items) c.variables_beside-vars.ensures.variables c.in_ok-domain.ensures.over) in
    let cell : AllOver vars c.as_slice-4.result.now = subst (AllOver vars) (sym c.as_slice-4.ensures.value) c.in_ok-cell.ensures.over in
    IfOk-then c.followed_by-2.result (λ rows. rows.items ≡ c.in_ok-inside.inside.items ++ c.as_slice-4.result.now) (λ rows. AllOver vars rows.items) c.followed_by-2.ensures
    (λ rows e. over-append vars c.in_ok-inside.inside.items c.as_slice-4.result.now rows.items e
    (over-append vars c.in_ok-wide.wide.items c.as_slice-3.result.now c.in_ok-inside.inside.items c.in_ok-inside.ensures wide domain) cell)
