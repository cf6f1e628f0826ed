use Rattle.std.specs.Prelude.{codes}
use Rattle.std.proofs.Common.{◌≡◌, ◌∙◌, ◌++◌, ◌∷◌, [], ap, ℕ}
use Rattle.claims.specs.declared.place.Step.TheVariants.{Key}
use Rattle.affine_form.specs.Rows.{equality_rows, put_in}
use Rattle.iolb_model.specs.Program.{statement_at}
use Rattle.affine_program.specs.Parts.{meaning}
use Rattle.dep_quast.specs.Claims.{cell_goals}
use Rattle.dep_quast.specs.Context.{parameter_point, reader_point, reference_of}
use Rattle.dep_quast.specs.Views.{read_of, claim_of}
use Rattle.claims.proofs.Followed.{goals-same}
use Rattle.dep_quast.proofs.source_claims.cell_shown.Goals as goal

pub returns : goal.returns
returns c =
    let program = meaning c.args.program.now in
    let reader = read_of c.args.reader in
    let claim = claim_of c.args.claimed.now in
    let goals : c.as_slice.result.now ≡ cell_goals program reader claim =
    c.as_slice.ensures.value ∙ c.in_ok-goals.ensures.rows
    ∙ ap (λ (vars : ℕ). equality_rows vars (put_in (parameter_point program vars ++ claim.point) (statement_at program claim.statement).writes.subscripts)
    (put_in (reader_point program reader vars) (reference_of program reader).subscripts)) c.variables-vars.ensures.variables in
    goals-same 4 c.in_ok-list.list (c.args.place.now ++ Key (codes "cell") ∷ []) c.args.system.now c.as_slice.result.now (cell_goals program reader claim) c.args.claimed.now.cell.now c.goals_shown.result
    c.in_ok-list.ensures goals c.goals_shown.ensures
