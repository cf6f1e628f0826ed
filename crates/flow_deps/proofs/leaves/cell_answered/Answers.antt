use Rattle.std.proofs.Common.{◌≡◌, ◌∙◌, ◌++◌, ap, subst, ℕ, List}
use Rattle.std.specs.Prelude.{MatchOption}
use Rattle.iolb_model.specs.Form.{AffineForm}
use Rattle.iolb_model.specs.Program.{statement_at}
use Rattle.affine_form.specs.Rows.{equality_rows, put_in}
use Rattle.affine_program.specs.Parts.{meaning}
use Rattle.claims.proofs.Found.{IfOk-then}
use Rattle.dep_quast.specs.Claims.{cell_goals}
use Rattle.dep_quast.specs.Context.{parameter_point, reader_point, reference_of}
use Rattle.dep_quast.specs.Views.{read_of, claim_of}
use Rattle.flow_deps.specs.Answers.{Answers, HasNoShort, following}
use Rattle.flow_deps.proofs.leaves.cell_answered.Goals as goal

pub returns : goal.returns
returns c =
    let program = meaning c.args.program.now in
    let reader = read_of c.args.reader in
    let claim = claim_of c.args.claimed.now in
    let goals : c.as_slice.result.now ≡ cell_goals program reader claim =
    c.as_slice.ensures.value ∙ c.in_ok-goals.ensures.rows
    ∙ ap (λ (vars : ℕ). equality_rows vars (put_in (parameter_point program vars ++ claim.point) (statement_at program claim.statement).writes.subscripts)
    (put_in (reader_point program reader vars) (reference_of program reader).subscripts)) c.variables-vars.ensures.variables in
    IfOk-then c.goals_answered.result (λ found. MatchOption found (HasNoShort (following c.args.system.now c.as_slice.result.now)) (λ all. Answers c.args.wanted (following c.args.system.now c.as_slice.result.now) all.items))
    (λ found. MatchOption found (HasNoShort (following c.args.system.now (cell_goals program reader claim))) (λ all. Answers c.args.wanted (following c.args.system.now (cell_goals program reader claim)) all.items))
    c.goals_answered.ensures
    (λ found h. subst (λ (gs : List AffineForm). MatchOption found (HasNoShort (following c.args.system.now gs)) (λ all. Answers c.args.wanted (following c.args.system.now gs) all.items)) goals h)
