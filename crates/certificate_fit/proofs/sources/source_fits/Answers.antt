use Rattle.std.specs.Prelude.{codes}
use Rattle.std.proofs.Common.{ap, subst, ℕ, List, [], ◌∷◌, ◌++◌, length, arith}
use Rattle.std.proofs.lemmas.List.{length-map}
use Rattle.claims.specs.Claims.{Claim, AllHold}
use Rattle.claims.specs.declared.place.Step.{Step}
use Rattle.claims.specs.declared.place.Step.TheVariants.{Key}
use Rattle.claims.proofs.Found.{refused-here, refused-later}
use Rattle.claims.proofs.Laws.{AllHold-append}
use Rattle.affine_program.specs.Parts.{meaning, statement_of}
use Rattle.dep_quast.specs.Context.{variables_at}
use Rattle.dep_quast.specs.Views.{read_of, claim_of}
use Rattle.certificate_fit.specs.FitClaims.{names}
use Rattle.certificate_fit.specs.PartFit.{forms_fit}
use Rattle.certificate_fit.specs.TreeFit.{source_lists_fit}
use Rattle.certificate_fit.proofs.sources.source_fits.Goals as goal

pub returns-then-from-statements : goal.returns-then-from-statements
returns-then-from-statements c =
    let program = meaning c.args.program.now in
    let reader = read_of c.args.reader in
    let claim = claim_of c.args.claimed.now in
    let place = c.args.place.now in
    let list : List Step = place ++ Key (codes "point") ∷ [] in
    let lists = source_lists_fit program reader claim place in
    let forms = forms_fit (variables_at program reader) list claim.point in
    let last : Claim = names (place ++ Key (codes "statement") ∷ []) claim.statement (length program.statements) in
    let before = AllHold-append lists forms c.in_ok-lists_fit.ensures (subst (λ (n : ℕ). AllHold (forms_fit n list claim.point)) c.variables-vars.ensures.variables c.in_ok-all_forms_fit.ensures) in
    let r = c.misfit.result in
    refused-later (lists ++ forms) (last ∷ []) r before
    (refused-here last [] r (λ below. omega (arith, below, length-map c.args.program.now.statements statement_of, ap length c.statements.ensures.statements, c.from.ensures, c.if-from-statements.true)) c.misfit.ensures)

pub returns : goal.returns
returns c =
    let program = meaning c.args.program.now in
    let reader = read_of c.args.reader in
    let claim = claim_of c.args.claimed.now in
    let place = c.args.place.now in
    let list : List Step = place ++ Key (codes "point") ∷ [] in
    let lists = source_lists_fit program reader claim place in
    let forms = forms_fit (variables_at program reader) list claim.point in
    let last : Claim = names (place ++ Key (codes "statement") ∷ []) claim.statement (length program.statements) in
    let before = AllHold-append lists forms c.in_ok-lists_fit.ensures (subst (λ (n : ℕ). AllHold (forms_fit n list claim.point)) c.variables-vars.ensures.variables c.in_ok-all_forms_fit.ensures) in
    AllHold-append (lists ++ forms) (last ∷ []) before
    (omega (arith, length-map c.args.program.now.statements statement_of, ap length c.statements.ensures.statements, c.from.ensures, c.if-from-statements.false), tt)
