use Rattle.std.proofs.Common.{rules, ◌≡◌, ◌∙◌, ap, subst, List, ◌++◌, map}
use Rattle.affine_program.specs.Parts.{meaning}
use Rattle.claims.specs.Claims.{Claim, AllHold, IsRefusal, numbered}
use Rattle.claims.proofs.Found.{refused-first, refused-later}
use Rattle.claims.proofs.Laws.{AllHold-append}
use Rattle.certificate_fit.specs.TreeFit.{trees_fit}
use Rattle.dep_quast.specs.declared.quasts.Quasts.{Quasts}
use Rattle.dep_quast.specs.Quasts.{trees_of}
use Rattle.iolb_check.specs.declared.term.Branch.{Branch}
use Rattle.iolb_check.specs.Claims.{claim_of_branch}
use Rattle.iolb_check.specs.TermFit.{branch_at}
use Rattle.iolb_check.proofs.FitParts.{parts-fit}
use Rattle.iolb_check.proofs.fit_parts.parts_fit.Goals as goal

pub returns-in_err-all_branches_fit-clause-fit : goal.returns-in_err-all_branches_fit-clause-fit
returns-in_err-all_branches_fit-clause-fit c =
    let program = meaning c.args.program.now in
    let quasts = c.args.certificate.now.quasts in
    let branches : Quasts → List Branch → List Claim = λ q bs. numbered (branch_at program (trees_of q)) 0 (map claim_of_branch bs) in
    let given = c.args.certificate.now.branches in
    let same : branches c.quasts-quasts.result.now c.branches-branches.result.now ≡ branches quasts given =
    ap (λ (q : Quasts). branches q c.branches-branches.result.now) c.quasts-quasts.ensures.quasts ∙ ap (branches quasts) c.branches-branches.ensures.branches in
    let r = c.in_err-all_branches_fit.field-0.0 in
    let refused : IsRefusal (branches quasts given ++ trees_fit program (trees_of quasts)) r =
    refused-first (branches quasts given) (trees_fit program (trees_of quasts)) r (subst (λ (claims : List Claim). IsRefusal claims r) same c.in_err-all_branches_fit.ensures) in
    search rules

pub returns-in_err-all_quasts_fit-clause-fit : goal.returns-in_err-all_quasts_fit-clause-fit
returns-in_err-all_quasts_fit-clause-fit c =
    let program = meaning c.args.program.now in
    let quasts = c.args.certificate.now.quasts in
    let branches : Quasts → List Branch → List Claim = λ q bs. numbered (branch_at program (trees_of q)) 0 (map claim_of_branch bs) in
    let given = c.args.certificate.now.branches in
    let same : branches c.quasts-quasts.result.now c.branches-branches.result.now ≡ branches quasts given =
    ap (λ (q : Quasts). branches q c.branches-branches.result.now) c.quasts-quasts.ensures.quasts ∙ ap (branches quasts) c.branches-branches.ensures.branches in
    let r = c.in_err-all_quasts_fit.field-0.0 in
    let refused : IsRefusal (branches quasts given ++ trees_fit program (trees_of quasts)) r =
    refused-later (branches quasts given) (trees_fit program (trees_of quasts)) r (subst AllHold same c.in_ok-all_branches_fit.ensures)
    (subst (λ (q : Quasts). IsRefusal (trees_fit program (trees_of q)) r) c.quasts-quasts.ensures.quasts c.in_err-all_quasts_fit.ensures) in
    search rules

-- all of it fits
all : (c : goal.In_ok-all_quasts_fit) → AllHold (numbered (branch_at (meaning c.args.program.now) (trees_of c.args.certificate.now.quasts)) 0 (map claim_of_branch c.args.certificate.now.branches)
    ++ trees_fit (meaning c.args.program.now) (trees_of c.args.certificate.now.quasts))
all c =
    let program = meaning c.args.program.now in
    let quasts = c.args.certificate.now.quasts in
    let branches : Quasts → List Branch → List Claim = λ q bs. numbered (branch_at program (trees_of q)) 0 (map claim_of_branch bs) in
    let given = c.args.certificate.now.branches in
    let same : branches c.quasts-quasts.result.now c.branches-branches.result.now ≡ branches quasts given =
    ap (λ (q : Quasts). branches q c.branches-branches.result.now) c.quasts-quasts.ensures.quasts ∙ ap (branches quasts) c.branches-branches.ensures.branches in
    AllHold-append (branches quasts given) (trees_fit program (trees_of quasts)) (subst AllHold same c.in_ok-all_branches_fit.ensures)
    (subst (λ (q : Quasts). AllHold (trees_fit program (trees_of q))) c.quasts-quasts.ensures.quasts c.in_ok-all_quasts_fit.ensures)

pub returns-clause-fit : goal.returns-clause-fit
returns-clause-fit c = all c

pub returns-clause-fits : goal.returns-clause-fits
returns-clause-fits c = parts-fit c.args.program.now c.args.certificate.now c.params-params.ensures.kept c.quasts-quasts.ensures.limits (all c)
