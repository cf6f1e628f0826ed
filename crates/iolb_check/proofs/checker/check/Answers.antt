use Rattle.std.proofs.Common.{rules, ◌≡◌, sym, ◌∙◌, ap, subst, List, ◌++◌, map}
use Rattle.affine_form.specs.System.{AffineSystem}
use Rattle.affine_program.specs.Parts.{ProgramParts, meaning}
use Rattle.claims.specs.Claims.{Claim, AllHold, IsRefusal, numbered}
use Rattle.claims.proofs.Found.{refused-first, refused-later}
use Rattle.claims.proofs.Laws.{AllHold-append}
use Rattle.dep_quast.specs.declared.quasts.Quasts.{Quasts}
use Rattle.dep_quast.specs.Quasts.{trees_of}
use Rattle.dep_quast.specs.Trees.{RowsFit, rows_claims}
use Rattle.iolb_check.specs.declared.term.Branch.{Branch}
use Rattle.iolb_check.specs.Bounds.{BoundParts, IsBound, lists}
use Rattle.iolb_check.specs.Claims.{claim_of_branch, claim_of_certificate}
use Rattle.iolb_check.specs.Conditions.{AreBranchValues, branch_claims}
use Rattle.iolb_check.specs.declared.bound.Value.{Value}
use Rattle.iolb_check.specs.Holds.{BranchHolds, BranchesHold}
use Rattle.iolb_check.specs.Sound.{AreCounted, ArePaid}
use Rattle.iolb_check.specs.Fit.{BranchesFit}
use Rattle.iolb_check.specs.Limits.{CertificateParts}
use Rattle.iolb_check.specs.TermFit.{certificate_fit}
use Rattle.iolb_check.proofs.Lists.{zip-weaken}
use Rattle.iolb_check.proofs.Terms.{bound-holds, is-bound}
use Rattle.iolb_check.proofs.checker.check.Goals as goal

-- the three parts of the conditions
abbrev fit : ProgramParts → CertificateParts → List Claim
fit program parts = certificate_fit (meaning program) (claim_of_certificate parts)

abbrev trees : ProgramParts → CertificateParts → List Claim
trees program parts = rows_claims (meaning program) 0 (trees_of parts.quasts)

abbrev branches : ProgramParts → CertificateParts → List Claim
branches program parts = numbered (branch_claims (meaning program) (trees_of parts.quasts)) 0 (map claim_of_branch parts.branches)

pub returns-in_err-parts_fit-clause-refused : goal.returns-in_err-parts_fit-clause-refused
returns-in_err-parts_fit-clause-refused c =
    let program = c.args.program.now in
    let parts = c.args.certificate.now in
    let r = c.in_err-parts_fit.field-0.0 in
    let refused : IsRefusal (fit program parts ++ trees program parts ++ branches program parts) r =
    refused-first (fit program parts ++ trees program parts) (branches program parts) r (refused-first (fit program parts) (trees program parts) r c.in_err-parts_fit.ensures.fit) in
    search rules

pub check_branches-requires-clause-trees_fit : goal.check_branches-requires-clause-trees_fit
check_branches-requires-clause-trees_fit c =
    subst (λ (q : Quasts). RowsFit (meaning c.args.program.now) 0 (trees_of q)) (sym c.quasts-quasts.ensures.quasts)
    c.in_ok-parts_fit.ensures.fits.trees

pub check_quasts-requires : goal.check_quasts-requires
check_quasts-requires c =
    subst (λ (q : Quasts). RowsFit (meaning c.args.program.now) 0 (trees_of q)) (sym c.quasts-quasts.ensures.quasts)
    c.in_ok-parts_fit.ensures.fits.trees

pub returns-in_err-check_quasts-clause-refused : goal.returns-in_err-check_quasts-clause-refused
returns-in_err-check_quasts-clause-refused c =
    let program = c.args.program.now in
    let parts = c.args.certificate.now in
    let r = c.in_err-check_quasts.field-0.0 in
    let refused : IsRefusal (fit program parts ++ trees program parts ++ branches program parts) r =
    refused-first (fit program parts ++ trees program parts) (branches program parts) r
    (refused-later (fit program parts) (trees program parts) r c.in_ok-parts_fit.ensures.fit
    (subst (λ (q : Quasts). IsRefusal (rows_claims (meaning program) 0 (trees_of q)) r) c.quasts-quasts.ensures.quasts c.in_err-check_quasts.ensures.refused)) in
    search rules

pub check_branches-requires-clause-fits : goal.check_branches-requires-clause-fits
check_branches-requires-clause-fits c =
    let program = c.args.program.now in
    subst (λ (q : Quasts). BranchesFit program (trees_of q) c.branches.result.now) (sym c.quasts-quasts.ensures.quasts)
    (subst (BranchesFit program (trees_of c.args.certificate.now.quasts)) (sym c.branches.ensures.branches)
    c.in_ok-parts_fit.ensures.fits.branches)

-- what holds of the branches of the certificate, and how what the check of the branches says reads
module _ (program : ProgramParts) (parts : CertificateParts) (q : Quasts) (bs : List Branch) (same : q ≡ parts.quasts) (all : bs ≡ parts.branches) where
  branches-accepted : AllHold (numbered (branch_claims (meaning program) (trees_of q)) 0 (map claim_of_branch bs)) → AllHold (branches program parts)
  branches-accepted h =
      subst (λ (l : List Branch). AllHold (numbered (branch_claims (meaning program) (trees_of parts.quasts)) 0 (map claim_of_branch l))) all
      (subst (λ (q : Quasts). AllHold (numbered (branch_claims (meaning program) (trees_of q)) 0 (map claim_of_branch bs))) same h)

pub returns-in_err-values-clause-refused : goal.returns-in_err-values-clause-refused
returns-in_err-values-clause-refused c =
    let program = c.args.program.now in
    let parts = c.args.certificate.now in
    let r = c.in_err-values.field-0.0 in
    let hold : AllHold (trees program parts) =
    subst (λ (q : Quasts). AllHold (rows_claims (meaning program) 0 (trees_of q))) c.quasts-quasts.ensures.quasts c.in_ok-check_quasts.ensures.hold in
    let last : IsRefusal (branches program parts) r =
    subst (λ (l : List Branch). IsRefusal (numbered (branch_claims (meaning program) (trees_of parts.quasts)) 0 (map claim_of_branch l)) r) c.branches.ensures.branches
    (subst (λ (q : Quasts). IsRefusal (numbered (branch_claims (meaning program) (trees_of q)) 0 (map claim_of_branch c.branches.result.now)) r) c.quasts-quasts.ensures.quasts c.in_err-values.ensures.refused) in
    let refused : IsRefusal (fit program parts ++ trees program parts ++ branches program parts) r =
    refused-later (fit program parts ++ trees program parts) (branches program parts) r
    (AllHold-append (fit program parts) (trees program parts) c.in_ok-parts_fit.ensures.fit hold) last in
    search rules

pub new-requires : goal.new-requires
new-requires c =
    subst (λ (a : AffineSystem). IsBound (record { assumed = a; branches = lists c.in_ok-values.values.items })) (sym (c.in_ok-assumed.ensures ∙ c.assumed.ensures.assumed))
    (is-bound c.args.program.now c.branches.result.now (lists c.in_ok-values.values.items) c.in_ok-values.ensures.hold)

pub returns-clause-meets : goal.returns-clause-meets
returns-clause-meets c =
    let program = c.args.program.now in
    let parts = c.args.certificate.now in
    let hold : AllHold (trees program parts) =
    subst (λ (q : Quasts). AllHold (rows_claims (meaning program) 0 (trees_of q))) c.quasts-quasts.ensures.quasts c.in_ok-check_quasts.ensures.hold in
    record {
      accepted = AllHold-append (fit program parts ++ trees program parts) (branches program parts)
          (AllHold-append (fit program parts) (trees program parts) c.in_ok-parts_fit.ensures.fit hold)
          (branches-accepted program parts c.quasts-quasts.result.now c.branches.result.now c.quasts-quasts.ensures.quasts c.branches.ensures.branches c.in_ok-values.ensures.accepted);
      valued = subst (AreBranchValues (meaning program) (map claim_of_branch parts.branches)) (sym (ap (λ (b : BoundParts). b.branches) c.new.ensures))
          (subst (λ (l : List Branch). AreBranchValues (meaning program) (map claim_of_branch l) (lists c.in_ok-values.values.items)) c.branches.ensures.branches c.in_ok-values.ensures.values);
    }

-- what holds of the certificate's branches, with the values of the bound
branches-hold : (program : ProgramParts) (parts : CertificateParts) (made : BoundParts) (bs : List Branch) (values : List (List Value)) → bs ≡ parts.branches → made.branches ≡ values
    → BranchesHold program bs values → BranchesHold program parts.branches made.branches
branches-hold program parts made bs values all given h =
    subst (BranchesHold program parts.branches) (sym given) (subst (λ (l : List Branch). BranchesHold program l values) all h)

pub returns-clause-holds : goal.returns-clause-holds
returns-clause-holds c =
    bound-holds c.args.program.now c.new.result c.args.certificate.now.branches
    (branches-hold c.args.program.now c.args.certificate.now c.new.result c.branches.result.now (lists c.in_ok-values.values.items) c.branches.ensures.branches
    (ap (λ (parts : BoundParts). parts.branches) c.new.ensures) c.in_ok-values.ensures.hold)

pub returns-clause-paid : goal.returns-clause-paid
returns-clause-paid c =
    zip-weaken (BranchHolds c.args.program.now) (ArePaid c.args.program.now) (λ branch values h. h.paid) c.args.certificate.now.branches c.new.result.branches
    (branches-hold c.args.program.now c.args.certificate.now c.new.result c.branches.result.now (lists c.in_ok-values.values.items) c.branches.ensures.branches
    (ap (λ (parts : BoundParts). parts.branches) c.new.ensures) c.in_ok-values.ensures.hold)

pub returns-clause-counts : goal.returns-clause-counts
returns-clause-counts c =
    zip-weaken (BranchHolds c.args.program.now) (AreCounted c.args.program.now) (λ branch values h. h.counted) c.args.certificate.now.branches c.new.result.branches
    (branches-hold c.args.program.now c.args.certificate.now c.new.result c.branches.result.now (lists c.in_ok-values.values.items) c.branches.ensures.branches
    (ap (λ (parts : BoundParts). parts.branches) c.new.ensures) c.in_ok-values.ensures.hold)
