use Rattle.std.proofs.Common.{rules, ◌≡◌, subst, ℕ, List, map}
use Rattle.std.specs.List.{AllByRecursion}
use Rattle.affine_program.specs.Parts.{ProgramParts, meaning}
use Rattle.claims.specs.Claims.{Claim, AllHold, IsRefusal}
use Rattle.claims.specs.declared.place.Step.{Step}
use Rattle.claims.specs.declared.refused.Refused.{Refused}
use Rattle.claims.proofs.Found.{refused-first, refused-later}
use Rattle.claims.proofs.Laws.{AllHold-append}
use Rattle.dep_quast.specs.Tree.{SelectionTree}
use Rattle.dep_quast.specs.Quasts.{trees_of}
use Rattle.iolb_check.specs.declared.term.Branch.{Branch}
use Rattle.iolb_check.specs.declared.term.Term.{Term}
use Rattle.iolb_check.specs.Claims.{claim_of_branch, claim_of_term}
use Rattle.iolb_check.specs.Fit.{HasPieces}
use Rattle.iolb_check.specs.Conditions.{AreValuesOf, branch_claims, disjoint_claims, terms_claims, terms_place}
use Rattle.iolb_check.specs.Holds.{TermsHold}
use Rattle.iolb_check.specs.Sound.{IsSound}
use Rattle.iolb_check.proofs.Terms.{branch-holds}
use Rattle.iolb_check.proofs.branches.check_branch.Goals as goal

-- the claims of the terms of a branch, where its terms and their place are these
module _ (program : ProgramParts) (trees : List (List SelectionTree)) (number : ℕ) (branch : Branch) (place : List Step) (terms : List Term) (at : place ≡ terms_place number) (all : terms ≡ branch.terms.items) where
  abbrev these : List Claim
  these = terms_claims (meaning program) trees (terms_place number) (map claim_of_term branch.terms.items)

  these-hold : AllHold (terms_claims (meaning program) trees place (map claim_of_term terms)) → AllHold these
  these-hold h =
      subst (λ (l : List Term). AllHold (terms_claims (meaning program) trees (terms_place number) (map claim_of_term l))) all
      (subst (λ (p : List Step). AllHold (terms_claims (meaning program) trees p (map claim_of_term terms))) at h)

  these-refused : (r : Refused) → IsRefusal (terms_claims (meaning program) trees place (map claim_of_term terms)) r → IsRefusal these r
  these-refused r h =
      subst (λ (l : List Term). IsRefusal (terms_claims (meaning program) trees (terms_place number) (map claim_of_term l)) r) all
      (subst (λ (p : List Step). IsRefusal (terms_claims (meaning program) trees p (map claim_of_term terms)) r) at h)

pub check_pairs-requires-clause-shown : goal.check_pairs-requires-clause-shown
check_pairs-requires-clause-shown c =
    these-hold c.args.program.now (trees_of c.args.quasts.now) c.args.number c.args.branch.now c.in-Ok.place c.as_slice.result.now c.in-Ok.ensures c.as_slice.ensures.value c.in_ok-values.ensures.accepted

pub check_pairs-requires-clause-pieces : goal.check_pairs-requires-clause-pieces
check_pairs-requires-clause-pieces c =
    subst (AllByRecursion (HasPieces c.args.program.now (trees_of c.args.quasts.now))) c.as_slice.ensures.value c.in_ok-values.ensures.pieces

pub returns-clause-accepted : goal.returns-clause-accepted
returns-clause-accepted c =
    let program = meaning c.args.program.now in
    let trees = trees_of c.args.quasts.now in
    AllHold-append (terms_claims program trees (terms_place c.args.number) (map claim_of_term c.args.branch.now.terms.items)) (disjoint_claims program trees c.args.number (claim_of_branch c.args.branch.now))
    (these-hold c.args.program.now trees c.args.number c.args.branch.now c.in-Ok.place c.as_slice.result.now c.in-Ok.ensures c.as_slice.ensures.value c.in_ok-values.ensures.accepted)
    c.in_ok-check_pairs.ensures.hold

pub returns-clause-values : goal.returns-clause-values
returns-clause-values c =
    subst (λ (l : List Term). AreValuesOf (meaning c.args.program.now) (map claim_of_term l) c.in_ok-values.values.items) c.as_slice.ensures.value c.in_ok-values.ensures.values

pub returns-clause-holds : goal.returns-clause-holds
returns-clause-holds c =
    let trees = trees_of c.args.quasts.now in
    branch-holds c.args.program.now trees c.args.branch.now c.in_ok-values.values.items
    (subst (λ (l : List Term). TermsHold c.args.program.now trees l c.in_ok-values.values.items) c.as_slice.ensures.value c.in_ok-values.ensures.hold)
    c.in_ok-check_pairs.ensures.apart

pub returns-clause-sound : goal.returns-clause-sound
returns-clause-sound c =
    let trees = trees_of c.args.quasts.now in
    record {
      terms = subst (AllByRecursion (IsSound c.args.program.now)) c.as_slice.ensures.value c.in_ok-values.ensures.sound;
      apart = (branch-holds c.args.program.now trees c.args.branch.now c.in_ok-values.values.items
          (subst (λ (l : List Term). TermsHold c.args.program.now trees l c.in_ok-values.values.items) c.as_slice.ensures.value c.in_ok-values.ensures.hold)
          c.in_ok-check_pairs.ensures.apart).apart;
    }

pub returns-in_err-values-clause-refused : goal.returns-in_err-values-clause-refused
returns-in_err-values-clause-refused c =
    let program = meaning c.args.program.now in
    let trees = trees_of c.args.quasts.now in
    let r : Refused = c.in_err-values.field-0.0 in
    let refused : IsRefusal (branch_claims program trees c.args.number (claim_of_branch c.args.branch.now)) r =
    refused-first (terms_claims program trees (terms_place c.args.number) (map claim_of_term c.args.branch.now.terms.items)) (disjoint_claims program trees c.args.number (claim_of_branch c.args.branch.now)) r
    (these-refused c.args.program.now trees c.args.number c.args.branch.now c.in-Ok.place c.as_slice.result.now c.in-Ok.ensures c.as_slice.ensures.value r c.in_err-values.ensures.refused) in
    search rules

pub returns-in_err-check_pairs-clause-refused : goal.returns-in_err-check_pairs-clause-refused
returns-in_err-check_pairs-clause-refused c =
    let program = meaning c.args.program.now in
    let trees = trees_of c.args.quasts.now in
    let r : Refused = c.in_err-check_pairs.field-0.0 in
    let refused : IsRefusal (branch_claims program trees c.args.number (claim_of_branch c.args.branch.now)) r =
    refused-later (terms_claims program trees (terms_place c.args.number) (map claim_of_term c.args.branch.now.terms.items)) (disjoint_claims program trees c.args.number (claim_of_branch c.args.branch.now)) r
    (these-hold c.args.program.now trees c.args.number c.args.branch.now c.in-Ok.place c.as_slice.result.now c.in-Ok.ensures c.as_slice.ensures.value c.in_ok-values.ensures.accepted)
    c.in_err-check_pairs.ensures.refused in
    search rules
