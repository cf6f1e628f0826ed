use Rattle.std.proofs.Common.{◌≡◌, ap, sym, subst, [], ◌∷◌}
use Rattle.std.specs.Prelude.{Option, IfOk}
use Rattle.affine_program.specs.Parts.{meaning}
use Rattle.claims.proofs.Found.{IfOk-then}
use Rattle.iolb_check.specs.Limits.{CertificateParts}
use Rattle.iolb_check.specs.declared.term.Branch.{Branch}
use Rattle.find_terms.specs.Opened.{BeginsWithOpening}
use Rattle.find_terms.specs.Shortened.{opened_parts}
use Rattle.find_terms.specs.declared.accepted.Accepted.{Accepted}
use Rattle.find_terms.proofs.Opened.{begins-opened}
use Rattle.find_terms.proofs.accepted.opened.Goals as goal

pub returns-in-Some-clause-opening : goal.returns-in-Some-clause-opening
returns-in-Some-clause-opening c =
    IfOk-then c.with_opening.result (λ (accepted : Accepted). accepted.certificate ≡ record { quasts = c.args.quasts; branches = c.in-Some.branch ∷ [] })
    (λ (accepted : Accepted). BeginsWithOpening (meaning c.args.program.now) accepted.certificate.branches) c.with_opening.ensures.parts
    (λ accepted is.
    begins-opened (meaning c.args.program.now) c.args.opening c.in-Some.branch accepted.certificate.branches c.in-Some.is c.requires.opening
    (ap (λ (parts : CertificateParts). parts.branches) is))

pub returns-in-Some-clause-parts : goal.returns-in-Some-clause-parts
returns-in-Some-clause-parts c =
    subst (λ (opening : Option Branch). IfOk c.with_opening.result (λ (accepted : Accepted). accepted.certificate ≡ opened_parts c.args.quasts opening)) (sym c.in-Some.is)
    c.with_opening.ensures.parts

pub returns-in-None-clause-parts : goal.returns-in-None-clause-parts
returns-in-None-clause-parts c =
    subst (λ (opening : Option Branch). IfOk c.bare.result (λ (accepted : Accepted). accepted.certificate ≡ opened_parts c.args.quasts opening)) (sym c.in-None.is) c.bare.ensures.parts
