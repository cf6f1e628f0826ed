use Rattle.std.proofs.Common.{ap, sym, subst, List}
use Rattle.affine_program.specs.Parts.{meaning}
use Rattle.iolb_check.specs.Limits.{CertificateParts}
use Rattle.iolb_check.specs.declared.term.Branch.{Branch}
use Rattle.find_terms.specs.Opened.{BeginsWithOpening}
use Rattle.find_terms.proofs.Opened.{begins-pushed}
use Rattle.find_terms.proofs.growing.grown.Goals as goal

pub returns-in-Taken-clause-opening : goal.returns-in-Taken-clause-opening
returns-in-Taken-clause-opening c =
    subst (λ (parts : CertificateParts). BeginsWithOpening (meaning c.args.program.now) parts.branches) (sym c.in_ok-larger.ensures)
    (begins-pushed (meaning c.args.program.now) c.args.growing.certificate.branches c.args.branch c.requires.opening)

pub returns-in-Left-clause-opening : goal.returns-in-Left-clause-opening
returns-in-Left-clause-opening c =
    subst (λ (all : List Branch). BeginsWithOpening (meaning c.args.program.now) all)
    (sym (c.without_last.ensures.branches c.args.growing.certificate.branches c.args.branch (ap (λ (parts : CertificateParts). parts.branches) c.in_ok-larger.ensures)))
    c.requires.opening
