use Rattle.std.proofs.Common.{◌≡◌}
use Rattle.affine_program.specs.Parts.{meaning}
use Rattle.claims.proofs.Found.{IfOk-then}
use Rattle.dep_quast.specs.Quasts.{trees_of}
use Rattle.find_terms.specs.Shortened.{AreShortParts, opened_parts}
use Rattle.find_terms.specs.declared.accepted.Accepted.{Accepted}
use Rattle.find_terms.proofs.Shortened.{parts-short}
use Rattle.find_terms.proofs.making.shortened.Goals as goal

pub returns-clause-short : goal.returns-clause-short
returns-clause-short c =
    IfOk-then c.opened.result (λ (accepted : Accepted). accepted.certificate ≡ opened_parts c.in_ok-quasts.quasts c.in_ok-first.first)
    (λ (accepted : Accepted). AreShortParts (meaning c.args.program.now) accepted.certificate.branches (trees_of accepted.certificate.quasts)) c.opened.ensures.parts
    (λ accepted is. parts-short (meaning c.args.program.now) c.in_ok-quasts.quasts c.in_ok-first.first accepted.certificate is c.in_ok-quasts.ensures.short)
