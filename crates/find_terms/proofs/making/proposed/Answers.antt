use Rattle.std.proofs.Common.{inr}
use Rattle.affine_program.specs.Parts.{meaning}
use Rattle.claims.proofs.Found.{IfOk-then}
use Rattle.dep_quast.specs.Quasts.{trees_of}
use Rattle.find_terms.specs.Shortened.{AreShortParts, IsShort}
use Rattle.find_terms.specs.declared.accepted.Accepted.{Accepted}
use Rattle.find_terms.proofs.making.proposed.Goals as goal

pub returns-clause-short : goal.returns-clause-short
returns-clause-short c =
    IfOk-then c.shortened.result (λ (accepted : Accepted). AreShortParts (meaning c.args.program.now) accepted.certificate.branches (trees_of accepted.certificate.quasts))
    (IsShort (meaning c.args.program.now) c.args.most) c.shortened.ensures.short (λ accepted short. inr short)
