use Rattle.std.proofs.Common.{subst}
use Rattle.std.specs.Prelude.{Option, IfSome}
use Rattle.affine_program.specs.Parts.{meaning}
use Rattle.claims.proofs.Found.{IfOk-then}
use Rattle.find_terms.specs.Made.{IsMadeFor}
use Rattle.find_terms.specs.Opened.{BeginsWithOpening}
use Rattle.find_terms.specs.Shortened.{IsShort}
use Rattle.projective_bounds.specs.Certified.{HasCoverInReach}
use Rattle.find_terms.specs.declared.accepted.Accepted.{Accepted}
use Rattle.find_terms.proofs.OfProjective.{made-certified, made-others}
use Rattle.find_terms.proofs.making.made_within.Goals as goal

pub returns-in-Some-clause-made : goal.returns-in-Some-clause-made
returns-in-Some-clause-made c =
    made-certified (meaning c.args.program.now) c.in_ok-accepted.field-0 c.in-Some.accepted c.in-Some.is c.in_ok-accepted.ensures.certified c.in_ok-accepted.ensures.reach

pub returns-in-None-clause-made : goal.returns-in-None-clause-made
returns-in-None-clause-made c =
    IfOk-then c.proposed.result (λ (accepted : Accepted). BeginsWithOpening (meaning c.args.program.now) accepted.certificate.branches)
    (λ (accepted : Accepted). IsMadeFor (meaning c.args.program.now) accepted.certificate) c.proposed.ensures.opening
    (λ accepted opens. made-others (meaning c.args.program.now) c.in_ok-accepted.field-0 accepted.certificate c.in-None.is c.in_ok-accepted.ensures.none opens)

pub returns-in-Some-clause-short : goal.returns-in-Some-clause-short
returns-in-Some-clause-short c = λ never.
    absurd (never (subst (λ (found : Option Accepted). IfSome found (λ (a : Accepted). HasCoverInReach (meaning c.args.program.now))) c.in-Some.is c.in_ok-accepted.ensures.reach))

pub returns-in-None-clause-short : goal.returns-in-None-clause-short
returns-in-None-clause-short c =
    IfOk-then c.proposed.result (IsShort (meaning c.args.program.now) c.args.most)
    (λ (accepted : Accepted). ¬ HasCoverInReach (meaning c.args.program.now) → IsShort (meaning c.args.program.now) c.args.most accepted) c.proposed.ensures.short (λ accepted short never. short)
