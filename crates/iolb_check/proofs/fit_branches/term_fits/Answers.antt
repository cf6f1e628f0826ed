use Rattle.std.proofs.Common.{List, subst, sym}
use Rattle.affine_program.specs.Parts.{meaning}
use Rattle.claims.specs.Claims.{Decides}
use Rattle.claims.specs.declared.place.Step.{Step}
use Rattle.dep_quast.specs.Quasts.{trees_of}
use Rattle.wavefront.specs.View.{front_of}
use Rattle.iolb_check.specs.Claims.{claim_of_term}
use Rattle.iolb_check.specs.FrontFit.{front_fit}
use Rattle.iolb_check.specs.TermFit.{term_fit}
use Rattle.iolb_check.specs.declared.term.Term.{Term}
use Rattle.iolb_check.proofs.fit_branches.term_fits.Goals as goal

pub returns-in_ok-at-in-Wavefront : goal.returns-in_ok-at-in-Wavefront
returns-in_ok-at-in-Wavefront c =
    let program = meaning c.args.program.now in
    let trees = trees_of c.args.quasts.now in
    let given = subst (λ (place : List Step). Decides (front_fit program trees place (front_of c.in-Wavefront.front)) c.front_fits.result) c.in_ok-at-in-Wavefront.ensures c.front_fits.ensures in
    subst (λ (term : Term). Decides (term_fit program trees c.args.place.now (claim_of_term term)) c.front_fits.result) (sym c.in-Wavefront.is) given
