use Rattle.std.proofs.Common.{rules, subst, List}
use Rattle.std.specs.Prelude.{Ok, Err}
use Rattle.std.proofs.lemmas.List.{drop_all}
use Rattle.claims.specs.declared.place.Step.{Step}
use Rattle.affine_program.specs.Parts.{meaning}
use Rattle.iolb_check.specs.TermFit.{term_fit, term_at}
use Rattle.claims.specs.Claims.{AllHold, IsRefusal}
use Rattle.certificate_fit.proofs.FitFound.{mapped-stop, mapped-next, mapped-ended}
use Rattle.iolb_check.proofs.fit_branches.all_terms_fit.Goals as goal
use Rattle.dep_quast.specs.Quasts.{trees_of}
use Rattle.iolb_check.specs.Claims.{claim_of_term}

pub returns-in_err-term_fits : goal.returns-in_err-term_fits
returns-in_err-term_fits c =
    let r = c.in_err-term_fits.field-0.0 in
    let refused = c.loop-index.invariant (Err r) (mapped-stop claim_of_term (term_at (meaning c.args.program.now) (trees_of c.args.quasts.now) c.args.list.now) c.args.terms.now c.loop-index.index c.index-terms-index.result c.loop-index-test.true c.index-terms-index.is r
    (subst (λ (place : List Step). IsRefusal (term_fit (meaning c.args.program.now) (trees_of c.args.quasts.now) place (claim_of_term c.index-terms-index.result)) r) c.in_ok-at.ensures c.in_err-term_fits.ensures)) in
    search rules

pub loop-index-preserved : goal.loop-index-preserved
loop-index-preserved c = λ found h.
    c.loop-index.invariant found (mapped-next claim_of_term (term_at (meaning c.args.program.now) (trees_of c.args.quasts.now) c.args.list.now) c.args.terms.now c.loop-index.index c.index-terms-index.result c.loop-index-test.true c.index-terms-index.is found
    (subst (λ (place : List Step). AllHold (term_fit (meaning c.args.program.now) (trees_of c.args.quasts.now) place (claim_of_term c.index-terms-index.result))) c.in_ok-at.ensures c.in_ok-term_fits.ensures) h)

pub returns : goal.returns
returns c = c.loop-index.invariant (Ok tt) (mapped-ended claim_of_term (term_at (meaning c.args.program.now) (trees_of c.args.quasts.now) c.args.list.now) c.args.terms.now c.loop-index.index (drop_all c.loop-index.index c.args.terms.now c.loop-index-test.false))
