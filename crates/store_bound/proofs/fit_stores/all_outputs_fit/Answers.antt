use Rattle.std.proofs.Common.{rules, ◌≡◌, sym, ap, subst, ℕ, suc, ◌+◌, List, drop}
use Rattle.std.specs.Prelude.{Ok, Err}
use Rattle.std.specs.List.{AllByRecursion}
use Rattle.std.proofs.lemmas.List.{drop_all}
use Rattle.std.proofs.Math.Numerals.{suc-eq-add-one}
use Rattle.base_laws.proofs.Lists.{rest_after}
use Rattle.claims.specs.declared.place.Step.{Step}
use Rattle.affine_program.specs.Parts.{meaning}
use Rattle.claims.specs.Claims.{AllHold, IsRefusal}
use Rattle.certificate_fit.proofs.FitFound.{mapped-stop, mapped-next, mapped-ended}
use Rattle.last_writers.specs.Fitting.{FitsOutput}
use Rattle.last_writers.specs.OutputFit.{output_fit}
use Rattle.store_bound.specs.StoresFit.{output_fit_at}
use Rattle.store_bound.proofs.fit_stores.all_outputs_fit.Goals as goal
use Rattle.store_terms.specs.Claims.{claim_of_output}
use Rattle.store_terms.specs.Limits.{IsSmallOutput}
use Rattle.store_terms.specs.declared.output.Output.{Output}

pub output_fits-requires : goal.output_fits-requires
output_fits-requires c =
    (subst (AllByRecursion IsSmallOutput) (rest_after c.args.outputs.now c.loop-index.index c.index-outputs-index.result c.loop-index-test.true c.index-outputs-index.is) c.loop-index.invariant.small).0

pub returns-in_err-output_fits-clause-fit : goal.returns-in_err-output_fits-clause-fit
returns-in_err-output_fits-clause-fit c =
    let r = c.in_err-output_fits.field-0.0 in
    let refused = c.loop-index.invariant.decided (Err r) (mapped-stop claim_of_output (output_fit_at (meaning c.args.program.now)) c.args.outputs.now c.loop-index.index c.index-outputs-index.result c.loop-index-test.true c.index-outputs-index.is r
    (subst (λ (place : List Step). IsRefusal (output_fit (meaning c.args.program.now) place (claim_of_output c.index-outputs-index.result)) r) c.in_ok-place.ensures c.in_err-output_fits.ensures.fit)) in
    search rules

pub loop-index-preserved : goal.loop-index-preserved
loop-index-preserved c =
    let outputs : List Output = c.args.outputs.now in
    let i : ℕ = c.loop-index.index in
    let split = rest_after outputs i c.index-outputs-index.result c.loop-index-test.true c.index-outputs-index.is in
    let more : drop (suc i) outputs ≡ drop (i + 1) outputs = ap (λ (n : ℕ). drop n outputs) (suc-eq-add-one i) in
    record {
      small = subst (AllByRecursion IsSmallOutput) more (subst (AllByRecursion IsSmallOutput) split c.loop-index.invariant.small).1;
      decided = λ found h. c.loop-index.invariant.decided found (mapped-next claim_of_output (output_fit_at (meaning c.args.program.now)) outputs i c.index-outputs-index.result c.loop-index-test.true c.index-outputs-index.is found
          (subst (λ (place : List Step). AllHold (output_fit (meaning c.args.program.now) place (claim_of_output c.index-outputs-index.result))) c.in_ok-place.ensures c.in_ok-output_fits.ensures.fit) h);
      fits = λ h. c.loop-index.invariant.fits (subst (AllByRecursion (FitsOutput c.args.program.now)) (sym split) (c.in_ok-output_fits.ensures.fits, subst (AllByRecursion (FitsOutput c.args.program.now)) (sym more) h));
    }

pub returns-clause-fit : goal.returns-clause-fit
returns-clause-fit c = c.loop-index.invariant.decided (Ok tt) (mapped-ended claim_of_output (output_fit_at (meaning c.args.program.now)) c.args.outputs.now c.loop-index.index (drop_all c.loop-index.index c.args.outputs.now c.loop-index-test.false))
