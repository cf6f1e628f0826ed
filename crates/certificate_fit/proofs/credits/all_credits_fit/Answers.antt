use Rattle.std.proofs.Common.{rules, subst, List}
use Rattle.std.specs.Prelude.{Ok, Err}
use Rattle.std.proofs.lemmas.List.{drop_all}
use Rattle.affine_program.specs.Parts.{meaning}
use Rattle.claims.specs.declared.place.Step.{Step}
use Rattle.claims.proofs.Members.{numbered-ended, numbered-next, numbered-stop}
use Rattle.reuse_paths.specs.Families.{credit_of}
use Rattle.claims.specs.Claims.{AllHold, IsRefusal}
use Rattle.certificate_fit.specs.FamilyFit.{credit_fit}
use Rattle.certificate_fit.specs.FamilyViews.{credit_at}
use Rattle.certificate_fit.proofs.credits.all_credits_fit.Goals as goal

pub returns-in_err-credit_fits : goal.returns-in_err-credit_fits
returns-in_err-credit_fits c =
    let r = c.in_err-credit_fits.field-0.0 in
    let program = meaning c.args.program.now in
    let fit = credit_at program c.args.list.now in
    let credit = c.index-credits-index.result in
    let found = subst (λ (p : List Step). IsRefusal (credit_fit program p (credit_of credit) credit.sums) r) c.in_ok-at.ensures c.in_err-credit_fits.ensures in
    let refused = c.loop-index.invariant (Err r) (numbered-stop fit c.args.credits.now c.loop-index.index credit c.loop-index-test.true c.index-credits-index.is r
    found) in
    search rules

pub loop-index-preserved : goal.loop-index-preserved
loop-index-preserved c = λ found_later h.
    let program = meaning c.args.program.now in
    let fit = credit_at program c.args.list.now in
    let credit = c.index-credits-index.result in
    let found = subst (λ (p : List Step). AllHold (credit_fit program p (credit_of credit) credit.sums)) c.in_ok-at.ensures c.in_ok-credit_fits.ensures in
    c.loop-index.invariant found_later (numbered-next fit c.args.credits.now c.loop-index.index credit c.loop-index-test.true c.index-credits-index.is found_later
    found h)

pub returns : goal.returns
returns c =
    c.loop-index.invariant (Ok tt)
    (numbered-ended (credit_at (meaning c.args.program.now) c.args.list.now) c.args.credits.now c.loop-index.index (drop_all c.loop-index.index c.args.credits.now c.loop-index-test.false))
