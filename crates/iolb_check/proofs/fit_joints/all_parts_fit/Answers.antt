use Rattle.std.proofs.Common.{rules, subst, List}
use Rattle.std.specs.Prelude.{Ok, Err}
use Rattle.std.proofs.lemmas.List.{drop_all}
use Rattle.claims.specs.Claims.{AllHold, IsRefusal}
use Rattle.claims.specs.declared.place.Step.{Step}
use Rattle.affine_program.specs.Parts.{meaning}
use Rattle.joint_partition.specs.View.{part_of}
use Rattle.iolb_check.specs.JointFit.{part_at, part_fit}
use Rattle.certificate_fit.proofs.FitFound.{mapped-stop, mapped-next, mapped-ended}
use Rattle.iolb_check.proofs.fit_joints.all_parts_fit.Goals as goal

pub returns-in_err-part_fits : goal.returns-in_err-part_fits
returns-in_err-part_fits c =
    let r = c.in_err-part_fits.field-0.0 in
    let each = part_at (meaning c.args.program.now) c.args.dimensions c.args.list.now in
    let refused = c.loop-index.invariant (Err r) (mapped-stop part_of each c.args.parts.now c.loop-index.index c.index-parts-index.result c.loop-index-test.true c.index-parts-index.is r
    (subst (λ (p : List Step). IsRefusal (part_fit (meaning c.args.program.now) c.args.dimensions p (part_of c.index-parts-index.result)) r) c.in_ok-at.ensures c.in_err-part_fits.ensures)) in
    search rules

pub loop-index-preserved : goal.loop-index-preserved
loop-index-preserved c = λ found h.
    let each = part_at (meaning c.args.program.now) c.args.dimensions c.args.list.now in
    c.loop-index.invariant found (mapped-next part_of each c.args.parts.now c.loop-index.index c.index-parts-index.result c.loop-index-test.true c.index-parts-index.is found
    (subst (λ (p : List Step). AllHold (part_fit (meaning c.args.program.now) c.args.dimensions p (part_of c.index-parts-index.result))) c.in_ok-at.ensures c.in_ok-part_fits.ensures) h)

pub returns : goal.returns
returns c =
    let each = part_at (meaning c.args.program.now) c.args.dimensions c.args.list.now in
    c.loop-index.invariant (Ok tt) (mapped-ended part_of each c.args.parts.now c.loop-index.index (drop_all c.loop-index.index c.args.parts.now c.loop-index-test.false))
