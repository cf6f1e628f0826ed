use Rattle.std.proofs.Common.{rules, subst, List}
use Rattle.std.specs.Prelude.{Ok, Err}
use Rattle.std.proofs.lemmas.List.{drop_all}
use Rattle.claims.specs.Claims.{AllHold, IsRefusal}
use Rattle.claims.specs.declared.place.Step.{Step}
use Rattle.affine_program.specs.Parts.{meaning}
use Rattle.dep_quast.specs.Quasts.{trees_of}
use Rattle.joint_partition.specs.View.{family_of, joint_of}
use Rattle.iolb_check.specs.JointFit.{group_family_at, group_family_fit}
use Rattle.certificate_fit.proofs.FitFound.{mapped-stop, mapped-next, mapped-ended}
use Rattle.iolb_check.proofs.fit_joint_walks.all_joint_families_fit.Goals as goal

pub returns-in_err-family_fits : goal.returns-in_err-family_fits
returns-in_err-family_fits c =
    let r = c.in_err-family_fits.field-0.0 in
    let each = group_family_at (meaning c.args.program.now) (trees_of c.args.quasts.now) (joint_of c.args.term.now) c.args.list.now in
    let refused = c.loop-index.invariant (Err r) (mapped-stop family_of each c.args.families.now c.loop-index.index c.index-families-index.result c.loop-index-test.true c.index-families-index.is r
    (subst (λ (p : List Step). IsRefusal (group_family_fit (meaning c.args.program.now) (trees_of c.args.quasts.now) (joint_of c.args.term.now) p (family_of c.index-families-index.result)) r) c.in_ok-at.ensures c.in_err-family_fits.ensures)) in
    search rules

pub loop-index-preserved : goal.loop-index-preserved
loop-index-preserved c = λ found h.
    let each = group_family_at (meaning c.args.program.now) (trees_of c.args.quasts.now) (joint_of c.args.term.now) c.args.list.now in
    c.loop-index.invariant found (mapped-next family_of each c.args.families.now c.loop-index.index c.index-families-index.result c.loop-index-test.true c.index-families-index.is found
    (subst (λ (p : List Step). AllHold (group_family_fit (meaning c.args.program.now) (trees_of c.args.quasts.now) (joint_of c.args.term.now) p (family_of c.index-families-index.result))) c.in_ok-at.ensures c.in_ok-family_fits.ensures) h)

pub returns : goal.returns
returns c =
    let each = group_family_at (meaning c.args.program.now) (trees_of c.args.quasts.now) (joint_of c.args.term.now) c.args.list.now in
    c.loop-index.invariant (Ok tt) (mapped-ended family_of each c.args.families.now c.loop-index.index (drop_all c.loop-index.index c.args.families.now c.loop-index-test.false))
