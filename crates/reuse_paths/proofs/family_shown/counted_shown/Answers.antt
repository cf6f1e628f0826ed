use Rattle.std.proofs.Common.{◌≡◌, ◌∙◌, sym, ap, subst, List, map, length}
use Rattle.affine_form.specs.Rows.{BoundsFit}
use Rattle.affine_program.specs.Domain.{depth_of}
use Rattle.affine_program.specs.Parts.{meaning}
use Rattle.reuse_paths.specs.Families.{CreditedNest, FamilyForms, credit_of, family_of}
use Rattle.reuse_paths.specs.FamilyClaims.{family_setting}
use Rattle.dep_quast.specs.Quasts.{trees_of}
use Rattle.reuse_paths.specs.WalkFits.{WalkFits}
use Rattle.reuse_paths.specs.WalkSettings.{WalkSetting}
use Rattle.reuse_paths.specs.WalkViews.{walk_of, ReadingFits}
use Rattle.reuse_paths.proofs.family_shown.counted_shown.Goals as goal

pub start_shown-requires-clause-fits : goal.start_shown-requires-clause-fits
start_shown-requires-clause-fits c =
    let program = meaning c.args.program.now in
    let trees = trees_of c.args.quasts.now in
    let credits : List CreditedNest = map credit_of c.args.credits.now in
    let family : FamilyForms = family_of c.args.family.now in
    let is : walk_of c.walking_from-walking.result ≡ family_setting program trees credits family family.start_label =
    c.walking_from-walking.ensures.setting ∙ ap (family_setting program trees credits family) c.as_slice-label.ensures.value in
    subst (λ (w : WalkSetting). ReadingFits w c.args.statement) (sym is) c.requires.fits

pub start_shown-requires-clause-each : goal.start_shown-requires-clause-each
start_shown-requires-clause-each c =
    let program = meaning c.args.program.now in
    let trees = trees_of c.args.quasts.now in
    let credits : List CreditedNest = map credit_of c.args.credits.now in
    let family : FamilyForms = family_of c.args.family.now in
    let is : walk_of c.walking_from-walking.result ≡ family_setting program trees credits family family.start_label =
    c.walking_from-walking.ensures.setting ∙ ap (family_setting program trees credits family) c.as_slice-label.ensures.value in
    subst (λ (w : WalkSetting). length c.args.nest.now ≡ depth_of w.program c.args.statement) (sym is) c.requires.each

pub start_shown-requires-clause-bounds : goal.start_shown-requires-clause-bounds
start_shown-requires-clause-bounds c =
    let program = meaning c.args.program.now in
    let trees = trees_of c.args.quasts.now in
    let credits : List CreditedNest = map credit_of c.args.credits.now in
    let family : FamilyForms = family_of c.args.family.now in
    let is : walk_of c.walking_from-walking.result ≡ family_setting program trees credits family family.start_label =
    c.walking_from-walking.ensures.setting ∙ ap (family_setting program trees credits family) c.as_slice-label.ensures.value in
    subst (λ (w : WalkSetting). BoundsFit (length w.program.parameters) c.args.nest.now) (sym is) c.requires.bounds

pub start_shown-requires-clause-walk_fits : goal.start_shown-requires-clause-walk_fits
start_shown-requires-clause-walk_fits c =
    let program = meaning c.args.program.now in
    let trees = trees_of c.args.quasts.now in
    let credits : List CreditedNest = map credit_of c.args.credits.now in
    let family : FamilyForms = family_of c.args.family.now in
    let is : walk_of c.walking_from-walking.result ≡ family_setting program trees credits family family.start_label =
    c.walking_from-walking.ensures.setting ∙ ap (family_setting program trees credits family) c.as_slice-label.ensures.value in
    subst (λ (w : WalkSetting). WalkFits w c.args.statement family.start) (sym is) c.requires.walk_fits
