use Rattle.std.proofs.Common.{◌≡◌, ◌∙◌, sym, ap, subst, ℕ, ◌+◌, ◌<◌, length, map}
use Rattle.std.specs.List.{AllByRecursion}
use Rattle.base_laws.proofs.Lists.{All-weaken}
use Rattle.affine_form.specs.Form.{IsSmallForm}
use Rattle.affine_form.specs.Rows.{BoundsFit, IsSmallOver}
use Rattle.affine_program.specs.Domain.{depth_of}
use Rattle.affine_program.specs.Parts.{meaning}
use Rattle.dep_quast.specs.Quasts.{trees_of}
use Rattle.k_partition.proofs.Members.{nests-are}
use Rattle.reuse_paths.specs.Families.{credit_of}
use Rattle.reuse_paths.specs.FamilyClaims.{family_setting}
use Rattle.reuse_paths.specs.WalkFits.{WalkFits}
use Rattle.reuse_paths.specs.WalkSettings.{WalkSetting}
use Rattle.reuse_paths.specs.WalkViews.{walk_of, ReadingFits}
use Rattle.iolb_model.specs.declared.limits.TheConstants.{NUMBER_SIZE, PUT_SIZE}
use Rattle.joint_partition.specs.Claims.{setting_of}
use Rattle.joint_partition.specs.FamiliesFit.{AreLabeled}
use Rattle.joint_partition.specs.Term.{WayTerm, credited_nests, labels_of, start_label, walks_from, way_walks}
use Rattle.joint_partition.specs.View.{family_of, joint_of, part_of, start_of}
use Rattle.joint_partition.proofs.StartsFound.{start-found, start-reading}
use Rattle.joint_partition.proofs.WaySettings.{way-fits}
use Rattle.joint_partition.proofs.starts_shown.start_shown.Goals as goal

pub start_label-requires-clause-image : goal.start_label-requires-clause-image
start_label-requires-clause-image c =
    let part = part_of c.args.part.now in
    All-weaken (IsSmallOver (length c.args.program.now.params + length part.nest)) (IsSmallForm NUMBER_SIZE) part.image (λ form h. h.small) c.requires.part.fits.over

pub start_label-requires-clause-set : goal.start_label-requires-clause-set
start_label-requires-clause-set c = subst (λ (n : ℕ). AllByRecursion (λ (i : ℕ). i < n) c.args.family.now.set) (sym c.requires.part.fits.long) c.requires.family.set

pub walking_in-walking-requires-clause-there : goal.walking_in-walking-requires-clause-there
walking_in-walking-requires-clause-there c =
    let program = meaning c.args.program.now in
    let trees = trees_of c.args.quasts.now in
    let term = joint_of c.args.term.now in
    let family = family_of c.args.family.now in
    let part = part_of c.args.part.now in
    let start = start_of c.args.start.now in
    subst (λ (way : WayTerm). way.labels < length family.labels) (sym c.way_at-way.ensures) (way-fits program trees term family start.way c.requires.family c.requires.start.entered).there

pub walking_in-walking-requires-clause-labeled : goal.walking_in-walking-requires-clause-labeled
walking_in-walking-requires-clause-labeled c =
    let program = meaning c.args.program.now in
    let trees = trees_of c.args.quasts.now in
    let term = joint_of c.args.term.now in
    let family = family_of c.args.family.now in
    let part = part_of c.args.part.now in
    let start = start_of c.args.start.now in
    subst (λ (way : WayTerm). AreLabeled (labels_of family way.labels).nodes way.regions) (sym c.way_at-way.ensures) (way-fits program trees term family start.way c.requires.family c.requires.start.entered).labeled

pub tree_shown-requires-clause-fits : goal.tree_shown-requires-clause-fits
tree_shown-requires-clause-fits c =
    let program = meaning c.args.program.now in
    let trees = trees_of c.args.quasts.now in
    let term = joint_of c.args.term.now in
    let family = family_of c.args.family.now in
    let part = part_of c.args.part.now in
    let start = start_of c.args.start.now in
    let label : c.as_slice-reader.result.now ≡ start_label part family = c.as_slice-reader.ensures.value ∙ c.in_ok-label.ensures.label in
    let credits : map credit_of c.as_slice-credits.result.now ≡ credited_nests term = ap (map credit_of) c.as_slice-credits.ensures.value ∙ sym (nests-are c.args.term.now.credits.items) in
    let is : walk_of c.walking_in-walking.result ≡ setting_of program trees term (walks_from family part start).walks (start_label part family) =
    c.walking_in-walking.ensures.setting ∙ (λ i. family_setting program trees (credits i) (way_walks family (c.way_at-way.ensures i)) (label i)) in
    let small : AllByRecursion (IsSmallForm PUT_SIZE) (start_label part family) = subst (AllByRecursion (IsSmallForm PUT_SIZE)) c.in_ok-label.ensures.label c.in_ok-label.ensures.small in
    subst (λ (walk : WalkSetting). ReadingFits walk part.statement) (sym is)
    (start-reading program trees term family part start c.requires.term.trees_fit c.requires.term.credits c.requires.family c.requires.part.fits c.requires.start small)

pub tree_shown-requires-clause-each : goal.tree_shown-requires-clause-each
tree_shown-requires-clause-each c =
    let program = meaning c.args.program.now in
    let trees = trees_of c.args.quasts.now in
    let term = joint_of c.args.term.now in
    let family = family_of c.args.family.now in
    let part = part_of c.args.part.now in
    let start = start_of c.args.start.now in
    let label : c.as_slice-reader.result.now ≡ start_label part family = c.as_slice-reader.ensures.value ∙ c.in_ok-label.ensures.label in
    let credits : map credit_of c.as_slice-credits.result.now ≡ credited_nests term = ap (map credit_of) c.as_slice-credits.ensures.value ∙ sym (nests-are c.args.term.now.credits.items) in
    let is : walk_of c.walking_in-walking.result ≡ setting_of program trees term (walks_from family part start).walks (start_label part family) =
    c.walking_in-walking.ensures.setting ∙ (λ i. family_setting program trees (credits i) (way_walks family (c.way_at-way.ensures i)) (label i)) in
    subst (λ (walk : WalkSetting). length part.nest ≡ depth_of walk.program part.statement) (sym is) c.requires.part.fits.each

pub tree_shown-requires-clause-bounds : goal.tree_shown-requires-clause-bounds
tree_shown-requires-clause-bounds c =
    let program = meaning c.args.program.now in
    let trees = trees_of c.args.quasts.now in
    let term = joint_of c.args.term.now in
    let family = family_of c.args.family.now in
    let part = part_of c.args.part.now in
    let start = start_of c.args.start.now in
    let label : c.as_slice-reader.result.now ≡ start_label part family = c.as_slice-reader.ensures.value ∙ c.in_ok-label.ensures.label in
    let credits : map credit_of c.as_slice-credits.result.now ≡ credited_nests term = ap (map credit_of) c.as_slice-credits.ensures.value ∙ sym (nests-are c.args.term.now.credits.items) in
    let is : walk_of c.walking_in-walking.result ≡ setting_of program trees term (walks_from family part start).walks (start_label part family) =
    c.walking_in-walking.ensures.setting ∙ (λ i. family_setting program trees (credits i) (way_walks family (c.way_at-way.ensures i)) (label i)) in
    subst (λ (walk : WalkSetting). BoundsFit (length walk.program.parameters) part.nest) (sym is) c.requires.part.fits.bounds

pub tree_shown-requires-clause-walk : goal.tree_shown-requires-clause-walk
tree_shown-requires-clause-walk c =
    let program = meaning c.args.program.now in
    let trees = trees_of c.args.quasts.now in
    let term = joint_of c.args.term.now in
    let family = family_of c.args.family.now in
    let part = part_of c.args.part.now in
    let start = start_of c.args.start.now in
    let label : c.as_slice-reader.result.now ≡ start_label part family = c.as_slice-reader.ensures.value ∙ c.in_ok-label.ensures.label in
    let credits : map credit_of c.as_slice-credits.result.now ≡ credited_nests term = ap (map credit_of) c.as_slice-credits.ensures.value ∙ sym (nests-are c.args.term.now.credits.items) in
    let is : walk_of c.walking_in-walking.result ≡ setting_of program trees term (walks_from family part start).walks (start_label part family) =
    c.walking_in-walking.ensures.setting ∙ (λ i. family_setting program trees (credits i) (way_walks family (c.way_at-way.ensures i)) (label i)) in
    subst (λ (walk : WalkSetting). WalkFits walk part.statement start.tree) (sym is) c.requires.start.walk

pub returns : goal.returns
returns c =
    let program = meaning c.args.program.now in
    let trees = trees_of c.args.quasts.now in
    let term = joint_of c.args.term.now in
    let family = family_of c.args.family.now in
    let part = part_of c.args.part.now in
    let start = start_of c.args.start.now in
    let label : c.as_slice-reader.result.now ≡ start_label part family = c.as_slice-reader.ensures.value ∙ c.in_ok-label.ensures.label in
    let credits : map credit_of c.as_slice-credits.result.now ≡ credited_nests term = ap (map credit_of) c.as_slice-credits.ensures.value ∙ sym (nests-are c.args.term.now.credits.items) in
    let is : walk_of c.walking_in-walking.result ≡ setting_of program trees term (walks_from family part start).walks (start_label part family) =
    c.walking_in-walking.ensures.setting ∙ (λ i. family_setting program trees (credits i) (way_walks family (c.way_at-way.ensures i)) (label i)) in
    start-found program trees term family part start c.args.list.now c.in_ok-place.place c.args.index c.walking_in-walking.result.condition (walk_of c.walking_in-walking.result) c.tree_shown.result is
    c.walking_in-walking.ensures.condition c.in_ok-place.ensures c.tree_shown.ensures
