use Rattle.std.proofs.Common.{◌≡◌, ◌∙◌, sym, subst, ℕ, ◌+◌, ◌<◌, [], length}
use Rattle.std.specs.List.{AllByRecursion}
use Rattle.std.proofs.lemmas.List.{length-map}
use Rattle.base_laws.proofs.Lists.{All-weaken}
use Rattle.affine_form.specs.Form.{IsSmallForm}
use Rattle.affine_form.specs.Rows.{IsSmallOver}
use Rattle.affine_program.specs.Parts.{meaning}
use Rattle.dep_quast.specs.Quasts.{trees_of}
use Rattle.reuse_paths.specs.FamilyClaims.{family_setting}
use Rattle.reuse_paths.specs.FewContexts.{ReadersFit, TakesFit}
use Rattle.reuse_paths.specs.WalkSettings.{WalkSetting}
use Rattle.reuse_paths.specs.WalkViews.{walk_of}
use Rattle.reuse_paths.proofs.ToldFamilies.{takes-fit}
use Rattle.iolb_model.specs.declared.limits.TheConstants.{NUMBER_SIZE}
use Rattle.joint_partition.specs.FamiliesFit.{AreLabeled}
use Rattle.joint_partition.specs.Term.{WayTerm, credited_nests, labels_of, start_label, walks_from, way_at, way_walks}
use Rattle.joint_partition.specs.View.{family_of, joint_of, part_of, start_of}
use Rattle.joint_partition.proofs.PlainSettings.{plain-fits}
use Rattle.joint_partition.proofs.WaySettings.{way-fits}
use Rattle.joint_partition.proofs.pieces.push_start.Goals as goal

pub start_label-requires-clause-image : goal.start_label-requires-clause-image
start_label-requires-clause-image c =
    let part = part_of c.args.part.now in
    All-weaken (IsSmallOver (length c.args.program.now.params + length part.nest)) (IsSmallForm NUMBER_SIZE) part.image (λ form h. h.small) c.requires.part.fits.over

pub start_label-requires-clause-set : goal.start_label-requires-clause-set
start_label-requires-clause-set c = subst (λ (n : ℕ). AllByRecursion (λ (i : ℕ). i < n) c.args.family.now.set) (sym c.requires.part.fits.long) c.requires.family.set

pub walking_in-walking-requires-clause-there : goal.walking_in-walking-requires-clause-there
walking_in-walking-requires-clause-there c =
    let program = meaning c.args.program.now in
    let trees = trees_of c.args.quasts.now in
    let term = joint_of c.args.term.now in
    let family = family_of c.args.family.now in
    let part = part_of c.args.part.now in
    let start = start_of c.args.start.now in
    subst (λ (way : WayTerm). way.labels < length family.labels) (sym c.way_at-way.ensures) (way-fits program trees term family start.way c.requires.family c.requires.start.entered).there

pub walking_in-walking-requires-clause-labeled : goal.walking_in-walking-requires-clause-labeled
walking_in-walking-requires-clause-labeled c =
    let program = meaning c.args.program.now in
    let trees = trees_of c.args.quasts.now in
    let term = joint_of c.args.term.now in
    let family = family_of c.args.family.now in
    let part = part_of c.args.part.now in
    let start = start_of c.args.start.now in
    subst (λ (way : WayTerm). AreLabeled (labels_of family way.labels).nodes way.regions) (sym c.way_at-way.ensures) (way-fits program trees term family start.way c.requires.family c.requires.start.entered).labeled

pub push_region-requires-clause-readers : goal.push_region-requires-clause-readers
push_region-requires-clause-readers c =
    let program = meaning c.args.program.now in
    let trees = trees_of c.args.quasts.now in
    let term = joint_of c.args.term.now in
    let family = family_of c.args.family.now in
    let part = part_of c.args.part.now in
    let start = start_of c.args.start.now in
    let label : c.as_slice-reader.result.now ≡ start_label part family = c.as_slice-reader.ensures.value ∙ c.in_ok-label.ensures.label in
    let is : walk_of c.walking_in-walking.result ≡ family_setting program trees [] (walks_from family part start).walks (start_label part family) =
    c.walking_in-walking.ensures.setting ∙ (λ i. family_setting program trees [] (way_walks family (c.way_at-way.ensures i)) (label i)) in
    subst (λ (walk : WalkSetting). ReadersFit walk part.statement) (sym is) (record {
      setting = plain-fits program trees term family (way_at family start.way) c.requires.term.trees_fit c.requires.term.credits c.requires.family
          (way-fits program trees term family start.way c.requires.family c.requires.start.entered) (start_label part family) (length-map family.set _);
      there = c.requires.part.fits.there;
    })

pub push_region-requires-clause-takes : goal.push_region-requires-clause-takes
push_region-requires-clause-takes c =
    let program = meaning c.args.program.now in
    let trees = trees_of c.args.quasts.now in
    let term = joint_of c.args.term.now in
    let family = family_of c.args.family.now in
    let part = part_of c.args.part.now in
    let start = start_of c.args.start.now in
    let label : c.as_slice-reader.result.now ≡ start_label part family = c.as_slice-reader.ensures.value ∙ c.in_ok-label.ensures.label in
    let is : walk_of c.walking_in-walking.result ≡ family_setting program trees [] (walks_from family part start).walks (start_label part family) =
    c.walking_in-walking.ensures.setting ∙ (λ i. family_setting program trees [] (way_walks family (c.way_at-way.ensures i)) (label i)) in
    subst (λ (walk : WalkSetting). TakesFit walk part.statement start.tree) (sym is)
    (takes-fit program trees (credited_nests term) (walks_from family part start).walks (start_label part family) part.statement start.tree c.requires.start.walk)
