use Rattle.std.proofs.Common.{◌≡◌, ◌∙◌, sym, ap, subst, ℕ, ◌+◌, List, length, map, Vec, Global}
use Rattle.std.specs.Prelude.{Option, Some, option_map}
use Rattle.iolb_model.specs.Form.{AffineForm}
use Rattle.affine_program.specs.Domain.{depth_of}
use Rattle.affine_program.specs.Parts.{meaning}
use Rattle.claims.specs.Claims.{Decides}
use Rattle.dep_quast.specs.Quasts.{trees_of}
use Rattle.k_partition.proofs.Members.{nests-are}
use Rattle.reuse_paths.specs.Families.{boxed_forms, credit_of}
use Rattle.reuse_paths.specs.FamilyClaims.{family_setting}
use Rattle.reuse_paths.specs.FamilyFits.{NodeFits}
use Rattle.reuse_paths.specs.WalkFits.{IsLabel, IsLabelIf, RegionFits}
use Rattle.reuse_paths.specs.WalkSettings.{WalkSetting}
use Rattle.reuse_paths.specs.WalkViews.{walk_of, ReadingFits}
use Rattle.reuse_paths.specs.Walks.{WalkRegion, boxed_region}
use Rattle.reuse_paths.proofs.FamilyLabels.{own-reads}
use Rattle.joint_partition.specs.Claims.{node_claims, region_claims, setting_of}
use Rattle.joint_partition.specs.Term.{credited_nests, way_node, way_walks}
use Rattle.joint_partition.specs.View.{family_of, joint_of, way_of}
use Rattle.joint_partition.proofs.WaySettings.{way-reading}
use Rattle.joint_partition.proofs.ways_shown.node_shown.Goals as goal

pub region_shown-requires-clause-fits : goal.region_shown-requires-clause-fits
region_shown-requires-clause-fits c =
    let program = meaning c.args.program.now in
    let trees = trees_of c.args.quasts.now in
    let term = joint_of c.args.term.now in
    let family = family_of c.args.family.now in
    let way = way_of c.args.way.now in
    let label : List AffineForm = boxed_forms c.in-Some.label in
    let held : c.as_slice-reader.result.now ≡ label = c.as_slice-reader.ensures.value ∙ ap (λ (forms : Vec AffineForm Global). forms.items) c.deref.ensures in
    let credits : map credit_of c.as_slice-credits.result.now ≡ credited_nests term = ap (map credit_of) c.as_slice-credits.ensures.value ∙ sym (nests-are c.args.term.now.credits.items) in
    let is : walk_of c.walking_in-walking.result ≡ setting_of program trees term (way_walks family way) label =
    c.walking_in-walking.ensures.setting ∙ (λ i. family_setting program trees (credits i) (way_walks family way) (held i)) in
    let some : option_map boxed_forms c.args.label.now ≡ Some label = ap (option_map boxed_forms) c.in-Some.is in
    let vars : ℕ = length program.parameters + depth_of program c.args.statement in
    let fits : IsLabel (length family.set) vars label = subst (IsLabelIf (length family.set) vars) some c.requires.label in
    let reads = own-reads vars label fits.over in
    subst (λ (walk : WalkSetting). ReadingFits walk c.args.statement) (sym is)
    (way-reading program trees term family way c.requires.term.trees_fit c.requires.term.credits c.requires.family c.requires.way label c.args.statement fits.each c.requires.there reads.0 reads.1)

pub region_shown-requires-clause-region : goal.region_shown-requires-clause-region
region_shown-requires-clause-region c =
    let program = meaning c.args.program.now in
    let trees = trees_of c.args.quasts.now in
    let term = joint_of c.args.term.now in
    let family = family_of c.args.family.now in
    let way = way_of c.args.way.now in
    let label : List AffineForm = boxed_forms c.in-Some.label in
    let held : c.as_slice-reader.result.now ≡ label = c.as_slice-reader.ensures.value ∙ ap (λ (forms : Vec AffineForm Global). forms.items) c.deref.ensures in
    let credits : map credit_of c.as_slice-credits.result.now ≡ credited_nests term = ap (map credit_of) c.as_slice-credits.ensures.value ∙ sym (nests-are c.args.term.now.credits.items) in
    let is : walk_of c.walking_in-walking.result ≡ setting_of program trees term (way_walks family way) label =
    c.walking_in-walking.ensures.setting ∙ (λ i. family_setting program trees (credits i) (way_walks family way) (held i)) in
    let some : option_map boxed_forms c.args.label.now ≡ Some label = ap (option_map boxed_forms) c.in-Some.is in
    let region : Option WalkRegion = option_map boxed_region c.args.region.now in
    subst (λ (walk : WalkSetting). RegionFits walk c.args.statement region) (sym is)
    (subst (λ (l : Option (List AffineForm)). NodeFits program trees (credited_nests term) (way_walks family way) c.args.statement (option_map (way_node region) l)) some c.requires.region)

pub returns : goal.returns
returns c =
    let program = meaning c.args.program.now in
    let trees = trees_of c.args.quasts.now in
    let term = joint_of c.args.term.now in
    let family = family_of c.args.family.now in
    let way = way_of c.args.way.now in
    let label : List AffineForm = boxed_forms c.in-Some.label in
    let held : c.as_slice-reader.result.now ≡ label = c.as_slice-reader.ensures.value ∙ ap (λ (forms : Vec AffineForm Global). forms.items) c.deref.ensures in
    let credits : map credit_of c.as_slice-credits.result.now ≡ credited_nests term = ap (map credit_of) c.as_slice-credits.ensures.value ∙ sym (nests-are c.args.term.now.credits.items) in
    let is : walk_of c.walking_in-walking.result ≡ setting_of program trees term (way_walks family way) label =
    c.walking_in-walking.ensures.setting ∙ (λ i. family_setting program trees (credits i) (way_walks family way) (held i)) in
    let some : option_map boxed_forms c.args.label.now ≡ Some label = ap (option_map boxed_forms) c.in-Some.is in
    let region : Option WalkRegion = option_map boxed_region c.args.region.now in
    subst (λ (l : Option (List AffineForm)). Decides (node_claims program trees term (way_walks family way) c.args.list.now c.args.statement (option_map (way_node region) l)) c.region_shown.result) (sym some)
    (subst (λ (walk : WalkSetting). Decides (region_claims walk c.args.list.now c.args.statement region) c.region_shown.result) is c.region_shown.ensures)
