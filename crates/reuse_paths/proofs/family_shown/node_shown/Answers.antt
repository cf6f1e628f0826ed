use Rattle.std.proofs.Common.{◌≡◌, ◌∙◌, sym, ap, subst, List, map}
use Rattle.std.specs.Prelude.{Some, option_map}
use Rattle.affine_program.specs.Parts.{meaning}
use Rattle.reuse_paths.specs.declared.family.FamilyNode.{FamilyNode}
use Rattle.reuse_paths.specs.Families.{CreditedNest, FamilyForms, NodeForms, boxed_node, credit_of, family_of, node_of}
use Rattle.reuse_paths.specs.FamilyClaims.{family_setting}
use Rattle.reuse_paths.specs.FamilyFits.{NodeFits}
use Rattle.dep_quast.specs.Quasts.{trees_of}
use Rattle.reuse_paths.specs.WalkFits.{RegionFits}
use Rattle.reuse_paths.specs.WalkSettings.{WalkSetting}
use Rattle.reuse_paths.specs.WalkViews.{walk_of, ReadingFits}
use Rattle.reuse_paths.proofs.family_shown.node_shown.Goals as goal

pub region_shown-requires-clause-fits : goal.region_shown-requires-clause-fits
region_shown-requires-clause-fits c =
    let program = meaning c.args.program.now in
    let trees = trees_of c.args.quasts.now in
    let credits : List CreditedNest = map credit_of c.args.credits.now in
    let family : FamilyForms = family_of c.args.family.now in
    let node : NodeForms = boxed_node c.in-Some.node in
    let is : walk_of c.walking_from-walking.result ≡ family_setting program trees credits family node.label =
    c.walking_from-walking.ensures.setting ∙ ap (family_setting program trees credits family) (c.as_slice-label.ensures.value ∙ ap (λ (n : FamilyNode). n.label.items) c.deref.ensures) in
    subst (λ (w : WalkSetting). ReadingFits w c.args.statement) (sym is) (c.requires.fits node (ap (option_map boxed_node) c.in-Some.is))

pub region_shown-requires-clause-region_fits : goal.region_shown-requires-clause-region_fits
region_shown-requires-clause-region_fits c =
    let program = meaning c.args.program.now in
    let trees = trees_of c.args.quasts.now in
    let credits : List CreditedNest = map credit_of c.args.credits.now in
    let family : FamilyForms = family_of c.args.family.now in
    let node : NodeForms = boxed_node c.in-Some.node in
    let is : walk_of c.walking_from-walking.result ≡ family_setting program trees credits family node.label =
    c.walking_from-walking.ensures.setting ∙ ap (family_setting program trees credits family) (c.as_slice-label.ensures.value ∙ ap (λ (n : FamilyNode). n.label.items) c.deref.ensures) in
    let fits : NodeFits program trees credits family c.args.statement (Some node) = subst (NodeFits program trees credits family c.args.statement) (ap (option_map boxed_node) c.in-Some.is) c.requires.region_fits in
    subst (λ (n : FamilyNode). RegionFits (walk_of c.walking_from-walking.result) c.args.statement (node_of n).region) (sym c.deref-2.ensures)
    (subst (λ (w : WalkSetting). RegionFits w c.args.statement node.region) (sym is) fits)
