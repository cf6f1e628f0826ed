use Rattle.std.specs.Prelude.{codes}
use Rattle.std.proofs.Common.{rules, ◌≡◌, ◌∙◌, sym, ap, subst, List, [], ◌∷◌}
use Rattle.claims.specs.Claims.{Claim, AllHold, IsRefusal, numbered}
use Rattle.claims.specs.declared.place.Step.{Step}
use Rattle.claims.specs.declared.place.Step.TheVariants.{Key}
use Rattle.claims.specs.declared.refused.Refused.{Refused}
use Rattle.claims.proofs.Found.{refused-first, refused-later}
use Rattle.claims.proofs.Laws.{AllHold-append}
use Rattle.affine_program.specs.Parts.{meaning}
use Rattle.reuse_paths.specs.Families.{FamilyForms, family_of}
use Rattle.reuse_paths.specs.FamilyClaims.{family_setting, start_rows}
use Rattle.reuse_paths.specs.FewContexts.{few_contexts, few_region, few_walk, ReadersFit, RegionsTakeFit, TakesFit}
use Rattle.dep_quast.specs.Quasts.{trees_of}
use Rattle.reuse_paths.specs.WalkSettings.{WalkSetting, region_context}
use Rattle.reuse_paths.specs.WalkViews.{walk_of, SettingFits}
use Rattle.reuse_paths.proofs.ToldFamilies.{all-take, readers-fit, setting-fits, start-takes}
use Rattle.reuse_paths.proofs.family_footprint.family_pieces.Goals as goal

pub push_start-requires-clause-readers : goal.push_start-requires-clause-readers
push_start-requires-clause-readers c =
    let program = meaning c.args.program.now in
    let trees = trees_of c.args.quasts.now in
    let family : FamilyForms = family_of c.args.family.now in
    let is : walk_of c.walking_from-walking.result ≡ family_setting program trees [] family family.start_label = c.walking_from-walking.ensures.setting ∙ ap (family_setting program trees [] family) c.as_slice-label.ensures.value in
    let some = c.requires.fits in
    subst (λ (w : WalkSetting). ReadersFit w c.args.statement) (sym is) (readers-fit program trees some.1.0 family c.args.statement c.args.nest.now some.0 c.requires.trees_fit some.1.1)

pub push_start-requires-clause-walk_fits : goal.push_start-requires-clause-walk_fits
push_start-requires-clause-walk_fits c =
    let program = meaning c.args.program.now in
    let trees = trees_of c.args.quasts.now in
    let family : FamilyForms = family_of c.args.family.now in
    let is : walk_of c.walking_from-walking.result ≡ family_setting program trees [] family family.start_label = c.walking_from-walking.ensures.setting ∙ ap (family_setting program trees [] family) c.as_slice-label.ensures.value in
    let some = c.requires.fits in
    subst (λ (w : WalkSetting). TakesFit w c.args.statement family.start) (sym is) (start-takes program trees some.1.0 family c.args.statement c.args.nest.now some.0 c.requires.trees_fit some.1.1)

pub push_regions-requires-clause-setting : goal.push_regions-requires-clause-setting
push_regions-requires-clause-setting c =
    let program = meaning c.args.program.now in
    let trees = trees_of c.args.quasts.now in
    let family : FamilyForms = family_of c.args.family.now in
    let is : walk_of c.walking_from-walking.result ≡ family_setting program trees [] family family.start_label = c.walking_from-walking.ensures.setting ∙ ap (family_setting program trees [] family) c.as_slice-label.ensures.value in
    let some = c.requires.fits in
    subst SettingFits (sym is) (setting-fits program trees some.1.0 family c.args.statement c.args.nest.now some.0 c.requires.trees_fit some.1.1)

pub push_regions-requires-clause-take : goal.push_regions-requires-clause-take
push_regions-requires-clause-take c =
    let program = meaning c.args.program.now in
    let trees = trees_of c.args.quasts.now in
    let family : FamilyForms = family_of c.args.family.now in
    let is : walk_of c.walking_from-walking.result ≡ family_setting program trees [] family family.start_label = c.walking_from-walking.ensures.setting ∙ ap (family_setting program trees [] family) c.as_slice-label.ensures.value in
    let some = c.requires.fits in
    subst (λ (w : WalkSetting). RegionsTakeFit w 0 w.nodes) (sym is) (all-take program trees some.1.0 family c.args.statement c.args.nest.now some.0 c.requires.trees_fit some.1.1)

pub returns-in_err-push_start-clause-refused : goal.returns-in_err-push_start-clause-refused
returns-in_err-push_start-clause-refused c =
    let program = meaning c.args.program.now in
    let trees = trees_of c.args.quasts.now in
    let family : FamilyForms = family_of c.args.family.now in
    let walk : WalkSetting = family_setting program trees [] family family.start_label in
    let is : walk_of c.walking_from-walking.result ≡ walk = c.walking_from-walking.ensures.setting ∙ ap (family_setting program trees [] family) c.as_slice-label.ensures.value in
    let start : WalkSetting → List Claim = λ w. few_walk w c.args.statement (Key (codes "start") ∷ Key (codes "tree") ∷ []) (region_context w c.args.statement (start_rows w c.args.statement c.args.nest.now)) family.start in
    let r : Refused = c.in_err-push_start.field-0.0 in
    let refused : IsRefusal (few_contexts program trees c.args.statement c.args.nest.now family []) r =
    refused-first (start walk) (numbered (few_region walk (Key (codes "nodes") ∷ [])) 0 walk.nodes) r (subst (λ (w : WalkSetting). IsRefusal (start w) r) is c.in_err-push_start.ensures.refused) in
    search rules

pub returns-in_err-push_regions-clause-refused : goal.returns-in_err-push_regions-clause-refused
returns-in_err-push_regions-clause-refused c =
    let program = meaning c.args.program.now in
    let trees = trees_of c.args.quasts.now in
    let family : FamilyForms = family_of c.args.family.now in
    let walk : WalkSetting = family_setting program trees [] family family.start_label in
    let is : walk_of c.walking_from-walking.result ≡ walk = c.walking_from-walking.ensures.setting ∙ ap (family_setting program trees [] family) c.as_slice-label.ensures.value in
    let start : WalkSetting → List Claim = λ w. few_walk w c.args.statement (Key (codes "start") ∷ Key (codes "tree") ∷ []) (region_context w c.args.statement (start_rows w c.args.statement c.args.nest.now)) family.start in
    let nodes : WalkSetting → List Step → List Claim = λ w place. numbered (few_region w place) 0 w.nodes in
    let r : Refused = c.in_err-push_regions.field-0.0 in
    let refused : IsRefusal (few_contexts program trees c.args.statement c.args.nest.now family []) r =
    refused-later (start walk) (nodes walk (Key (codes "nodes") ∷ [])) r (subst (λ (w : WalkSetting). AllHold (start w)) is c.in_ok-push_start.ensures.few)
    (subst (λ (w : WalkSetting). IsRefusal (nodes w (Key (codes "nodes") ∷ [])) r) is
    (subst (λ (place : List Step). IsRefusal (nodes (walk_of c.walking_from-walking.result) place) r) c.in_ok-list.ensures c.in_err-push_regions.ensures.refused)) in
    search rules

pub returns-clause-few : goal.returns-clause-few
returns-clause-few c =
    let program = meaning c.args.program.now in
    let trees = trees_of c.args.quasts.now in
    let family : FamilyForms = family_of c.args.family.now in
    let walk : WalkSetting = family_setting program trees [] family family.start_label in
    let is : walk_of c.walking_from-walking.result ≡ walk = c.walking_from-walking.ensures.setting ∙ ap (family_setting program trees [] family) c.as_slice-label.ensures.value in
    let start : WalkSetting → List Claim = λ w. few_walk w c.args.statement (Key (codes "start") ∷ Key (codes "tree") ∷ []) (region_context w c.args.statement (start_rows w c.args.statement c.args.nest.now)) family.start in
    let nodes : WalkSetting → List Step → List Claim = λ w place. numbered (few_region w place) 0 w.nodes in
    AllHold-append (start walk) (nodes walk (Key (codes "nodes") ∷ [])) (subst (λ (w : WalkSetting). AllHold (start w)) is c.in_ok-push_start.ensures.few)
    (subst (λ (w : WalkSetting). AllHold (nodes w (Key (codes "nodes") ∷ []))) is
    (subst (λ (place : List Step). AllHold (nodes (walk_of c.walking_from-walking.result) place)) c.in_ok-list.ensures c.in_ok-push_regions.ensures.few))
