use Rattle.std.proofs.Common.{◌≡◌, ◌∙◌, subst, ℕ, ◌≤◌, List, [], arith}
use Rattle.std.proofs.lemmas.List.{length-map}
use Rattle.iolb_model.specs.Form.{AffineForm}
use Rattle.affine_form.specs.System.{AllOver}
use Rattle.affine_program.specs.Domain.{depth_of}
use Rattle.affine_program.specs.Parts.{statement_of}
use Rattle.claims.specs.Claims.{Claim, IsRefusal}
use Rattle.claims.specs.declared.place.Step.{Step}
use Rattle.claims.specs.declared.refused.Refused.{Refused}
use Rattle.claims.proofs.Laws.{accepted-stand}
use Rattle.dep_quast.proofs.Fits.{depth-few, read-over}
use Rattle.dep_quast.specs.Trees.{read_of}
use Rattle.reuse_paths.specs.FewContexts.{few_walk}
use Rattle.reuse_paths.specs.WalkSettings.{region_context, region_variables}
use Rattle.reuse_paths.specs.Walks.{tree_of_walk}
use Rattle.reuse_paths.specs.WalkViews.{walk_of}
use Rattle.reuse_paths.proofs.PiecesFit.{context-begins, walk-fits}
use Rattle.iolb_model.specs.declared.limits.TheConstants.{NEST_VARIABLES}
use Rattle.joint_partition.proofs.walk_pushed.push_region.Goals as goal

pub returns-in-Ok-clause-fit : goal.returns-in-Ok-clause-fit
returns-in-Ok-clause-fit c =
    let walk = walk_of c.args.walking.now in
    let parts = c.args.walking.now.program.now in
    let s : ℕ = c.args.statement in
    let rows : List AffineForm = region_context walk s c.args.own.now in
    let over : AllOver (region_variables walk s) rows = subst (AllOver (region_variables walk s)) c.in_ok-all.ensures.rows c.in_ok-all.ensures.over in
    let few : depth_of walk.program s ≤ NEST_VARIABLES = depth-few parts c.params-params.ensures.kept s (omega (arith, length-map parts.statements statement_of, c.requires.readers.there)) in
    walk-fits walk s c.requires.flat few (λ read there. read-over parts c.params-params.ensures.kept (read_of s read) there) c.requires.readers.setting.trees rows over
    (context-begins walk s c.requires.flat few c.args.own.now c.params-params.ensures.kept.well_formed.assumptions) (tree_of_walk c.args.tree.now) c.requires.takes

pub unreachable-requires : goal.unreachable-requires
unreachable-requires c =
    let walk = walk_of c.args.walking.now in
    let s : ℕ = c.args.statement in
    let rows : List AffineForm = region_context walk s c.args.own.now in
    let tree = tree_of_walk c.args.tree.now in
    let claims : List Claim = few_walk walk s [] rows tree in
    let there : c.new-place.result ≡ [] = c.new-place.ensures ∙ c.new.ensures.items in
    let is : c.as_slice-rows.result.now ≡ rows = c.as_slice-rows.ensures.value ∙ c.in_ok-all.ensures.rows in
    accepted-stand claims c.in-Err-Failed.field-0-0 c.requires.few
    (subst (λ (r : Refused). IsRefusal claims r) c.in-Err-Failed.field-0-is
    (subst (λ (forms : List AffineForm). IsRefusal (few_walk walk s [] forms tree) c.in-Err-Failed.field-0) is
    (subst (λ (place : List Step). IsRefusal (few_walk walk s place c.as_slice-rows.result.now tree) c.in-Err-Failed.field-0) there c.in-Err-Failed.ensures.refused)))
