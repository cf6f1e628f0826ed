use Rattle.std.proofs.Common.{◌≡◌, ◌∙◌, sym, ap, subst, arith, ℕ, List, ◌≤◌}
use Rattle.std.specs.Prelude.{Option, Some, option_map}
use Rattle.std.specs.List.{AllByRecursion}
use Rattle.std.proofs.lemmas.List.{length-map}
use Rattle.iolb_model.specs.Form.{AffineForm}
use Rattle.affine_form.specs.System.{AllOver}
use Rattle.affine_program.specs.Domain.{depth_of}
use Rattle.affine_program.specs.Parts.{statement_of}
use Rattle.claims.specs.Claims.{AllHold}
use Rattle.claims.proofs.Found.{IfOk-then}
use Rattle.dep_quast.proofs.Fits.{depth-few, read-over}
use Rattle.reuse_paths.specs.declared.family.FamilyNode.{FamilyNode}
use Rattle.reuse_paths.specs.declared.walk.Region.{Region}
use Rattle.reuse_paths.specs.Families.{boxed_node, node_region}
use Rattle.reuse_paths.specs.FamilyPieces.{region_pieces}
use Rattle.reuse_paths.specs.FewContexts.{few_walk, RegionTakesFit}
use Rattle.footprint_pieces.specs.Pieces.{PieceFits}
use Rattle.dep_quast.specs.Trees.{read_of}
use Rattle.reuse_paths.specs.WalkPieces.{walk_pieces}
use Rattle.reuse_paths.specs.WalkSettings.{region_context, region_variables}
use Rattle.reuse_paths.specs.Walks.{WalkRegion, boxed_region, region_of, tree_of_walk}
use Rattle.reuse_paths.specs.WalkViews.{walk_of}
use Rattle.reuse_paths.proofs.PiecesFit.{context-begins, walk-fits}
use Rattle.reuse_paths.proofs.family_footprint.push_region.Goals as goal
use Rattle.iolb_model.specs.declared.limits.TheConstants.{NEST_VARIABLES}

pub returns-clause-fit : goal.returns-clause-fit
returns-clause-fit c =
    let walk = walk_of c.args.walking.now in
    let parts = c.args.walking.now.program.now in
    let s : ℕ = c.args.statement in
    let region : WalkRegion = boxed_region c.in-Some-region.region in
    let held : node_region (option_map boxed_node c.args.node.now) ≡ Some region =
    ap (λ held. node_region (option_map boxed_node held)) c.in-Some.is
    ∙ ap (λ (n : FamilyNode). option_map boxed_region n.region) (sym c.deref.ensures)
    ∙ ap (option_map boxed_region) c.in-Some-region.is in
    let takes : RegionTakesFit walk s (Some region) = subst (RegionTakesFit walk s) held c.requires.takes in
    let rows : List AffineForm = region_context walk s region.rows in
    let is : c.in_ok-rows.rows.items ≡ rows = c.in_ok-rows.ensures.rows ∙ ap (region_context walk s) c.as_slice.ensures.value ∙ ap (λ (r : Region). region_context walk s r.rows.items) c.deref-2.ensures in
    let over : AllOver (region_variables walk s) rows = subst (AllOver (region_variables walk s)) is c.in_ok-rows.ensures.over in
    let few : depth_of walk.program s ≤ NEST_VARIABLES = depth-few parts c.params-params.ensures.kept s (omega (arith, length-map parts.statements statement_of, c.requires.readers.there)) in
    let fits : AllByRecursion (PieceFits walk.program) (walk_pieces walk s rows region.tree) =
    walk-fits walk s c.requires.flat few (λ read there. read-over parts c.params-params.ensures.kept (read_of s read) there) c.requires.readers.setting.trees rows over
    (context-begins walk s c.requires.flat few region.rows c.params-params.ensures.kept.well_formed.assumptions) region.tree takes.1 in
    let all : AllByRecursion (PieceFits walk.program) (region_pieces walk s (node_region (option_map boxed_node c.args.node.now))) =
    subst (λ (r : Option WalkRegion). AllByRecursion (PieceFits walk.program) (region_pieces walk s r)) (sym held) fits in
    IfOk-then c.push_walk.result (λ _. AllHold (few_walk walk s c.in_ok-place.place c.as_slice-2.result.now (tree_of_walk c.deref-3.result.now.tree)))
    (λ _. AllByRecursion (PieceFits walk.program) (region_pieces walk s (node_region (option_map boxed_node c.args.node.now)))) c.push_walk.ensures.few (λ _ _. all)
