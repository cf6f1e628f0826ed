use Rattle.std.proofs.Common.{◌≡◌, ◌∙◌, sym, ap, subst, ℕ, ◌+◌, List, [], ◌++◌, length, Vec, Global}
use Rattle.std.specs.Prelude.{OnOk, Option, Some, option_map}
use Rattle.std.specs.List.{AllByRecursion}
use Rattle.base_laws.proofs.Lists.{All-weaken}
use Rattle.iolb_model.specs.Form.{AffineForm}
use Rattle.affine_form.specs.Form.{variables}
use Rattle.affine_form.specs.Rows.{IsSmallOver}
use Rattle.affine_form.specs.System.{AllOver}
use Rattle.affine_program.specs.Domain.{depth_of}
use Rattle.affine_program.specs.Parts.{meaning}
use Rattle.claims.specs.Claims.{AllHold}
use Rattle.dep_quast.specs.Quasts.{trees_of}
use Rattle.footprint_pieces.specs.Pieces.{FootprintPiece, PieceFits, pieces_of}
use Rattle.reuse_paths.specs.declared.walk.Region.{Region}
use Rattle.reuse_paths.specs.Families.{FamilyForms, boxed_forms, node_region}
use Rattle.reuse_paths.specs.FamilyClaims.{family_setting}
use Rattle.reuse_paths.specs.FamilyFits.{NodeFits}
use Rattle.reuse_paths.specs.FamilyPieces.{region_pieces}
use Rattle.reuse_paths.specs.FewContexts.{few_walk, ReadersFit, TakesFit}
use Rattle.reuse_paths.specs.WalkFits.{IsLabel, IsLabelIf, RegionFits}
use Rattle.reuse_paths.specs.WalkPieces.{walk_pieces}
use Rattle.reuse_paths.specs.WalkSettings.{WalkSetting, region_context, region_variables}
use Rattle.reuse_paths.specs.WalkViews.{walk_of}
use Rattle.reuse_paths.specs.Walks.{WalkRegion, WalkTree, boxed_region, tree_of_walk}
use Rattle.reuse_paths.proofs.FamilyCover.{same-pieces}
use Rattle.reuse_paths.proofs.ToldFamilies.{takes-fit}
use Rattle.joint_partition.specs.JointPieces.{HasNodePieces}
use Rattle.joint_partition.specs.Term.{credited_nests, way_node, way_walks}
use Rattle.joint_partition.specs.View.{family_of, joint_of, way_of}
use Rattle.joint_partition.proofs.PlainSettings.{plain-fits}
use Rattle.joint_partition.proofs.pieces.push_node.Goals as goal

pub push_region-requires-clause-readers : goal.push_region-requires-clause-readers
push_region-requires-clause-readers c =
    let program = meaning c.args.program.now in
    let trees = trees_of c.args.quasts.now in
    let term = joint_of c.args.term.now in
    let family = family_of c.args.family.now in
    let way = way_of c.args.way.now in
    let s : ℕ = c.args.statement in
    let label : List AffineForm = boxed_forms c.in-Some.label in
    let region : WalkRegion = boxed_region c.in-Some-region.region in
    let walk : WalkSetting = family_setting program trees [] (way_walks family way) label in
    let held : c.as_slice-reader.result.now ≡ label = c.as_slice-reader.ensures.value ∙ ap (λ (forms : Vec AffineForm Global). forms.items) c.deref.ensures in
    let is : walk_of c.walking_in-walking.result ≡ walk = c.walking_in-walking.ensures.setting ∙ (λ i. family_setting program trees [] (way_walks family way) (held i)) in
    let some : option_map boxed_forms c.args.label.now ≡ Some label = ap (option_map boxed_forms) c.in-Some.is in
    let there : option_map boxed_region c.args.region.now ≡ Some region = ap (option_map boxed_region) c.in-Some-region.is in
    let rows : c.as_slice-rows.result.now ≡ region.rows = c.as_slice-rows.ensures.value ∙ ap (λ (r : Region). r.rows.items) c.deref-2.ensures in
    let tree : tree_of_walk c.deref-3.result.now.tree ≡ region.tree = ap (λ (r : Region). tree_of_walk r.tree) c.deref-3.ensures in
    let vars : ℕ = length program.parameters + depth_of program s in
    let fits : IsLabel (length family.set) vars label = subst (IsLabelIf (length family.set) vars) some c.requires.label in
    subst (λ (w : WalkSetting). ReadersFit w s) (sym is)
    (record { setting = plain-fits program trees term family way c.requires.term.trees_fit c.requires.term.credits c.requires.family c.requires.way label fits.each; there = c.requires.there })

pub push_region-requires-clause-own_over : goal.push_region-requires-clause-own_over
push_region-requires-clause-own_over c =
    let program = meaning c.args.program.now in
    let trees = trees_of c.args.quasts.now in
    let term = joint_of c.args.term.now in
    let family = family_of c.args.family.now in
    let way = way_of c.args.way.now in
    let s : ℕ = c.args.statement in
    let label : List AffineForm = boxed_forms c.in-Some.label in
    let region : WalkRegion = boxed_region c.in-Some-region.region in
    let walk : WalkSetting = family_setting program trees [] (way_walks family way) label in
    let held : c.as_slice-reader.result.now ≡ label = c.as_slice-reader.ensures.value ∙ ap (λ (forms : Vec AffineForm Global). forms.items) c.deref.ensures in
    let is : walk_of c.walking_in-walking.result ≡ walk = c.walking_in-walking.ensures.setting ∙ (λ i. family_setting program trees [] (way_walks family way) (held i)) in
    let some : option_map boxed_forms c.args.label.now ≡ Some label = ap (option_map boxed_forms) c.in-Some.is in
    let there : option_map boxed_region c.args.region.now ≡ Some region = ap (option_map boxed_region) c.in-Some-region.is in
    let rows : c.as_slice-rows.result.now ≡ region.rows = c.as_slice-rows.ensures.value ∙ ap (λ (r : Region). r.rows.items) c.deref-2.ensures in
    let tree : tree_of_walk c.deref-3.result.now.tree ≡ region.tree = ap (λ (r : Region). tree_of_walk r.tree) c.deref-3.ensures in
    let own : RegionFits (family_setting program trees (credited_nests term) (way_walks family way) label) s (Some region) =
    subst (λ (r : Option WalkRegion). NodeFits program trees (credited_nests term) (way_walks family way) s (option_map (way_node r) (Some label))) there
    (subst (λ (l : Option (List AffineForm)). NodeFits program trees (credited_nests term) (way_walks family way) s (option_map (way_node (option_map boxed_region c.args.region.now)) l)) some c.requires.region) in
    let vars : ℕ = region_variables walk s in
    let over : AllOver vars region.rows = All-weaken (IsSmallOver vars) (λ (form : AffineForm). variables form ≡ vars) region.rows (λ form h. h.over) own.0 in
    subst (λ (w : WalkSetting). AllOver (region_variables w s) c.as_slice-rows.result.now) (sym is) (subst (AllOver vars) (sym rows) over)

pub push_region-requires-clause-takes : goal.push_region-requires-clause-takes
push_region-requires-clause-takes c =
    let program = meaning c.args.program.now in
    let trees = trees_of c.args.quasts.now in
    let term = joint_of c.args.term.now in
    let family = family_of c.args.family.now in
    let way = way_of c.args.way.now in
    let s : ℕ = c.args.statement in
    let label : List AffineForm = boxed_forms c.in-Some.label in
    let region : WalkRegion = boxed_region c.in-Some-region.region in
    let walk : WalkSetting = family_setting program trees [] (way_walks family way) label in
    let held : c.as_slice-reader.result.now ≡ label = c.as_slice-reader.ensures.value ∙ ap (λ (forms : Vec AffineForm Global). forms.items) c.deref.ensures in
    let is : walk_of c.walking_in-walking.result ≡ walk = c.walking_in-walking.ensures.setting ∙ (λ i. family_setting program trees [] (way_walks family way) (held i)) in
    let some : option_map boxed_forms c.args.label.now ≡ Some label = ap (option_map boxed_forms) c.in-Some.is in
    let there : option_map boxed_region c.args.region.now ≡ Some region = ap (option_map boxed_region) c.in-Some-region.is in
    let rows : c.as_slice-rows.result.now ≡ region.rows = c.as_slice-rows.ensures.value ∙ ap (λ (r : Region). r.rows.items) c.deref-2.ensures in
    let tree : tree_of_walk c.deref-3.result.now.tree ≡ region.tree = ap (λ (r : Region). tree_of_walk r.tree) c.deref-3.ensures in
    let own : RegionFits (family_setting program trees (credited_nests term) (way_walks family way) label) s (Some region) =
    subst (λ (r : Option WalkRegion). NodeFits program trees (credited_nests term) (way_walks family way) s (option_map (way_node r) (Some label))) there
    (subst (λ (l : Option (List AffineForm)). NodeFits program trees (credited_nests term) (way_walks family way) s (option_map (way_node (option_map boxed_region c.args.region.now)) l)) some c.requires.region) in
    let walks : FamilyForms = record (way_walks family way) { start_label = label } in
    subst (λ (w : WalkSetting). TakesFit w s (tree_of_walk c.deref-3.result.now.tree)) (sym is)
    (subst (TakesFit walk s) (sym tree) (takes-fit program trees (credited_nests term) walks label s region.tree own.1))

pub push_region-requires-clause-few : goal.push_region-requires-clause-few
push_region-requires-clause-few c =
    let program = meaning c.args.program.now in
    let trees = trees_of c.args.quasts.now in
    let term = joint_of c.args.term.now in
    let family = family_of c.args.family.now in
    let way = way_of c.args.way.now in
    let s : ℕ = c.args.statement in
    let label : List AffineForm = boxed_forms c.in-Some.label in
    let region : WalkRegion = boxed_region c.in-Some-region.region in
    let walk : WalkSetting = family_setting program trees [] (way_walks family way) label in
    let held : c.as_slice-reader.result.now ≡ label = c.as_slice-reader.ensures.value ∙ ap (λ (forms : Vec AffineForm Global). forms.items) c.deref.ensures in
    let is : walk_of c.walking_in-walking.result ≡ walk = c.walking_in-walking.ensures.setting ∙ (λ i. family_setting program trees [] (way_walks family way) (held i)) in
    let some : option_map boxed_forms c.args.label.now ≡ Some label = ap (option_map boxed_forms) c.in-Some.is in
    let there : option_map boxed_region c.args.region.now ≡ Some region = ap (option_map boxed_region) c.in-Some-region.is in
    let rows : c.as_slice-rows.result.now ≡ region.rows = c.as_slice-rows.ensures.value ∙ ap (λ (r : Region). r.rows.items) c.deref-2.ensures in
    let tree : tree_of_walk c.deref-3.result.now.tree ≡ region.tree = ap (λ (r : Region). tree_of_walk r.tree) c.deref-3.ensures in
    let few : AllHold (few_walk walk s [] (region_context walk s region.rows) region.tree) =
    subst (λ (r : Option WalkRegion). HasNodePieces program trees (way_walks family way) s (option_map (way_node r) (Some label))) there
    (subst (λ (l : Option (List AffineForm)). HasNodePieces program trees (way_walks family way) s (option_map (way_node (option_map boxed_region c.args.region.now)) l)) some c.requires.few) in
    subst (λ (w : WalkSetting). AllHold (few_walk w s [] (region_context w s c.as_slice-rows.result.now) (tree_of_walk c.deref-3.result.now.tree))) (sym is)
    (subst (λ (t : WalkTree). AllHold (few_walk walk s [] (region_context walk s c.as_slice-rows.result.now) t)) (sym tree)
    (subst (λ (r : List AffineForm). AllHold (few_walk walk s [] (region_context walk s r) region.tree)) (sym rows) few))

pub returns-clause-pieces : goal.returns-clause-pieces
returns-clause-pieces c =
    let program = meaning c.args.program.now in
    let trees = trees_of c.args.quasts.now in
    let term = joint_of c.args.term.now in
    let family = family_of c.args.family.now in
    let way = way_of c.args.way.now in
    let s : ℕ = c.args.statement in
    let label : List AffineForm = boxed_forms c.in-Some.label in
    let region : WalkRegion = boxed_region c.in-Some-region.region in
    let walk : WalkSetting = family_setting program trees [] (way_walks family way) label in
    let held : c.as_slice-reader.result.now ≡ label = c.as_slice-reader.ensures.value ∙ ap (λ (forms : Vec AffineForm Global). forms.items) c.deref.ensures in
    let is : walk_of c.walking_in-walking.result ≡ walk = c.walking_in-walking.ensures.setting ∙ (λ i. family_setting program trees [] (way_walks family way) (held i)) in
    let some : option_map boxed_forms c.args.label.now ≡ Some label = ap (option_map boxed_forms) c.in-Some.is in
    let there : option_map boxed_region c.args.region.now ≡ Some region = ap (option_map boxed_region) c.in-Some-region.is in
    let rows : c.as_slice-rows.result.now ≡ region.rows = c.as_slice-rows.ensures.value ∙ ap (λ (r : Region). r.rows.items) c.deref-2.ensures in
    let tree : tree_of_walk c.deref-3.result.now.tree ≡ region.tree = ap (λ (r : Region). tree_of_walk r.tree) c.deref-3.ensures in
    let bare : WalkSetting = family_setting program trees [] (way_walks family way) [] in
    let same : walk_pieces walk s (region_context walk s c.as_slice-rows.result.now) (tree_of_walk c.deref-3.result.now.tree)
    ≡ region_pieces bare s (node_region (option_map (way_node (option_map boxed_region c.args.region.now)) (option_map boxed_forms c.args.label.now))) =
    (λ i. walk_pieces walk s (region_context walk s (rows i)) (tree i))
    ∙ same-pieces program trees (way_walks family way) [] [] label [] s (region_context walk s region.rows) region.tree
    ∙ sym (λ i. region_pieces bare s (node_region (option_map (way_node (there i)) (some i)))) in
    subst (λ (told : List FootprintPiece). OnOk c.push_region.result (pieces_of c.push_region.new.pieces ≡ pieces_of c.args.pieces.now ++ told)) same
    (subst (λ (w : WalkSetting). OnOk c.push_region.result (pieces_of c.push_region.new.pieces ≡ pieces_of c.args.pieces.now ++ walk_pieces w s (region_context w s c.as_slice-rows.result.now) (tree_of_walk c.deref-3.result.now.tree))) is
    c.push_region.ensures.pieces)

pub returns-clause-fit : goal.returns-clause-fit
returns-clause-fit c =
    let program = meaning c.args.program.now in
    let trees = trees_of c.args.quasts.now in
    let term = joint_of c.args.term.now in
    let family = family_of c.args.family.now in
    let way = way_of c.args.way.now in
    let s : ℕ = c.args.statement in
    let label : List AffineForm = boxed_forms c.in-Some.label in
    let region : WalkRegion = boxed_region c.in-Some-region.region in
    let walk : WalkSetting = family_setting program trees [] (way_walks family way) label in
    let held : c.as_slice-reader.result.now ≡ label = c.as_slice-reader.ensures.value ∙ ap (λ (forms : Vec AffineForm Global). forms.items) c.deref.ensures in
    let is : walk_of c.walking_in-walking.result ≡ walk = c.walking_in-walking.ensures.setting ∙ (λ i. family_setting program trees [] (way_walks family way) (held i)) in
    let some : option_map boxed_forms c.args.label.now ≡ Some label = ap (option_map boxed_forms) c.in-Some.is in
    let there : option_map boxed_region c.args.region.now ≡ Some region = ap (option_map boxed_region) c.in-Some-region.is in
    let rows : c.as_slice-rows.result.now ≡ region.rows = c.as_slice-rows.ensures.value ∙ ap (λ (r : Region). r.rows.items) c.deref-2.ensures in
    let tree : tree_of_walk c.deref-3.result.now.tree ≡ region.tree = ap (λ (r : Region). tree_of_walk r.tree) c.deref-3.ensures in
    let bare : WalkSetting = family_setting program trees [] (way_walks family way) [] in
    let same : walk_pieces walk s (region_context walk s c.as_slice-rows.result.now) (tree_of_walk c.deref-3.result.now.tree)
    ≡ region_pieces bare s (node_region (option_map (way_node (option_map boxed_region c.args.region.now)) (option_map boxed_forms c.args.label.now))) =
    (λ i. walk_pieces walk s (region_context walk s (rows i)) (tree i))
    ∙ same-pieces program trees (way_walks family way) [] [] label [] s (region_context walk s region.rows) region.tree
    ∙ sym (λ i. region_pieces bare s (node_region (option_map (way_node (there i)) (some i)))) in
    subst (λ (told : List FootprintPiece). OnOk c.push_region.result (AllByRecursion (PieceFits program) told)) same
    (subst (λ (w : WalkSetting). OnOk c.push_region.result (AllByRecursion (PieceFits w.program) (walk_pieces w s (region_context w s c.as_slice-rows.result.now) (tree_of_walk c.deref-3.result.now.tree)))) is
    c.push_region.ensures.fit)
