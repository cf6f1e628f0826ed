-- The pieces of a joint term's families have the targets that are told without their claims.
use Rattle.std.proofs.Common.{Bool, true, false, cond, ◌≡◌, refl, ◌∙◌, ap, List, [], ◌∷◌, ◌++◌, length, map, arith}
use Rattle.std.specs.Prelude.{Option, ◌==◌, flat_map, not}
use Rattle.std.specs.List.{AllByRecursion}
use Rattle.std.proofs.lemmas.List.{length-append, map-append}
use Rattle.base_laws.proofs.Lists.{cons-same}
use Rattle.iolb_model.specs.Form.{AffineForm}
use Rattle.iolb_model.specs.Program.{AffineProgram}
use Rattle.dep_quast.specs.Tree.{SelectionTree}
use Rattle.footprint_pieces.specs.declared.piece.Target.{Target}
use Rattle.footprint_pieces.specs.DisjointClaims.{systems_with_lists}
use Rattle.footprint_pieces.specs.Pieces.{FootprintPiece}
use Rattle.footprint_pieces.specs.TargetPairs.{same_in_lists}
use Rattle.footprint_pieces.proofs.PairCounts.{lists-many, targets_of}
use Rattle.reuse_paths.specs.Families.{node_region}
use Rattle.reuse_paths.specs.FamilyClaims.{family_setting, start_rows}
use Rattle.reuse_paths.specs.WalkSettings.{WalkSetting, region_context}
use Rattle.reuse_paths.specs.Walks.{WalkRegion}
use Rattle.joint_partition.specs.Claims.{family_pieces, group_systems, of_other_groups, setting_of, start_pieces, way_pieces}
use Rattle.joint_partition.specs.FamiliesFit.{FitsFamily, StartsFit, WayFits}
use Rattle.joint_partition.specs.Term.{JointFamily, JointTerm, PartTerm, PartWalks, StartTerm, WayTerm, credited_nests, labels_of, part_walks, walks_from, way_nodes, way_walks}
use Rattle.joint_partition.proofs.WaySettings.{regions-have}
use Rattle.iolb_check.specs.FamilyTargets.{group_family_targets, regions_targets, starts_targets, walk_targets, way_targets}
use Rattle.iolb_check.specs.JointFit.{group_targets}
use Rattle.iolb_check.proofs.FamilyTargets.{are-there, regions-told, walk-told}

-- those of lists one after another
appended : (pieces others : List FootprintPiece) (one other : List Target) → targets_of pieces ≡ one → targets_of others ≡ other → targets_of (pieces ++ others) ≡ one ++ other
appended pieces others one other p q =
    map-append (λ (piece : FootprintPiece). piece.target) pieces others ∙ ap (λ (ts : List Target). ts ++ targets_of others) p ∙ ap (λ (ts : List Target). one ++ ts) q

module _ (program : AffineProgram) (trees : List (List SelectionTree)) (term : JointTerm) where
  module _ (family : JointFamily) where
    starts-told : (parts : List PartTerm) (starts : List StartTerm) → StartsFit program trees term family parts starts
        → targets_of (flat_map (start_pieces program trees) (part_walks family parts starts)) ≡ starts_targets program trees parts starts
    starts-told [] starts fits = refl
    starts-told (part ∷ parts) [] fits = refl
    starts-told (part ∷ parts) (start ∷ starts) fits =
        let from : PartWalks = walks_from family part start in
        let walk : WalkSetting = family_setting program trees [] from.walks from.walks.start_label in
        let rows : List AffineForm = region_context walk part.statement (start_rows walk part.statement part.nest) in
        appended (start_pieces program trees from) (flat_map (start_pieces program trees) (part_walks family parts starts)) (walk_targets program trees part.statement start.tree)
        (starts_targets program trees parts starts)
        (walk-told walk part.statement rows start.tree (are-there (setting_of program trees term from.walks from.walks.start_label) part.statement start.tree fits.0.walk))
        (starts-told parts starts fits.1)

    way-told : (way : WayTerm) → WayFits program trees term family way → targets_of (way_pieces program trees family way) ≡ way_targets program trees way
    way-told way fits =
        regions-told program trees (credited_nests term) (way_walks family way) (family_setting program trees [] (way_walks family way) []) refl refl 0 (way_walks family way).nodes fits.walks
        ∙ ap (regions_targets program trees 0) (regions-have (labels_of family way.labels).nodes way.regions fits.labeled)

    ways-told : (ways : List WayTerm) → AllByRecursion (WayFits program trees term family) ways
        → targets_of (flat_map (way_pieces program trees family) ways) ≡ flat_map (way_targets program trees) ways
    ways-told [] fits = refl
    ways-told (way ∷ ways) fits =
        appended (way_pieces program trees family way) (flat_map (way_pieces program trees family) ways) (way_targets program trees way) (flat_map (way_targets program trees) ways)
        (way-told way fits.0) (ways-told ways fits.1)

    family-told : FitsFamily program trees term family → targets_of (family_pieces program trees term family) ≡ group_family_targets program trees term.parts family
    family-told fits =
        appended (flat_map (start_pieces program trees) (part_walks family term.parts family.starts)) (flat_map (way_pieces program trees family) family.ways)
        (starts_targets program trees term.parts family.starts) (flat_map (way_targets program trees) family.ways) (starts-told term.parts family.starts fits.starts) (ways-told family.ways fits.ways)

  -- those of several families together
  pub joint-told : (families : List JointFamily) → AllByRecursion (FitsFamily program trees term) families
      → targets_of (flat_map (family_pieces program trees term) families) ≡ flat_map (group_family_targets program trees term.parts) families
  joint-told [] fits = refl
  joint-told (family ∷ families) fits =
      appended (family_pieces program trees term family) (flat_map (family_pieces program trees term) families) (group_family_targets program trees term.parts family)
      (flat_map (group_family_targets program trees term.parts) families) (family-told family fits.0) (joint-told families fits.1)

  -- those of families of other groups, each family's in a list
  others-told : (family : JointFamily) (families : List JointFamily) → AllByRecursion (FitsFamily program trees term) families
      → map targets_of (map (family_pieces program trees term) (of_other_groups family families)) ≡ map (group_family_targets program trees term.parts) (of_other_groups family families)
  others-told family [] fits = refl
  others-told family (other ∷ families) fits = by (others-told family families fits.1) (not (other.group == family.group)) where
    by : map targets_of (map (family_pieces program trees term) (of_other_groups family families)) ≡ map (group_family_targets program trees term.parts) (of_other_groups family families)
        → (b : Bool) → map targets_of (map (family_pieces program trees term) (cond b (other ∷ of_other_groups family families) (of_other_groups family families)))
        ≡ map (group_family_targets program trees term.parts) (cond b (other ∷ of_other_groups family families) (of_other_groups family families))
    by more true = cons-same _ _ _ _ (family-told other fits.0) more
    by more false = more

  -- there are as many systems as pairs of their targets
  pub groups-many : (families : List JointFamily) → AllByRecursion (FitsFamily program trees term) families
      → length (group_systems program trees term families) ≡ length (group_targets program trees term.parts families)
  groups-many [] fits = refl
  groups-many (family ∷ families) fits =
      let pieces : List FootprintPiece = family_pieces program trees term family in
      let others : List (List FootprintPiece) = map (family_pieces program trees term) (of_other_groups family families) in
      let told : List (List Target) = map (group_family_targets program trees term.parts) (of_other_groups family families) in
      let same : length (same_in_lists (targets_of pieces) (map targets_of others)) ≡ length (same_in_lists (group_family_targets program trees term.parts family) told) =
      ap (λ (ts : List Target). length (same_in_lists ts (map targets_of others))) (family-told family fits.0)
      ∙ ap (λ (lists : List (List Target)). length (same_in_lists (group_family_targets program trees term.parts family) lists)) (others-told family families fits.1) in
      omega (
        arith,
        length-append (systems_with_lists program pieces others) (group_systems program trees term families),
        lists-many program pieces others,
        same,
        length-append (same_in_lists (group_family_targets program trees term.parts family) told) (group_targets program trees term.parts families),
        groups-many families fits.1,
      )
