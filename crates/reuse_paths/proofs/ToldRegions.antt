-- The pieces of regions, region by region.
use Rattle.std.proofs.Common.{◌≡◌, sym, ◌∙◌, ap, subst, ℕ, zero, suc, ◌+◌, ◌<◌, ◌≤◌, List, [], ◌∷◌, ◌++◌, length, get_or, map, drop, append_assoc, arith}
use Rattle.std.specs.Global.{Global}
use Rattle.std.specs.Prelude.{Box, Option, option_map}
use Rattle.std.specs.List.{AllByRecursion}
use Rattle.std.proofs.lemmas.List.{append-nil, drop_all, get_or-map, length-map}
use Rattle.std.proofs.Math.Nat.{add-zero}
use Rattle.base_laws.proofs.Lists.{rest_at, add-one, All-append}
use Rattle.claims.proofs.Members.{suc-moved}
use Rattle.reuse_paths.specs.declared.family.FamilyNode.{FamilyNode}
use Rattle.reuse_paths.specs.Families.{boxed_node, node_region}
use Rattle.reuse_paths.specs.FamilyPieces.{region_pieces, regions_pieces}
use Rattle.reuse_paths.specs.FewContexts.{RegionTakesFit, RegionsTakeFit}
use Rattle.footprint_pieces.specs.Pieces.{FootprintPiece, PieceFits}
use Rattle.reuse_paths.specs.WalkSettings.{WalkSetting}
use Rattle.reuse_paths.specs.Walks.{WalkRegion}

abbrev pub region_in : Option (Box FamilyNode Global) → Option WalkRegion
region_in node = node_region (option_map boxed_node node)

-- the region of a node that the code holds, in the list of the setting
pub region-at : (held : List (Option (Box FamilyNode Global))) (regions : List (Option WalkRegion)) (i : ℕ) (d : Option (Box FamilyNode Global)) → regions ≡ map node_region (map (option_map boxed_node) held) → i < length held
    → d ≡ get_or held i d → (i < length regions) × (region_in d ≡ get_or regions i (region_in d))
region-at held regions i d e below is =
    subst (λ (rs : List (Option WalkRegion)). (i < length rs) × (region_in d ≡ get_or rs i (region_in d))) (sym e) (
      omega (arith, below, length-map held (option_map boxed_node), length-map (map (option_map boxed_node) held) node_region),
      ap region_in is ∙ sym (get_or-map node_region (map (option_map boxed_node) held) i (option_map boxed_node d) (region_in d) (omega (arith, below, length-map held (option_map boxed_node)))
          ∙ ap node_region (get_or-map (option_map boxed_node) held i d (option_map boxed_node d) below)),
    )

-- what the region of a statement takes is there
pub takes-at : (walk : WalkSetting) (first i : ℕ) (regions : List (Option WalkRegion)) (region : Option WalkRegion) → RegionsTakeFit walk first regions → i < length regions → region ≡ get_or regions i region
    → RegionTakesFit walk (first + i) region
takes-at walk first i [] region fits below is = absurd (omega (arith, below))
takes-at walk first zero (x ∷ regions) region fits below is =
    subst (λ (n : ℕ). RegionTakesFit walk n region) (sym (add-zero first)) (subst (RegionTakesFit walk first) (sym is) fits.0)
takes-at walk first (suc i) (x ∷ regions) region fits below is =
    subst (λ (n : ℕ). RegionTakesFit walk n region) (suc-moved first i) (takes-at walk (suc first) i regions region fits.1 (omega (arith, below)) is)

module _ (walk : WalkSetting) (regions : List (Option WalkRegion)) where
  abbrev rest : ℕ → List FootprintPiece
  rest i = regions_pieces walk i (drop i regions)

  pub told-ended : (i : ℕ) → length regions ≤ i → (now all : List FootprintPiece) → now ++ rest i ≡ all → now ≡ all
  told-ended i past now all e = sym (append-nil now) ∙ ap (λ (rs : List (Option WalkRegion)). now ++ regions_pieces walk i rs) (sym (drop_all i regions past)) ∙ e

  pub fit-ended : (i : ℕ) → length regions ≤ i → AllByRecursion (PieceFits walk.program) (rest i)
  fit-ended i past = subst (λ (rs : List (Option WalkRegion)). AllByRecursion (PieceFits walk.program) (regions_pieces walk i rs)) (sym (drop_all i regions past)) tt

  module _ (i : ℕ) (region : Option WalkRegion) (below : i < length regions) (is : region ≡ get_or regions i region) where
    split : rest i ≡ region_pieces walk i region ++ rest (i + 1)
    split =
        ap (regions_pieces walk i) (rest_at regions i region below is)
        ∙ ap (λ (n : ℕ). region_pieces walk i region ++ regions_pieces walk n (drop (i + 1) regions)) (add-one i)

    pub told-next : (before now all : List FootprintPiece) → now ≡ before ++ region_pieces walk i region → before ++ rest i ≡ all → now ++ rest (i + 1) ≡ all
    told-next before now all more whole =
        ap (λ (ps : List FootprintPiece). ps ++ rest (i + 1)) more ∙ append_assoc before (region_pieces walk i region) (rest (i + 1)) ∙ ap (λ (ps : List FootprintPiece). before ++ ps) (sym split) ∙ whole

    pub fit-next : AllByRecursion (PieceFits walk.program) (region_pieces walk i region) → AllByRecursion (PieceFits walk.program) (rest (i + 1)) → AllByRecursion (PieceFits walk.program) (rest i)
    fit-next here later = subst (AllByRecursion (PieceFits walk.program)) (sym split) (All-append (PieceFits walk.program) (region_pieces walk i region) (rest (i + 1)) here later)
