-- A family that fits is one whose pieces are told: they need nothing of its credits.
use Rattle.std.proofs.Common.{sym, ℕ, suc, List, [], ◌∷◌, map}
use Rattle.std.specs.Prelude.{Option, Some, None}
use Rattle.iolb_model.specs.Form.{AffineForm}
use Rattle.iolb_model.specs.Program.{AffineProgram}
use Rattle.affine_form.specs.Matrix.{IntegerMatrix}
use Rattle.dep_quast.specs.Tree.{SelectionTree}
use Rattle.reuse_paths.specs.Families.{CreditedNest, FamilyForms, NodeForms, node_region}
use Rattle.reuse_paths.specs.FamilyClaims.{family_setting}
use Rattle.reuse_paths.specs.FamilyFits.{FamilyFits, NodesFit}
use Rattle.reuse_paths.specs.FewContexts.{ReadersFit, RegionTakesFit, RegionsTakeFit, TakesFit}
use Rattle.dep_quast.specs.Trees.{read_of, RowsFit}
use Rattle.reuse_paths.specs.WalkClaims.{leaves_at}
use Rattle.reuse_paths.specs.WalkFits.{RegionFits, RegionRowsFit, WalkFits}
use Rattle.reuse_paths.specs.WalkSettings.{WalkSetting}
use Rattle.reuse_paths.specs.WalkViews.{SettingFits}
use Rattle.reuse_paths.specs.Walks.{WalkTree, take, test, WalkRegion}
use Rattle.reuse_paths.proofs.FamilyParts.{counted-reading}
use Rattle.reuse_paths.proofs.FoundLeaves.{entries-many}

module _ (program : AffineProgram) (trees : List (List SelectionTree)) (credits : List CreditedNest) (family : FamilyForms) where
  abbrev with_credits : List AffineForm → WalkSetting
  with_credits reader = family_setting program trees credits family reader

  abbrev plain : WalkSetting
  plain = family_setting program trees [] family family.start_label

  pub rows-fit : (reader : List AffineForm) (first : ℕ) (regions : List (Option WalkRegion)) → RegionRowsFit (with_credits reader) first regions → RegionRowsFit plain first regions
  rows-fit reader first [] rows = tt
  rows-fit reader first (None ∷ regions) rows = rows-fit reader (suc first) regions rows
  rows-fit reader first (Some region ∷ regions) rows = (rows.0, rows-fit reader (suc first) regions rows.1)

  -- what a walk that fits takes is there
  pub takes-fit : (reader : List AffineForm) (s : ℕ) (tree : WalkTree) → WalkFits (with_credits reader) s tree → TakesFit plain s tree
  takes-fit reader s (take read entries) fits =
      record { read_fits = fits.read_fits; there = fits.there; one_each = sym (entries-many (with_credits reader) (read_of s read) (leaves_at plain (read_of s read)) entries fits.entries_fit) }
  takes-fit reader s (test form above below) fits = (fits.0, takes-fit reader s above fits.1, takes-fit reader s below fits.2)

  region-takes : (reader : List AffineForm) (s : ℕ) (region : Option WalkRegion) → RegionFits (with_credits reader) s region → RegionTakesFit plain s region
  region-takes reader s None fits = tt
  region-takes reader s (Some region) fits = (fits.0, takes-fit reader s region.tree fits.1)

  regions-take : (first : ℕ) (nodes : List (Option NodeForms)) → NodesFit program trees credits family first nodes → RegionsTakeFit plain first (map node_region nodes)
  regions-take first [] fits = tt
  regions-take first (None ∷ nodes) fits = (tt, regions-take (suc first) nodes fits.1)
  regions-take first (Some node ∷ nodes) fits = (region-takes node.label first node.region fits.0, regions-take (suc first) nodes fits.1)

  module _ (statement : ℕ) (nest : List (AffineForm × AffineForm)) (matrix : IntegerMatrix) (trees-fit : RowsFit program 0 trees) (fits : FamilyFits program trees statement nest matrix credits family) where
    pub setting-fits : SettingFits plain
    setting-fits =
        let whole : SettingFits (with_credits family.start_label) = (counted-reading program trees credits family statement nest matrix trees-fit fits).setting in
        let labels = whole.ends.aim.1 in record {
          ends = record { nest = whole.ends.nest; aim = (whole.ends.aim.0, record { instances = labels.instances; each = labels.each; cells = labels.cells; credits = tt }) };
          trees = whole.trees;
          each = whole.each;
          rows = rows-fit family.start_label 0 (map node_region family.nodes) whole.rows;
        }

    pub readers-fit : ReadersFit plain statement
    readers-fit = record { setting = setting-fits; there = fits.counted.there }

    pub start-takes : TakesFit plain statement family.start
    start-takes = takes-fit family.start_label statement family.start fits.start

    pub all-take : RegionsTakeFit plain 0 (map node_region family.nodes)
    all-take = regions-take 0 family.nodes fits.regions
