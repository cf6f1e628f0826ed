-- The settings of walks in a way fit without credits too.
use Rattle.std.proofs.Common.{◌≡◌, refl, sym, subst, ℕ, List, [], length, map}
use Rattle.std.specs.List.{AllByRecursion}
use Rattle.iolb_model.specs.Form.{AffineForm}
use Rattle.iolb_model.specs.Program.{AffineProgram}
use Rattle.dep_quast.specs.Tree.{SelectionTree}
use Rattle.dep_quast.specs.Trees.{RowsFit}
use Rattle.reuse_paths.specs.Families.{FamilyForms, node_label, node_region}
use Rattle.reuse_paths.specs.FamilyClaims.{family_setting}
use Rattle.reuse_paths.specs.WalkFits.{CreditFits, LabelsFit}
use Rattle.reuse_paths.specs.WalkSettings.{KeptLabels}
use Rattle.reuse_paths.specs.WalkViews.{SettingFits}
use Rattle.reuse_paths.proofs.ToldFamilies.{rows-fit}
use Rattle.joint_partition.specs.Claims.{setting_of}
use Rattle.joint_partition.specs.FamiliesFit.{FitsFamily, WayFits}
use Rattle.joint_partition.specs.Term.{JointFamily, JointTerm, WayTerm, credited_nests, way_walks}
use Rattle.joint_partition.proofs.WaySettings.{kept-fit, setting-fits}

module _ (program : AffineProgram) (trees : List (List SelectionTree)) (term : JointTerm) (family : JointFamily) (way : WayTerm) (trees-fit : RowsFit program 0 trees)
    (credits : AllByRecursion (CreditFits program) (credited_nests term)) (fits : FitsFamily program trees term family) (fits-way : WayFits program trees term family way) where
  abbrev bare : List AffineForm → KeptLabels
  bare reader = record { reader = reader; instances = map node_label (way_walks family way).nodes; cells = (way_walks family way).inputs; credits = [] }

  -- the walks, with a label as that of their start
  abbrev labeled-walks : List AffineForm → FamilyForms
  labeled-walks reader = record (way_walks family way) { start_label = reader }

  pub plain-fits : (reader : List AffineForm) → length reader ≡ length family.set → SettingFits (family_setting program trees [] (way_walks family way) reader)
  plain-fits reader size =
      let labels = kept-fit program trees term family way trees-fit credits fits fits-way reader in
      let others : LabelsFit program (length family.set) (bare reader) = record { instances = labels.instances; each = labels.each; cells = labels.cells; credits = tt } in
      let whole : SettingFits (setting_of program trees term (way_walks family way) reader) = setting-fits program trees term family way trees-fit credits fits fits-way reader size in record {
        ends = record { nest = whole.ends.nest; aim = (refl, subst (λ (n : ℕ). LabelsFit program n (bare reader)) (sym size) others) };
        trees = trees-fit;
        each = whole.each;
        rows = rows-fit program trees (credited_nests term) (labeled-walks reader) reader 0 (map node_region (way_walks family way).nodes) whole.rows;
      }
