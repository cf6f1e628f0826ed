-- What makes walks fit a program: what their numbers name is there, their forms are over the variables that they are to be
-- over, and each list has the length called for.
use Rattle.std.specs.Prelude.{◌≡◌, ℕ, suc, ◌+◌, ◌*◌, ◌<◌, ◌≤◌, ⊤, List, [], ◌∷◌, length, Option, Some, None, slice_get, IsSomeAnd}
use Rattle.std.specs.List.{AllByRecursion}
use Rattle.iolb_model.specs.Form.{AffineForm}
use Rattle.iolb_model.specs.Program.{Array, AffineProgram}
use Rattle.affine_form.specs.Form.{IsSmallForm}
use Rattle.affine_form.specs.Rows.{BoundsFit, IsSmallOver}
use Rattle.affine_form.specs.System.{AllOver}
use Rattle.affine_program.specs.Domain.{depth_of}
use Rattle.dep_quast.specs.Context.{ReadOf}
use Rattle.dep_quast.specs.Truth.{ReadFits}
use Rattle.reuse_paths.specs.EntryClaims.{going_goals}
use Rattle.reuse_paths.specs.Families.{CreditedNest}
use Rattle.reuse_paths.specs.LeafClaims.{LeafClaim, no_point, stops, is_credited, goes_on, arrives}
use Rattle.dep_quast.specs.OpenLeaves.{LeafOrigin, OpenLeaf}
use Rattle.dep_quast.specs.Quasts.{tree_at, tree_for}
use Rattle.dep_quast.specs.Trees.{read_of}
use Rattle.reuse_paths.specs.WalkClaims.{leaves_at}
use Rattle.reuse_paths.specs.WalkSettings.{KeptLabels, WalkAim, arrives_at, keeps, WalkSetting, spot_variables, region_variables, reading_point}
use Rattle.reuse_paths.specs.Walks.{WalkTree, take, test, WalkRegion, SpotForms}
use Rattle.iolb_model.specs.declared.limits.TheConstants.{NEST_VARIABLES, PUT_SIZE}

-- a nest has few variables, and each bound is over the parameters and the variables before
pub record NestFits (program : AffineProgram) (nest : List (AffineForm × AffineForm)) : Type 0 where
  pub few : length nest ≤ NEST_VARIABLES
  pub bounds : BoundsFit (length program.parameters) nest

-- a spot's statement is there, and has a loop value for each loop around it, over so many variables
pub record SpotFits (program : AffineProgram) (vars : ℕ) (spot : SpotForms) : Type 0 where
  pub there : spot.statement < length program.statements
  pub point : length spot.point ≡ depth_of program spot.statement
  pub forms : AllByRecursion (IsSmallOver vars) spot.point

-- ---- labels

-- a label has so many forms, over so many variables
pub record IsLabel (size vars : ℕ) (label : List AffineForm) : Type 0 where
  pub each : length label ≡ size
  pub over : AllByRecursion (IsSmallOver vars) label

abbrev pub IsLabelIf : ℕ → ℕ → Option (List AffineForm) → Type 0
IsLabelIf size vars None = ⊤
IsLabelIf size vars (Some label) = IsLabel size vars label

-- labels of the instances of statements from a number on, and of the cells of arrays, where they have one
abbrev pub AreInstanceLabels : AffineProgram → ℕ → ℕ → List (Option (List AffineForm)) → Type 0
AreInstanceLabels program size statement [] = ⊤
AreInstanceLabels program size statement (label ∷ labels) =
    IsLabelIf size (length program.parameters + depth_of program statement) label × AreInstanceLabels program size (suc statement) labels

abbrev pub AreCellLabels : AffineProgram → ℕ → List Array → List (Option (List AffineForm)) → Type 0
AreCellLabels program size [] [] = ⊤
AreCellLabels program size [] (label ∷ labels) = ⊥
AreCellLabels program size (array ∷ arrays) [] = ⊥
AreCellLabels program size (array ∷ arrays) (label ∷ labels) =
    IsLabelIf size (length program.parameters + array.rank) label × AreCellLabels program size arrays labels

-- a credited nest's statement is there, and the nest has a variable for each loop around it
pub record CreditFits (program : AffineProgram) (credit : CreditedNest) : Type 0 where
  pub there : credit.statement < length program.statements
  pub each : length credit.nest ≡ depth_of program credit.statement
  pub bounds : BoundsFit (length program.parameters) credit.nest

-- the labels that a family's walks keep fit, each of so many forms
pub record LabelsFit (program : AffineProgram) (size : ℕ) (kept : KeptLabels) : Type 0 where
  pub instances : AreInstanceLabels program size 0 kept.instances
  pub each : length kept.instances ≡ length program.statements
  pub cells : AreCellLabels program size program.arrays kept.cells
  pub credits : AllByRecursion (CreditFits program) kept.credits

-- what is asked of the walk fits, at readers of a statement
abbrev pub AimFits : WalkSetting → WalkAim → Type 0
AimFits walk (arrives_at target) = SpotFits walk.program (spot_variables walk) target
AimFits walk (keeps kept) = (length walk.nest ≡ 0) × LabelsFit walk.program (length kept.reader) kept

-- the readers' label is over the variables of their region; its numbers may be those of forms that are computed
abbrev pub ReaderFits : WalkSetting → ℕ → WalkAim → Type 0
ReaderFits walk statement (arrives_at target) = ⊤
ReaderFits walk statement (keeps kept) = AllOver (region_variables walk statement) kept.reader × AllByRecursion (IsSmallForm PUT_SIZE) kept.reader

-- ---- entries

-- An entry at a leaf of a walk that is to arrive fits: it has as many multipliers as it needs goals, and no labels. None is
-- credited.
abbrev pub ArrivingFits : WalkSetting → SpotForms → ReadOf → LeafOrigin → LeafClaim → Type 0
ArrivingFits walk target reader origin (no_point shown) = ⊤
ArrivingFits walk target reader origin (stops label) = length label ≡ 0
ArrivingFits walk target reader origin (is_credited credit rows label) = ⊥
ArrivingFits walk target reader origin (goes_on rows label) =
    (length rows ≡ length (going_goals walk (region_variables walk reader.statement) (reading_point walk reader.statement) origin)) × (length label ≡ 0)
ArrivingFits walk target reader origin (arrives equal) = length equal ≡ 2 * depth_of walk.program target.statement

-- One of a walk that keeps labels does: it has two multipliers for each form of the label, and a credit that it names is
-- there and has two rows for each variable. None arrives.
abbrev pub KeepingFits : WalkSetting → KeptLabels → ReadOf → LeafOrigin → LeafClaim → Type 0
KeepingFits walk kept reader origin (no_point shown) = ⊤
KeepingFits walk kept reader origin (stops label) = length label ≡ 2 * length kept.reader
KeepingFits walk kept reader origin (is_credited credit rows label) =
    IsSomeAnd (slice_get kept.credits credit) (λ nest. length rows ≡ 2 * length nest.nest) × (length label ≡ 2 * length kept.reader)
KeepingFits walk kept reader origin (goes_on rows label) =
    (length rows ≡ length (going_goals walk (region_variables walk reader.statement) (reading_point walk reader.statement) origin))
    × (length label ≡ 2 * length kept.reader)
KeepingFits walk kept reader origin (arrives equal) = length equal ≡ 0

abbrev pub AimedFits : WalkSetting → WalkAim → ReadOf → LeafOrigin → LeafClaim → Type 0
AimedFits walk (arrives_at target) reader origin entry = ArrivingFits walk target reader origin entry
AimedFits walk (keeps kept) reader origin entry = KeepingFits walk kept reader origin entry

abbrev pub EntryFits : WalkSetting → ReadOf → LeafOrigin → LeafClaim → Type 0
EntryFits walk reader origin entry = AimedFits walk walk.aim reader origin entry

-- there is one for each leaf
abbrev pub EntriesFit : WalkSetting → ReadOf → List OpenLeaf → List LeafClaim → Type 0
EntriesFit walk reader [] [] = ⊤
EntriesFit walk reader [] (entry ∷ entries) = ⊥
EntriesFit walk reader (l ∷ leaves) [] = ⊥
EntriesFit walk reader (l ∷ leaves) (entry ∷ entries) = EntryFits walk reader l.origin entry × EntriesFit walk reader leaves entries

-- ---- walks

-- The read that is taken is there, it has a source tree, and there is an entry for each of its leaves that isn't empty.
pub record TakeFits (walk : WalkSetting) (statement : ℕ) (read : ℕ) (entries : List LeafClaim) : Type 0 where
  pub read_fits : ReadFits walk.program (read_of statement read)
  pub there : tree_at walk.trees statement read ≡ Some (tree_for walk.trees (read_of statement read))
  pub entries_fit : EntriesFit walk (read_of statement read) (leaves_at walk (read_of statement read)) entries

-- a walk fits: its tests are over the variables of its region
abbrev pub WalkFits : WalkSetting → ℕ → WalkTree → Type 0
WalkFits walk statement (take read entries) = TakeFits walk statement read entries
WalkFits walk statement (test form above below) =
    IsSmallOver (region_variables walk statement) form × WalkFits walk statement above × WalkFits walk statement below

-- the region of a statement fits, where it has one
abbrev pub RegionFits : WalkSetting → ℕ → Option WalkRegion → Type 0
RegionFits walk statement None = ⊤
RegionFits walk statement (Some region) = AllByRecursion (IsSmallOver (region_variables walk statement)) region.rows × WalkFits walk statement region.tree

-- those of the statements from a number on do
abbrev pub RegionsFit : WalkSetting → ℕ → List (Option WalkRegion) → Type 0
RegionsFit walk statement [] = ⊤
RegionsFit walk statement (region ∷ regions) = RegionFits walk statement region × RegionsFit walk (suc statement) regions

-- The rows of the regions are over their variables, from a statement on: this alone is asked of the others where one region
-- is walked, since a walk goes on into all of them.
abbrev pub RegionRowsFit : WalkSetting → ℕ → List (Option WalkRegion) → Type 0
RegionRowsFit walk statement [] = ⊤
RegionRowsFit walk statement (None ∷ regions) = RegionRowsFit walk (suc statement) regions
RegionRowsFit walk statement (Some region ∷ regions) =
    AllByRecursion (IsSmallOver (region_variables walk statement)) region.rows × RegionRowsFit walk (suc statement) regions
