-- What the parts of the check of a walk are, and what makes them fit.
use Rattle.std.specs.Prelude.{◌≡◌, ℕ, ◌<◌, ⊤, List, map, length, Option, option_map}
use Rattle.std.specs.List.{AllByRecursion}
use Rattle.iolb_model.specs.Program.{AffineProgram}
use Rattle.affine_form.specs.Rows.{IsSmallOver}
use Rattle.affine_form.specs.System.{AllOver}
use Rattle.affine_program.specs.Domain.{depth_of}
use Rattle.affine_program.specs.Parts.{meaning}
use Rattle.dep_quast.specs.Context.{variables_at}
use Rattle.reuse_paths.specs.declared.walking.Aim.{Aim}
use Rattle.reuse_paths.specs.declared.walking.Aim.TheVariants as aims
use Rattle.reuse_paths.specs.declared.walking.Kept.{Kept}
use Rattle.reuse_paths.specs.declared.walking.Walking.{Walking}
use Rattle.reuse_paths.specs.Families.{boxed_forms, credit_of, labels_of, regions_of}
use Rattle.dep_quast.specs.OpenLeaves.{LeafOrigin, written, as_input, unknown, OpenLeaf}
use Rattle.dep_quast.specs.Quasts.{trees_of}
use Rattle.dep_quast.specs.Trees.{read_of, RowsFit}
use Rattle.reuse_paths.specs.WalkFits.{NestFits, AimFits, ReaderFits, RegionRowsFit}
use Rattle.reuse_paths.specs.WalkSettings.{KeptLabels, WalkAim, arrives_at, keeps, WalkSetting, region_variables}
use Rattle.reuse_paths.specs.Walks.{WalkRegion, boxed_region, spot_of}

-- the regions that the code holds, and what it asks
abbrev pub nodes_in : Aim → List (Option WalkRegion)
nodes_in (aims.Arrive nodes target) = map (option_map boxed_region) nodes.now
nodes_in (aims.Keep kept) = regions_of kept.nodes

abbrev pub kept_of : Kept → KeptLabels
kept_of kept = record {
  reader = kept.reader.now;
  instances = labels_of kept.nodes;
  cells = map (option_map boxed_forms) kept.inputs.now;
  credits = map credit_of kept.credits.now;
}

abbrev pub aim_of : Aim → WalkAim
aim_of (aims.Arrive nodes target) = arrives_at (spot_of target.now)
aim_of (aims.Keep kept) = keeps (kept_of kept)

-- the setting that the code holds
abbrev pub walk_of : Walking → WalkSetting
walk_of walking = record {
  program = meaning walking.program.now;
  trees = trees_of walking.quasts.now;
  nest = walking.nest.now;
  nodes = nodes_in walking.aim;
  aim = aim_of walking.aim;
}

-- a nest and what is asked fit
pub record EndsFit (walk : WalkSetting) : Type 0 where
  pub nest : NestFits walk.program walk.nest
  pub aim : AimFits walk walk.aim

-- A setting fits: also its source trees, and its regions, one or none for each statement, whose rows are over the variables
-- of the region.
pub record SettingFits (walk : WalkSetting) : Type 0 where
  pub ends : EndsFit walk
  pub trees : RowsFit walk.program 0 walk.trees
  pub each : length walk.nodes ≡ length walk.program.statements
  pub rows : RegionRowsFit walk 0 walk.nodes

-- A setting fits at readers of a statement: the statement is there, and the readers' label fits.
pub record ReadingFits (walk : WalkSetting) (statement : ℕ) : Type 0 where
  pub setting : SettingFits walk
  pub there : statement < length walk.program.statements
  pub reader : ReaderFits walk statement walk.aim

-- where a leaf says that a word comes from fits: the statement is there, and has a loop value for each loop around it
abbrev pub OriginFits : AffineProgram → ℕ → LeafOrigin → Type 0
OriginFits program vars (written statement point) =
    (statement < length program.statements) × (length point ≡ depth_of program statement) × AllByRecursion (IsSmallOver vars) point
OriginFits program vars as_input = ⊤
OriginFits program vars unknown = ⊤

-- an open leaf of a source tree of a region's statement fits
pub record OpenLeafFits (walk : WalkSetting) (statement : ℕ) (leaf : OpenLeaf) : Type 0 where
  pub tests : AllOver (region_variables walk statement) leaf.tests
  pub origin : OriginFits walk.program (variables_at walk.program (read_of statement 0)) leaf.origin
