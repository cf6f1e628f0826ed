-- What makes a reach fit a program.
use Rattle.std.specs.Prelude.{◌≡◌, ◌*◌, List, length}
use Rattle.iolb_model.specs.Form.{AffineForm}
use Rattle.iolb_model.specs.Program.{AffineProgram}
use Rattle.affine_program.specs.Domain.{depth_of}
use Rattle.dep_quast.specs.Tree.{SelectionTree}
use Rattle.reuse_paths.specs.ReachClaims.{setting_of}
use Rattle.reuse_paths.specs.WalkFits.{NestFits, SpotFits, RegionsFit}
use Rattle.reuse_paths.specs.WalkSettings.{WalkSetting, spot_variables, region_at, entering_rows}
use Rattle.reuse_paths.specs.Walks.{SpotForms, ReachClaim, same, walked}

-- what shows that the spots are the same, or that the walk arrives, fits
abbrev pub ShownFits : WalkSetting → SpotForms → SpotForms → ReachClaim → Type 0
ShownFits walk target from (same equal) = from.statement ≡ target.statement → length equal ≡ 2 * depth_of walk.program from.statement
ShownFits walk target from (walked start nodes) =
    (length start ≡ length (entering_rows walk (spot_variables walk) (region_at nodes from.statement) from.point))
    × (length nodes ≡ length walk.program.statements) × RegionsFit walk 0 nodes

-- a reach in a setting fits
pub record FitsIn (walk : WalkSetting) (target from : SpotForms) (reach : ReachClaim) : Type 0 where
  pub nest : NestFits walk.program walk.nest
  pub from_fits : SpotFits walk.program (spot_variables walk) from
  pub to_fits : SpotFits walk.program (spot_variables walk) target
  pub shown : ShownFits walk target from reach

-- a reach between two spots over a nest fits
abbrev pub ReachFits : AffineProgram → List (List SelectionTree) → List (AffineForm × AffineForm) → SpotForms → SpotForms → ReachClaim → Type 0
ReachFits program trees nest from to reach = FitsIn (setting_of program trees nest to reach) to from reach
