-- Walks back along the sources of reads, as plain values.
use Rattle.std.specs.Prelude.{ℕ, ◌+◌, List, length, map, Option, option_map, Box}
use Rattle.std.specs.Global.{Global}
use Rattle.std.specs.Box.{box_value}
use Rattle.iolb_model.specs.Form.{AffineForm}
use Rattle.affine_form.specs.Multipliers.{FarkasMultipliers}
use Rattle.reuse_paths.specs.LeafClaims.{LeafClaim, claim_of}
use Rattle.reuse_paths.specs.declared.walk.Walk.{Walk}
use Rattle.reuse_paths.specs.declared.walk.Walk.TheVariants as walks
use Rattle.reuse_paths.specs.declared.walk.Region.{Region}
use Rattle.reuse_paths.specs.declared.reach.Spot.{Spot}
use Rattle.reuse_paths.specs.declared.reach.Reach.{Reach}
use Rattle.reuse_paths.specs.declared.reach.Reach.TheVariants as reaches

-- How a walk goes on from an instance: it takes the source of a read, with a claim for each leaf of the read's source tree
-- that isn't empty; or a test of a form parts the points.
pub data WalkTree : Type 0 where
  take : ℕ → List LeafClaim → WalkTree
  test : AffineForm → WalkTree → WalkTree → WalkTree

-- how many claims at leaves it has
abbrev pub entry_count : WalkTree → ℕ
entry_count (take read leaves) = length leaves
entry_count (test form above below) = entry_count above + entry_count below

-- The instances of a statement from which a walk goes on, and how it does.
pub record WalkRegion : Type 0 where
  pub rows : List AffineForm
  pub tree : WalkTree

-- An instance for each point of a nest.
pub record SpotForms : Type 0 where
  pub statement : ℕ
  pub point : List AffineForm

-- What shows that a walk back from one spot arrives at another: that they are the same, or regions through which it goes,
-- one or none for each statement, and that it starts in one.
pub data ReachClaim : Type 0 where
  same : List FarkasMultipliers → ReachClaim
  walked : List FarkasMultipliers → List (Option WalkRegion) → ReachClaim

-- ---- what the code holds

abbrev pub tree_of_walk : Walk → WalkTree
tree_of_walk (walks.Test' form p above q below) = test form (tree_of_walk above) (tree_of_walk below)
tree_of_walk (walks.Take read leaves) = take read (map claim_of leaves.items)

abbrev pub region_of : Region → WalkRegion
region_of region = record { rows = region.rows.items; tree = tree_of_walk region.tree }

-- a region in its box
abbrev pub boxed_region : Box Region Global → WalkRegion
boxed_region region = region_of (box_value region)

abbrev pub spot_of : Spot → SpotForms
spot_of spot = record { statement = spot.statement; point = spot.point.items }

abbrev pub reach_of : Reach → ReachClaim
reach_of (reaches.Same equal) = same equal.items
reach_of (reaches.Walked start nodes) = walked start.items (map (option_map boxed_region) nodes.items)
