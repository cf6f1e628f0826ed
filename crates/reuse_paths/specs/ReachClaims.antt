-- What a reach claims, in the order in which it is tested: that a walk back from one spot arrives at another.
use Rattle.std.specs.Prelude.{◌≡◌, ℕ, ⊤, List, [], ◌∷◌, ◌++◌, Option, Some, None, IsSomeAnd, codes}
use Rattle.iolb_model.specs.Form.{AffineForm}
use Rattle.iolb_model.specs.Program.{AffineProgram}
use Rattle.claims.specs.Claims.{Claim, numbered}
use Rattle.claims.specs.declared.place.Step.{Step}
use Rattle.claims.specs.declared.place.Step.TheVariants.{Key, Index}
use Rattle.affine_form.specs.Multipliers.{FarkasMultipliers}
use Rattle.affine_form.specs.Rows.{equality_rows}
use Rattle.claims.specs.Shown.{follow_claims}
use Rattle.dep_quast.specs.Tree.{SelectionTree}
use Rattle.domain_count.specs.Count.{rows_before}
use Rattle.reuse_paths.specs.WalkClaims.{walk_claims}
use Rattle.reuse_paths.specs.WalkSettings.{arrives_at, WalkSetting, spot_variables, region_context, region_at, entering_rows}
use Rattle.reuse_paths.specs.Walks.{WalkRegion, SpotForms, ReachClaim, same, walked}

-- what is claimed of a statement's region, where it has one
abbrev pub region_claims : ℕ → WalkSetting → List Step → ℕ → Option WalkRegion → List Claim
region_claims condition walk place statement None = []
region_claims condition walk place statement (Some region) =
    walk_claims condition walk statement (place ++ Index statement ∷ Key (codes "tree") ∷ []) (region_context walk statement region.rows) region.tree

-- that the spot's statement has a region, and that the spot is in it
abbrev pub start_claims : ℕ → WalkSetting → List Step → SpotForms → List FarkasMultipliers → List Claim
start_claims condition walk place from start =
    record { condition = condition; place = place ++ Key (codes "start") ∷ []; statement = IsSomeAnd (region_at walk.nodes from.statement) (λ region. ⊤) }
    ∷ follow_claims condition (place ++ Key (codes "start") ∷ []) (rows_before walk.program walk.nest) 0
    (entering_rows walk (spot_variables walk) (region_at walk.nodes from.statement) from.point) start

-- that the spots are of one statement, and have the same loop values
abbrev pub same_claims : ℕ → WalkSetting → SpotForms → List Step → SpotForms → List FarkasMultipliers → List Claim
same_claims condition walk target place from equal =
    record { condition = condition; place = place ++ Key (codes "same") ∷ []; statement = from.statement ≡ target.statement }
    ∷ follow_claims condition (place ++ Key (codes "same") ∷ []) (rows_before walk.program walk.nest) 0
    (equality_rows (spot_variables walk) from.point target.point) equal

-- the setting of a reach's walk, whose regions are those that the reach has
abbrev pub nodes_of : ReachClaim → List (Option WalkRegion)
nodes_of (same equal) = []
nodes_of (walked start nodes) = nodes

abbrev pub setting_of : AffineProgram → List (List SelectionTree) → List (AffineForm × AffineForm) → SpotForms → ReachClaim → WalkSetting
setting_of program trees nest to reach =
    record { program = program; trees = trees; nest = nest; nodes = nodes_of reach; aim = arrives_at to }

-- What a reach claims: that the spots are the same; or that the walk's start is in a region, and then what is claimed of
-- each region, in the order of statements.
abbrev pub claims_in : ℕ → WalkSetting → SpotForms → List Step → SpotForms → ReachClaim → List Claim
claims_in condition walk target place from (same equal) = same_claims condition walk target place from equal
claims_in condition walk target place from (walked start nodes) =
    start_claims condition walk place from start ++ numbered (region_claims condition walk (place ++ Key (codes "nodes") ∷ [])) 0 nodes

abbrev pub reach_claims : AffineProgram → List (List SelectionTree) → List (AffineForm × AffineForm) → SpotForms → SpotForms → ReachClaim → ℕ → List Step → List Claim
reach_claims program trees nest from to reach condition place = claims_in condition (setting_of program trees nest to reach) to place from reach
