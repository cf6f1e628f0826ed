-- What is asked of spots and of walks. A statement that isn't there counts as one without loops, reads and a
-- region, and a read that isn't there as one without leaves.
use Rattle.std.specs.Prelude.{ℕ, ◌*◌, ◌==◌, if◌then◌else◌, List, [], ◌∷◌, ◌++◌, map, length, Option, None, Some, codes}
use Rattle.iolb_model.specs.Program.{AffineProgram, statement_at}
use Rattle.claims.specs.declared.place.Step.{Step}
use Rattle.claims.specs.declared.place.Step.TheVariants.{Key, Index}
use Rattle.affine_form.specs.Multipliers.{FarkasMultipliers}
use Rattle.affine_program.specs.Domain.{depth_of}
use Rattle.dep_quast.specs.Context.{ReadOf}
use Rattle.reuse_paths.specs.Families.{CreditedNest}
use Rattle.reuse_paths.specs.LeafClaims.{LeafClaim}
use Rattle.reuse_paths.specs.WalkSettings.{WalkAim, arrives_at, keeps, loops_of_aim, WalkSetting, region_at, region_variables}
use Rattle.dep_quast.specs.Trees.{read_of}
use Rattle.reuse_paths.specs.Walks.{WalkTree, take, test, WalkRegion, SpotForms, ReachClaim, same, walked}
use Rattle.claims.specs.Claims.{Claim, numbered}
use Rattle.certificate_fit.specs.FitClaims.{so_many, names}
use Rattle.certificate_fit.specs.PartFit.{form_fits, forms_fit, shown_fit}
use Rattle.certificate_fit.specs.EntryFit.{EntryAim, aimed_entries_fit, leaf_names}

-- A spot, with so many variables.
abbrev pub spot_fit : AffineProgram → ℕ → List Step → SpotForms → List Claim
spot_fit program variables place spot =
    so_many (place ++ Key (codes "point") ∷ []) (length spot.point) (depth_of program spot.statement)
    ∷ forms_fit variables (place ++ Key (codes "point") ∷ []) spot.point
    ++ names (place ++ Key (codes "statement") ∷ []) spot.statement (length program.statements) ∷ []

-- how many rows a region has
abbrev pub row_count : Option WalkRegion → ℕ
row_count None = 0
row_count (Some region) = length region.rows

-- how many rows the region has of the statement that a leaf names, if it names one
abbrev pub rows_called : List (Option WalkRegion) → Option ℕ → ℕ
rows_called nodes None = 0
rows_called nodes (Some statement) = row_count (region_at nodes statement)

-- how many forms the label has that a walk is to keep, and where it may stop; one that is to arrive keeps none
abbrev pub label_size : WalkAim → ℕ
label_size (arrives_at target) = 0
label_size (keeps kept) = length kept.reader

abbrev pub credits_of : WalkAim → List CreditedNest
credits_of (arrives_at target) = []
credits_of (keeps kept) = kept.credits

-- what gives the lists of a walk's entries their lengths
abbrev pub aim_of_entries : AffineProgram → WalkAim → EntryAim
aim_of_entries program aim = record { loops = loops_of_aim program aim; label = label_size aim; credits = credits_of aim }

abbrev pub entry_aim : WalkSetting → EntryAim
entry_aim walk = aim_of_entries walk.program walk.aim

-- The source of a read, with an entry for each leaf of its source tree that isn't empty.
abbrev pub take_fit : WalkSetting → ReadOf → List Step → List LeafClaim → List Claim
take_fit walk reader place entries =
    let called = leaf_names walk.program walk.trees reader in
    so_many (place ++ Key (codes "leaves") ∷ []) (length entries) (length called)
    ∷ aimed_entries_fit (entry_aim walk) (map (rows_called walk.nodes) called) (place ++ Key (codes "leaves") ∷ []) entries
    ++ names (place ++ Key (codes "read") ∷ []) reader.read (length (statement_at walk.program reader.statement).reads) ∷ []

-- A walk from the instances of a statement.
abbrev pub walk_fit : WalkSetting → ℕ → List Step → WalkTree → List Claim
walk_fit walk statement place (take read entries) = take_fit walk (read_of statement read) place entries
walk_fit walk statement place (test form above below) =
    form_fits (region_variables walk statement) (place ++ Key (codes "form") ∷ []) form
    ∷ walk_fit walk statement (place ++ Key (codes "no") ∷ []) below ++ walk_fit walk statement (place ++ Key (codes "yes") ∷ []) above

-- The region of a statement, where it has one, at a place, and at its index in a list.
abbrev pub region_fit_at : WalkSetting → ℕ → List Step → Option WalkRegion → List Claim
region_fit_at walk statement place None = []
region_fit_at walk statement place (Some region) =
    forms_fit (region_variables walk statement) (place ++ Key (codes "rows") ∷ []) region.rows ++ walk_fit walk statement (place ++ Key (codes "tree") ∷ []) region.tree

abbrev pub region_fit : WalkSetting → List Step → ℕ → Option WalkRegion → List Claim
region_fit walk place statement region = region_fit_at walk statement (place ++ Index statement ∷ []) region

-- how many multipliers show that two spots are the same: none where their statements differ
abbrev pub same_count : AffineProgram → SpotForms → SpotForms → ℕ
same_count program from to = if from.statement == to.statement then 2 * depth_of program from.statement else 0

-- What shows in a setting that a walk arrives.
abbrev pub walked_fit : WalkSetting → SpotForms → List Step → List FarkasMultipliers → List (Option WalkRegion) → List Claim
walked_fit walk from place start nodes =
    so_many (place ++ Key (codes "nodes") ∷ []) (length nodes) (length walk.program.statements)
    ∷ numbered (region_fit walk (place ++ Key (codes "nodes") ∷ [])) 0 nodes
    ++ shown_fit (row_count (region_at nodes from.statement)) (place ++ Key (codes "start") ∷ []) start ∷ []

abbrev pub fit_in : WalkSetting → SpotForms → SpotForms → List Step → ReachClaim → List Claim
fit_in walk target from place (same equal) = shown_fit (same_count walk.program from target) (place ++ Key (codes "same") ∷ []) equal ∷ []
fit_in walk target from place (walked start nodes) = walked_fit walk from place start nodes
