-- What walks claim, in the order in which it is tested.
use Rattle.std.specs.Prelude.{ℕ, suc, List, [], ◌∷◌, ◌++◌, codes}
use Rattle.iolb_model.specs.Form.{AffineForm}
use Rattle.claims.specs.Claims.{Claim}
use Rattle.claims.specs.declared.place.Step.{Step}
use Rattle.claims.specs.declared.place.Step.TheVariants.{Key, Index}
use Rattle.dep_quast.specs.Context.{ReadOf, no_row}
use Rattle.reuse_paths.specs.EntryClaims.{leaf_claims}
use Rattle.reuse_paths.specs.LeafClaims.{LeafClaim}
use Rattle.dep_quast.specs.OpenLeaves.{OpenLeaf, open_leaves}
use Rattle.dep_quast.specs.Quasts.{tree_for}
use Rattle.dep_quast.specs.Trees.{read_of}
use Rattle.reuse_paths.specs.WalkSettings.{WalkSetting, region_variables, reading_point}
use Rattle.reuse_paths.specs.Walks.{WalkTree, take, test}

-- what is claimed at leaves of the source tree of a read, one after another, each by an entry of a list at this place
abbrev pub leaves_claims : ℕ → WalkSetting → ReadOf → List Step → List AffineForm → ℕ → List OpenLeaf → List LeafClaim → List Claim
leaves_claims condition walk reader place rows index [] entries = []
leaves_claims condition walk reader place rows index (l ∷ leaves) [] = []
leaves_claims condition walk reader place rows index (l ∷ leaves) (entry ∷ entries) =
    leaf_claims condition walk reader (place ++ Index index ∷ []) rows l entry
    ++ leaves_claims condition walk reader place rows (suc index) leaves entries

-- the leaves to which points may come, of the source tree of a read of a region's statement
abbrev pub leaves_at : WalkSetting → ReadOf → List OpenLeaf
leaves_at walk reader =
    open_leaves (region_variables walk reader.statement) (reading_point walk reader.statement) [] (tree_for walk.trees reader)

-- What a walk claims from the instances of a statement which meet these rows: at each open leaf of the source tree of the
-- read that it takes; a test parts the instances.
abbrev pub walk_claims : ℕ → WalkSetting → ℕ → List Step → List AffineForm → WalkTree → List Claim
walk_claims condition walk statement place rows (take read entries) =
    let reader = read_of statement read in leaves_claims condition walk reader (place ++ Key (codes "leaves") ∷ []) rows 0 (leaves_at walk reader) entries
walk_claims condition walk statement place rows (test form above below) =
    walk_claims condition walk statement (place ++ Key (codes "yes") ∷ []) (rows ++ form ∷ []) above
    ++ walk_claims condition walk statement (place ++ Key (codes "no") ∷ []) (rows ++ no_row (region_variables walk statement) form ∷ []) below
