-- What is asked of a family whose pieces are told: that its walks are over what they name, and that the rows of each context
-- are few.
use Rattle.std.specs.Prelude.{◌≡◌, ℕ, suc, ◌<◌, ⊤, List, [], ◌∷◌, ◌++◌, length, Option, None, Some, codes}
use Rattle.std.specs.List.{AllByRecursion}
use Rattle.iolb_model.specs.Form.{AffineForm}
use Rattle.iolb_model.specs.Program.{AffineProgram}
use Rattle.affine_form.specs.Matrix.{IntegerMatrix}
use Rattle.affine_form.specs.Rows.{IsSmallOver}
use Rattle.claims.specs.Claims.{Claim, AllHold, numbered}
use Rattle.claims.specs.declared.place.Step.{Step}
use Rattle.claims.specs.declared.place.Step.TheVariants.{Key, Index}
use Rattle.claims.specs.Shown.{IsFew}
use Rattle.dep_quast.specs.Context.{no_row}
use Rattle.dep_quast.specs.Tree.{SelectionTree}
use Rattle.dep_quast.specs.Truth.{ReadFits}
use Rattle.reuse_paths.specs.EntryClaims.{entry_place}
use Rattle.reuse_paths.specs.Families.{CreditedNest, FamilyForms}
use Rattle.reuse_paths.specs.FamilyClaims.{family_setting, start_rows, family_claims}
use Rattle.reuse_paths.specs.FamilyFits.{FamilyFits}
use Rattle.reuse_paths.specs.LeafClaims.{LeafClaim}
use Rattle.dep_quast.specs.OpenLeaves.{OpenLeaf}
use Rattle.dep_quast.specs.Quasts.{tree_at, tree_for}
use Rattle.dep_quast.specs.Trees.{read_of}
use Rattle.reuse_paths.specs.WalkClaims.{leaves_at}
use Rattle.reuse_paths.specs.WalkSettings.{WalkSetting, region_context, region_variables}
use Rattle.reuse_paths.specs.WalkViews.{SettingFits}
use Rattle.reuse_paths.specs.Walks.{WalkRegion, WalkTree, take, test}

-- ---- what walks name

-- a setting fits, and the statement whose instances read is there
pub record ReadersFit (walk : WalkSetting) (statement : ℕ) : Type 0 where
  pub setting : SettingFits walk
  pub there : statement < length walk.program.statements

-- the read that is taken is there, with its source tree, and as many entries as open leaves
pub record TakenFits (walk : WalkSetting) (statement read : ℕ) (entries : List LeafClaim) : Type 0 where
  pub read_fits : ReadFits walk.program (read_of statement read)
  pub there : tree_at walk.trees statement read ≡ Some (tree_for walk.trees (read_of statement read))
  pub one_each : length entries ≡ length (leaves_at walk (read_of statement read))

-- what a walk takes is there, and its tests are over the variables of its region
abbrev pub TakesFit : WalkSetting → ℕ → WalkTree → Type 0
TakesFit walk statement (take read entries) = TakenFits walk statement read entries
TakesFit walk statement (test form above below) =
    IsSmallOver (region_variables walk statement) form × TakesFit walk statement above × TakesFit walk statement below

-- the same of the region of a statement, where it has one, and of those of the statements from a number on
abbrev pub RegionTakesFit : WalkSetting → ℕ → Option WalkRegion → Type 0
RegionTakesFit walk statement None = ⊤
RegionTakesFit walk statement (Some region) = AllByRecursion (IsSmallOver (region_variables walk statement)) region.rows × TakesFit walk statement region.tree

abbrev pub RegionsTakeFit : WalkSetting → ℕ → List (Option WalkRegion) → Type 0
RegionsTakeFit walk statement [] = ⊤
RegionsTakeFit walk statement (region ∷ regions) = RegionTakesFit walk statement region × RegionsTakeFit walk (suc statement) regions

-- a family fits with some matrix and credits
abbrev pub FitsSome : AffineProgram → List (List SelectionTree) → ℕ → List (AffineForm × AffineForm) → FamilyForms → Type 0
FitsSome program trees statement nest family =
    (matrix : IntegerMatrix) × ((credits : List CreditedNest) × FamilyFits program trees statement nest matrix credits family)

-- ---- that rows are few (condition 2)

abbrev pub few_claim : List Step → List AffineForm → OpenLeaf → LeafClaim → Claim
few_claim place rows leaf entry = record { condition = 2; place = entry_place place entry; statement = IsFew (length (rows ++ leaf.tests)) }

-- those of leaves one after another, each with its entry, of a list at this place
abbrev pub few_leaves : List Step → List AffineForm → ℕ → List OpenLeaf → List LeafClaim → List Claim
few_leaves place rows index [] entries = []
few_leaves place rows index (l ∷ leaves) [] = []
few_leaves place rows index (l ∷ leaves) (entry ∷ entries) =
    few_claim (place ++ Index index ∷ []) rows l entry ∷ few_leaves place rows (suc index) leaves entries

-- those of a walk from the instances of a statement which meet these rows
abbrev pub few_walk : WalkSetting → ℕ → List Step → List AffineForm → WalkTree → List Claim
few_walk walk statement place rows (take read entries) =
    few_leaves (place ++ Key (codes "leaves") ∷ []) rows 0 (leaves_at walk (read_of statement read)) entries
few_walk walk statement place rows (test form above below) =
    few_walk walk statement (place ++ Key (codes "yes") ∷ []) (rows ++ form ∷ []) above
    ++ few_walk walk statement (place ++ Key (codes "no") ∷ []) (rows ++ no_row (region_variables walk statement) form ∷ []) below

-- those of the region of a statement, in a list at this place
abbrev pub few_region : WalkSetting → List Step → ℕ → Option WalkRegion → List Claim
few_region walk place statement None = []
few_region walk place statement (Some region) =
    few_walk walk statement (place ++ Index statement ∷ Key (codes "region") ∷ Key (codes "tree") ∷ []) (region_context walk statement region.rows) region.tree

-- Those of a family at this place: of its start walk, then of its regions in the order of statements.
abbrev pub few_contexts : AffineProgram → List (List SelectionTree) → ℕ → List (AffineForm × AffineForm) → FamilyForms → List Step → List Claim
few_contexts program trees statement nest family place =
    let walk = family_setting program trees [] family family.start_label in
    few_walk walk statement (place ++ Key (codes "start") ∷ Key (codes "tree") ∷ []) (region_context walk statement (start_rows walk statement nest)) family.start
    ++ numbered (few_region walk (place ++ Key (codes "nodes") ∷ [])) 0 walk.nodes

-- A family whose claims hold, at any place, has few rows in each context, wherever it is looked at.
abbrev pub ContextsAreFew : Type 0
ContextsAreFew = (program : AffineProgram) (trees : List (List SelectionTree)) (statement : ℕ) (nest : List (AffineForm × AffineForm)) (matrix : IntegerMatrix)
    (credits : List CreditedNest) (family : FamilyForms) (place other : List Step) → AllHold (family_claims program trees statement nest matrix credits family place)
    → AllHold (few_contexts program trees statement nest family other)
