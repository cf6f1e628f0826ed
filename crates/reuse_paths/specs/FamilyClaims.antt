-- What a family claims, in the order in which it is tested.
use Rattle.std.specs.Prelude.{◌≡◌, ℕ, suc, ◌+◌, ◌<◌, List, [], ◌∷◌, ◌++◌, map, length, Option, Some, None, pos, ◌*ℤ◌, codes}
use Rattle.iolb_model.specs.Form.{AffineForm}
use Rattle.iolb_model.specs.Program.{AffineProgram}
use Rattle.claims.specs.Claims.{Claim, numbered}
use Rattle.claims.specs.declared.place.Step.{Step}
use Rattle.claims.specs.declared.place.Step.TheVariants.{Key, Index}
use Rattle.affine_form.specs.Combination.{coefficient_of}
use Rattle.affine_form.specs.Matrix.{IntegerMatrix, entry}
use Rattle.affine_form.specs.Rows.{within_rows}
use Rattle.affine_program.specs.Domain.{depth_of}
use Rattle.dep_quast.specs.Context.{parameter_point}
use Rattle.dep_quast.specs.Tree.{SelectionTree}
use Rattle.reuse_paths.specs.Families.{CreditedNest, NodeForms, FamilyForms, node_label, node_region}
use Rattle.reuse_paths.specs.WalkClaims.{walk_claims}
use Rattle.reuse_paths.specs.WalkSettings.{keeps, WalkSetting, region_variables, region_values, region_context}
use Rattle.reuse_paths.specs.Walks.{WalkRegion}

-- The setting of a family's walks from readers with this label: there is no nest around them, and regions and labels are
-- those of its nodes.
abbrev pub family_setting : AffineProgram → List (List SelectionTree) → List CreditedNest → FamilyForms → List AffineForm → WalkSetting
family_setting program trees credits family reader = record {
  program = program;
  trees = trees;
  nest = [];
  nodes = map node_region family.nodes;
  aim = keeps (record { reader = reader; instances = map node_label family.nodes; cells = family.inputs; credits = credits });
}

-- ---- that the start label fixes the rows of the set (condition 13)

-- a form's numbers of so many loop values behind the parameters are a scale times a row of a matrix
abbrev pub IsScaledRow : IntegerMatrix → ℕ → ℕ → ℕ → ℕ → AffineForm → Type 0
IsScaledRow matrix scale parameters loops row form =
    (column : ℕ) → column < loops → coefficient_of (parameters + column) form ≡ pos scale *ℤ entry matrix row column

-- each form of the label is so, for its member of the set
abbrev pub label_rows : IntegerMatrix → ℕ → ℕ → ℕ → List Step → ℕ → List ℕ → List AffineForm → List Claim
label_rows matrix scale parameters loops place index [] label = []
label_rows matrix scale parameters loops place index (row ∷ set) [] = []
label_rows matrix scale parameters loops place index (row ∷ set) (form ∷ label) =
    record { condition = 13; place = place ++ Index index ∷ []; statement = IsScaledRow matrix scale parameters loops row form }
    ∷ label_rows matrix scale parameters loops place (suc index) set label

-- ---- that its walks keep their labels (conditions 15 and 14)

-- the rows of a nest of instances of a statement, whose variables are the loop values
abbrev pub start_rows : WalkSetting → ℕ → List (AffineForm × AffineForm) → List AffineForm
start_rows walk statement nest =
    let vars = region_variables walk statement in within_rows vars nest (parameter_point walk.program vars) (region_values walk statement)

-- the walk from the instances that are counted, whose tree stands at this place
abbrev pub start_tree : AffineProgram → List (List SelectionTree) → ℕ → List (AffineForm × AffineForm) → List CreditedNest → FamilyForms → List Step → List Claim
start_tree program trees statement nest credits family place =
    let walk = family_setting program trees credits family family.start_label in
    walk_claims 15 walk statement place (region_context walk statement (start_rows walk statement nest)) family.start

abbrev pub start_walk : AffineProgram → List (List SelectionTree) → ℕ → List (AffineForm × AffineForm) → List CreditedNest → FamilyForms → List Step → List Claim
start_walk program trees statement nest credits family place =
    start_tree program trees statement nest credits family (place ++ Key (codes "start") ∷ Key (codes "tree") ∷ [])

-- those from the instances of a region, whose label is this, and of a node
abbrev pub region_walk : WalkSetting → List Step → ℕ → Option WalkRegion → List Claim
region_walk walk place statement None = []
region_walk walk place statement (Some region) =
    walk_claims 15 walk statement (place ++ Index statement ∷ Key (codes "region") ∷ Key (codes "tree") ∷ []) (region_context walk statement region.rows) region.tree

abbrev pub node_walk : AffineProgram → List (List SelectionTree) → List CreditedNest → FamilyForms → List Step → ℕ → Option NodeForms → List Claim
node_walk program trees credits family place statement None = []
node_walk program trees credits family place statement (Some node) = region_walk (family_setting program trees credits family node.label) place statement node.region

-- What a family of a nest of instances of a statement claims: that its start label fixes the rows of its set, what its start
-- walk claims, and what the walk in each region does, in the order of statements.
abbrev pub family_claims : AffineProgram → List (List SelectionTree) → ℕ → List (AffineForm × AffineForm) → IntegerMatrix → List CreditedNest → FamilyForms → List Step → List Claim
family_claims program trees statement nest matrix credits family place =
    label_rows matrix family.scale (length program.parameters) (depth_of program statement) (place ++ Key (codes "start") ∷ Key (codes "label") ∷ []) 0 family.set family.start_label
    ++ start_walk program trees statement nest credits family place
    ++ numbered (node_walk program trees credits family (place ++ Key (codes "nodes") ∷ [])) 0 family.nodes
