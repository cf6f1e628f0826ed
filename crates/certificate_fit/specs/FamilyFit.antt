-- What is asked of families of walks and of credited nests. A statement that isn't there counts as one without loops and
-- reads, and an array that isn't there as one without subscripts. A list is looked at before its members.
use Rattle.std.specs.Prelude.{⊤, ℕ, suc, ◌+◌, ◌<◌, ◌≤◌, List, [], ◌∷◌, ◌++◌, length, Option, None, Some, slice_get, codes}
use Rattle.iolb_model.specs.Form.{AffineForm}
use Rattle.iolb_model.specs.Program.{Array, AffineProgram}
use Rattle.claims.specs.Claims.{Claim, numbered}
use Rattle.claims.specs.declared.place.Step.{Step}
use Rattle.claims.specs.declared.place.Step.TheVariants.{Key, Index}
use Rattle.affine_program.specs.Domain.{depth_of}
use Rattle.dep_quast.specs.Tree.{SelectionTree}
use Rattle.domain_count.specs.Claims.{SumClaims}
use Rattle.reuse_paths.specs.Families.{CreditedNest, NodeForms, FamilyForms}
use Rattle.reuse_paths.specs.FamilyClaims.{family_setting}
use Rattle.certificate_fit.specs.FitClaims.{so_many, names}
use Rattle.certificate_fit.specs.PartFit.{bounds_fit, forms_fit, polynomials_fit, shown_fit}
use Rattle.certificate_fit.specs.WalkFit.{region_fit_at, walk_fit}

-- ---- labels

-- a label: so many forms, each over so many variables
abbrev pub label_fit : ℕ → ℕ → List Step → List AffineForm → List Claim
label_fit size variables place label = so_many place (length label) size ∷ forms_fit variables place label

-- how many subscripts an array has
abbrev pub subscripts_of : Option Array → ℕ
subscripts_of None = 0
subscripts_of (Some array) = array.rank

-- that of an array's cells, where they have one, over the parameters and the subscripts
abbrev pub input_fit : AffineProgram → ℕ → List Step → ℕ → Option (List AffineForm) → List Claim
input_fit program size place array None = []
input_fit program size place array (Some label) =
    label_fit size (length program.parameters + subscripts_of (slice_get program.arrays array)) (place ++ Index array ∷ []) label

-- those of all arrays' cells, one or none for each
abbrev pub inputs_fit : AffineProgram → List Step → ℕ → List (Option (List AffineForm)) → List Claim
inputs_fit program place size labels = so_many place (length labels) (length program.arrays) ∷ numbered (input_fit program size place) 0 labels

-- that of a statement's instances, where they have one, over the parameters and the loop values
abbrev pub instance_fit : AffineProgram → ℕ → List Step → ℕ → Option (List AffineForm) → List Claim
instance_fit program size place statement None = []
instance_fit program size place statement (Some label) =
    label_fit size (length program.parameters + depth_of program statement) (place ++ Index statement ∷ []) label

-- those of all statements' instances, one or none for each
abbrev pub instances_fit : AffineProgram → List Step → ℕ → List (Option (List AffineForm)) → List Claim
instances_fit program place size labels = so_many place (length labels) (length program.statements) ∷ numbered (instance_fit program size place) 0 labels

-- ---- families

-- a node of a statement: the label of its instances, over the parameters and the loop values, and the region
abbrev pub node_fit_at : AffineProgram → List (List SelectionTree) → List CreditedNest → FamilyForms → List Step → ℕ → NodeForms → List Claim
node_fit_at program trees credits family place statement node =
    label_fit (length family.set) (length program.parameters + depth_of program statement) (place ++ Key (codes "label") ∷ []) node.label
    ++ region_fit_at (family_setting program trees credits family node.label) statement (place ++ Key (codes "region") ∷ []) node.region

-- what a family says of a statement, in a list at a place
abbrev pub node_fit : AffineProgram → List (List SelectionTree) → List CreditedNest → FamilyForms → List Step → ℕ → Option NodeForms → List Claim
node_fit program trees credits family place statement None = []
node_fit program trees credits family place statement (Some node) = node_fit_at program trees credits family (place ++ Index statement ∷ []) statement node

-- rows that rise and are below the depth: each is at least a number, and the next is greater
abbrev pub RisesBelow : ℕ → ℕ → List ℕ → Type 0
RisesBelow depth least [] = ⊤
RisesBelow depth least (row ∷ set) = ((least ≤ row) × (row < depth)) × RisesBelow depth (suc row) set

-- A set rises and is below the depth.
abbrev pub set_fit : ℕ → List Step → List ℕ → List Claim
set_fit depth place set = record { condition = 1; place = place; statement = RisesBelow depth 0 set } ∷ []

-- the walk from the instances that are counted, and the label that it begins with
abbrev pub start_fit : AffineProgram → List (List SelectionTree) → ℕ → List CreditedNest → List Step → FamilyForms → List Claim
start_fit program trees statement credits place family =
    label_fit (length family.set) (length program.parameters + depth_of program statement) (place ++ Key (codes "label") ∷ []) family.start_label
    ++ walk_fit (family_setting program trees credits family family.start_label) statement (place ++ Key (codes "tree") ∷ []) family.start

-- what it says of the statements, one node or none for each
abbrev pub nodes_fit : AffineProgram → List (List SelectionTree) → List CreditedNest → List Step → FamilyForms → List Claim
nodes_fit program trees credits place family =
    so_many place (length family.nodes) (length program.statements) ∷ numbered (node_fit program trees credits family place) 0 family.nodes

-- A family of counted instances of a statement, its members in the order of their keys.
abbrev pub family_fit : AffineProgram → List (List SelectionTree) → ℕ → List CreditedNest → List Step → FamilyForms → List Claim
family_fit program trees statement credits place family =
    inputs_fit program (place ++ Key (codes "inputs") ∷ []) (length family.set) family.inputs
    ++ (nodes_fit program trees credits (place ++ Key (codes "nodes") ∷ []) family
    ++ (set_fit (depth_of program statement) (place ++ Key (codes "set") ∷ []) family.set
    ++ start_fit program trees statement credits (place ++ Key (codes "start") ∷ []) family))

-- families, each at its index in a list
abbrev pub family_at : AffineProgram → List (List SelectionTree) → ℕ → List CreditedNest → List Step → ℕ → FamilyForms → List Claim
family_at program trees statement credits place index family = family_fit program trees statement credits (place ++ Index index ∷ []) family

abbrev pub families_fit : AffineProgram → List (List SelectionTree) → ℕ → List CreditedNest → List Step → List FamilyForms → List Claim
families_fit program trees statement credits place families = numbered (family_at program trees statement credits place) 0 families

-- ---- credits

-- the nest of a credit: a variable for each loop around the statement
abbrev pub credit_nest_fit : AffineProgram → List Step → CreditedNest → List Claim
credit_nest_fit program place credit =
    so_many (place ++ Key (codes "nest") ∷ []) (length credit.nest) (depth_of program credit.statement) ∷ bounds_fit (length program.parameters) (place ++ Key (codes "nest") ∷ []) credit.nest

-- the statement, and what is claimed of how many instances are in the nest
abbrev pub credit_count_fit : AffineProgram → List Step → CreditedNest → SumClaims → List Claim
credit_count_fit program place credit count =
    shown_fit (length credit.nest) (place ++ Key (codes "shown") ∷ []) count.shown
    ∷ names (place ++ Key (codes "statement") ∷ []) credit.statement (length program.statements)
    ∷ polynomials_fit (length program.parameters) (place ++ Key (codes "sums") ∷ []) count.sums (length credit.nest)

-- A credit, its members in the order of their keys.
abbrev pub credit_fit : AffineProgram → List Step → CreditedNest → SumClaims → List Claim
credit_fit program place credit count = credit_nest_fit program place credit ++ credit_count_fit program place credit count
