-- What is asked of joint terms. A statement that isn't there counts as one without loops and reads, a labeling that isn't there as
-- one without labels, and a way that isn't there as one without regions.
use Rattle.std.specs.Prelude.{◌≡◌, ℕ, suc, ◌+◌, true, List, [], ◌∷◌, ◌++◌, length, map, Option, None, Some, slice_index_or, codes}
use Rattle.std.specs.Option.{is_some}
use Rattle.iolb_model.specs.Form.{AffineForm}
use Rattle.iolb_model.specs.Program.{AffineProgram}
use Rattle.claims.specs.Claims.{Claim, numbered}
use Rattle.claims.specs.declared.place.Step.{Step}
use Rattle.claims.specs.declared.place.Step.TheVariants.{Key, Index}
use Rattle.affine_program.specs.Domain.{depth_of, domain_size}
use Rattle.dep_quast.specs.Tree.{SelectionTree}
use Rattle.footprint_pieces.specs.declared.piece.Target.{Target}
use Rattle.footprint_pieces.specs.TargetPairs.{same_in_lists}
use Rattle.joint_partition.specs.Claims.{of_other_groups}
use Rattle.joint_partition.specs.JointWords.{dimensions_of}
use Rattle.joint_partition.specs.Splits.{SplitTree, empty, split}
use Rattle.joint_partition.specs.Term.{JointFamily, JointTerm, LabelForms, PartTerm, StartTerm, WayTerm, credited_nests, labels_of, no_form, way_at}
use Rattle.reuse_paths.specs.Families.{CreditedNest}
use Rattle.reuse_paths.specs.Walks.{WalkRegion}
use Rattle.reuse_paths.specs.WalkSettings.{WalkSetting, keeps}
use Rattle.certificate_fit.specs.FamilyFit.{credit_count_fit, credit_nest_fit, inputs_fit, instances_fit, set_fit}
use Rattle.certificate_fit.specs.FitClaims.{names, so_many}
use Rattle.certificate_fit.specs.PartFit.{form_fits, forms_fit, matrix_fit, shown_fit}
use Rattle.certificate_fit.specs.WalkFit.{region_fit_at, walk_fit}
use Rattle.iolb_check.specs.FamilyTargets.{group_family_targets}
use Rattle.iolb_check.specs.PartitionFit.{credit_at}

-- ---- what shows that no two families of different groups have a word in common

-- for each target of each family's pieces the same targets of each later family of another group
abbrev pub group_targets : AffineProgram → List (List SelectionTree) → List PartTerm → List JointFamily → List Target
group_targets program trees parts [] = []
group_targets program trees parts (family ∷ families) =
    same_in_lists (group_family_targets program trees parts family) (map (group_family_targets program trees parts) (of_other_groups family families)) ++ group_targets program trees parts families

-- ---- what shows that the images of two parts differ

-- a split over so many variables
abbrev pub split_fit : ℕ → List Step → SplitTree → List Claim
split_fit variables place (empty shown) = []
split_fit variables place (split form above below) =
    form_fits variables (place ++ Key (codes "form") ∷ []) form
    ∷ split_fit variables (place ++ Key (codes "no") ∷ []) below ++ split_fit variables (place ++ Key (codes "yes") ∷ []) above

-- how many variables there are for each two parts: the parameters, the loop values of the first and those of the second
abbrev pub pair_variables : AffineProgram → PartTerm → PartTerm → ℕ
pair_variables program part other = length program.parameters + depth_of program part.statement + depth_of program other.statement

abbrev pub variables_of_pairs : AffineProgram → List PartTerm → List ℕ
variables_of_pairs program [] = []
variables_of_pairs program (part ∷ parts) = map (pair_variables program part) parts ++ variables_of_pairs program parts

-- splits from an index on, each over as many variables as there are for its pair
abbrev pub splits_fit : List Step → ℕ → List ℕ → List SplitTree → List Claim
splits_fit place index [] trees = []
splits_fit place index (variables ∷ pairs) [] = []
splits_fit place index (variables ∷ pairs) (tree ∷ trees) = split_fit variables (place ++ Index index ∷ []) tree ++ splits_fit place (suc index) pairs trees

-- one for each two parts
abbrev pub distinct_fit : AffineProgram → List Step → JointTerm → List Claim
distinct_fit program place term =
    so_many place (length term.distinct) (length (variables_of_pairs program term.parts)) ∷ splits_fit place 0 (variables_of_pairs program term.parts) term.distinct

-- ---- families

-- a labeling, whose labels have so many forms
abbrev pub labeling_at : AffineProgram → ℕ → List Step → ℕ → LabelForms → List Claim
labeling_at program size place index labels =
    inputs_fit program ((place ++ Index index ∷ []) ++ Key (codes "inputs") ∷ []) size labels.inputs
    ++ instances_fit program ((place ++ Index index ∷ []) ++ Key (codes "nodes") ∷ []) size labels.nodes

abbrev pub labelings_fit : AffineProgram → List Step → JointFamily → List Claim
labelings_fit program place family = numbered (labeling_at program (length family.set) place) 0 family.labels

-- The setting of walks that go on in these regions. Only lengths are asked here, so a label is as many forms as it is to have.
abbrev pub walks_in : AffineProgram → List (List SelectionTree) → List CreditedNest → JointFamily → List (Option WalkRegion) → WalkSetting
walks_in program trees credits family regions = record {
  program = program;
  trees = trees;
  nest = [];
  nodes = regions;
  aim = keeps (record { reader = map (λ (i : ℕ). no_form) family.set; instances = []; cells = []; credits = credits });
}

-- how walks start from a part, and the way that they enter
abbrev pub start_fit : AffineProgram → List (List SelectionTree) → List CreditedNest → JointFamily → List Step → PartTerm → StartTerm → List Claim
start_fit program trees credits family place part start =
    walk_fit (walks_in program trees credits family (way_at family start.way).regions) part.statement (place ++ Key (codes "tree") ∷ []) start.tree
    ++ names (place ++ Key (codes "way") ∷ []) start.way (length family.ways) ∷ []

-- starts from an index on, one for each part
abbrev pub starts_fit : AffineProgram → List (List SelectionTree) → List CreditedNest → JointFamily → List Step → ℕ → List PartTerm → List StartTerm → List Claim
starts_fit program trees credits family place index [] starts = []
starts_fit program trees credits family place index (part ∷ parts) [] = []
starts_fit program trees credits family place index (part ∷ parts) (start ∷ starts) =
    start_fit program trees credits family (place ++ Index index ∷ []) part start ++ starts_fit program trees credits family place (suc index) parts starts

abbrev pub all_starts_fit : AffineProgram → List (List SelectionTree) → List CreditedNest → List PartTerm → List Step → JointFamily → List Claim
all_starts_fit program trees credits parts place family =
    so_many place (length family.starts) (length parts) ∷ starts_fit program trees credits family place 0 parts family.starts

-- a region of a way: its statement has a label
abbrev pub labeled_fit : WalkSetting → LabelForms → List Step → ℕ → Option WalkRegion → List Claim
labeled_fit walk labels place statement None = []
labeled_fit walk labels place statement (Some region) =
    record { condition = 1; place = place ++ Index statement ∷ []; statement = is_some (slice_index_or labels.nodes statement None) ≡ true }
    ∷ region_fit_at walk statement (place ++ Index statement ∷ []) (Some region)

-- the regions of a way, one or none for each statement
abbrev pub regions_fit : AffineProgram → List (List SelectionTree) → List CreditedNest → JointFamily → List Step → WayTerm → List Claim
regions_fit program trees credits family place way =
    so_many place (length way.regions) (length program.statements)
    ∷ numbered (labeled_fit (walks_in program trees credits family way.regions) (labels_of family way.labels) place) 0 way.regions

-- a way: its labeling, and its regions
abbrev pub way_fit_at : AffineProgram → List (List SelectionTree) → List CreditedNest → JointFamily → List Step → ℕ → WayTerm → List Claim
way_fit_at program trees credits family place index way =
    names ((place ++ Index index ∷ []) ++ Key (codes "labels") ∷ []) way.labels (length family.labels)
    ∷ regions_fit program trees credits family ((place ++ Index index ∷ []) ++ Key (codes "regions") ∷ []) way

abbrev pub ways_fit : AffineProgram → List (List SelectionTree) → List CreditedNest → List Step → JointFamily → List Claim
ways_fit program trees credits place family = numbered (way_fit_at program trees credits family place) 0 family.ways

-- what is said of a family's walks: how they start, and its ways
abbrev pub group_walks_fit : AffineProgram → List (List SelectionTree) → List CreditedNest → List PartTerm → List Step → JointFamily → List Claim
group_walks_fit program trees credits parts place family =
    all_starts_fit program trees credits parts (place ++ Key (codes "starts") ∷ []) family ++ ways_fit program trees credits (place ++ Key (codes "ways") ∷ []) family

-- a family, its members in the order of their keys
abbrev pub group_family_fit : AffineProgram → List (List SelectionTree) → JointTerm → List Step → JointFamily → List Claim
group_family_fit program trees term place family =
    labelings_fit program (place ++ Key (codes "labels") ∷ []) family
    ++ (set_fit (dimensions_of term) (place ++ Key (codes "set") ∷ []) family.set ++ group_walks_fit program trees (credited_nests term) term.parts place family)

abbrev pub group_family_at : AffineProgram → List (List SelectionTree) → JointTerm → List Step → ℕ → JointFamily → List Claim
group_family_at program trees term place index family = group_family_fit program trees term (place ++ Index index ∷ []) family

-- ---- parts

-- a part's points, as a nest
abbrev pub nest_of_part : PartTerm → CreditedNest
nest_of_part part = record { statement = part.statement; nest = part.nest }

-- the multipliers which show that the points are instances, and the inverse: a row for each loop and a column for each form of the map
abbrev pub inverse_fit : AffineProgram → ℕ → List Step → PartTerm → List Claim
inverse_fit program dimensions place part =
    shown_fit (domain_size program part.statement) (place ++ Key (codes "inside") ∷ []) part.inside
    ∷ matrix_fit (depth_of program part.statement) dimensions (place ++ Key (codes "inverse") ∷ Key (codes "matrix") ∷ []) part.inverse

-- the map: as many forms as that of the first part
abbrev pub map_fit : AffineProgram → ℕ → List Step → PartTerm → List Claim
map_fit program dimensions place part =
    so_many (place ++ Key (codes "map") ∷ []) (length part.image) dimensions
    ∷ forms_fit (length program.parameters + depth_of program part.statement) (place ++ Key (codes "map") ∷ []) part.image

-- a part, its members in the order of their keys
abbrev pub part_fit : AffineProgram → ℕ → List Step → PartTerm → List Claim
part_fit program dimensions place part =
    inverse_fit program dimensions place part
    ++ (map_fit program dimensions place part ++ (credit_nest_fit program place (nest_of_part part) ++ credit_count_fit program place (nest_of_part part) part.count))

abbrev pub part_at : AffineProgram → ℕ → List Step → ℕ → PartTerm → List Claim
part_at program dimensions place index part = part_fit program dimensions (place ++ Index index ∷ []) part

-- ---- all

-- what shows that the groups and the images are apart, with the credits
abbrev pub apart_front_fit : AffineProgram → List (List SelectionTree) → List Step → JointTerm → List Claim
apart_front_fit program trees place term =
    shown_fit (length (group_targets program trees term.parts term.families)) (place ++ Key (codes "apart") ∷ []) term.apart
    ∷ numbered (credit_at program (place ++ Key (codes "credits") ∷ [])) 0 term.credits
    ++ distinct_fit program (place ++ Key (codes "distinct") ∷ []) term

-- A joint term, its members in the order of their keys.
abbrev pub joint_fit : AffineProgram → List (List SelectionTree) → List Step → JointTerm → List Claim
joint_fit program trees place term =
    apart_front_fit program trees place term
    ++ (numbered (group_family_at program trees term (place ++ Key (codes "families") ∷ [])) 0 term.families
    ++ numbered (part_at program (dimensions_of term) (place ++ Key (codes "parts") ∷ [])) 0 term.parts)
