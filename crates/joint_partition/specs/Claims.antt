-- What a joint partition term claims, in the order in which it is tested.
use Rattle.std.specs.Prelude.{◌≡◌, ℕ, suc, ◌+◌, ◌≤◌, ◌==◌, not, cond, List, [], ◌∷◌, ◌++◌, codes, drop, filter, flat_map, length, map, Option, None, Some, sum_by, take}
use Rattle.iolb_model.specs.Form.{AffineForm}
use Rattle.iolb_model.specs.Game.{stands_in}
use Rattle.iolb_model.specs.Program.{AffineProgram}
use Rattle.affine_form.specs.Rows.{equality_rows, put_in, variables_from, widened, within_rows}
use Rattle.affine_form.specs.System.{AffineSystem}
use Rattle.affine_program.specs.Domain.{domain_rows}
use Rattle.claims.specs.Claims.{Claim, counted, numbered}
use Rattle.claims.specs.Shown.{follow_claims, pointless_claims}
use Rattle.claims.specs.declared.place.Step.{Step}
use Rattle.claims.specs.declared.place.Step.TheVariants.{Index, Key}
use Rattle.dep_quast.specs.Context.{parameter_point}
use Rattle.dep_quast.specs.Tree.{SelectionTree}
use Rattle.domain_count.specs.Count.{rows_before}
use Rattle.domain_count.specs.CountClaims.{count_claims}
use Rattle.execution_laws.specs.Inverse.{product_entry, scaled_entry}
use Rattle.footprint_pieces.specs.DisjointClaims.{systems_with_lists}
use Rattle.footprint_pieces.specs.Pieces.{FootprintPiece}
use Rattle.k_partition.specs.PartitionClaims.{HasCreditsTotal, credit_claims}
use Rattle.k_partition.specs.Term.{CreditTerm}
use Rattle.reuse_paths.specs.Families.{FamilyForms, NodeForms}
use Rattle.reuse_paths.specs.FamilyClaims.{family_setting, start_rows}
use Rattle.reuse_paths.specs.FamilyPieces.{regions_pieces}
use Rattle.reuse_paths.specs.MatrixRows.{matrix_rows}
use Rattle.reuse_paths.specs.WalkClaims.{walk_claims}
use Rattle.reuse_paths.specs.WalkPieces.{walk_pieces}
use Rattle.reuse_paths.specs.WalkSettings.{WalkSetting, region_context}
use Rattle.reuse_paths.specs.Walks.{WalkRegion}
use Rattle.joint_partition.specs.JointWords.{dimensions_of, map_rows}
use Rattle.joint_partition.specs.Splits.{SplitTree, split_claims}
use Rattle.joint_partition.specs.Term.{JointFamily, JointTerm, PartTerm, PartWalks, WayTerm, credited_nests, part_walks, way_walks}

-- the place of a member of a list under a key
abbrev pub member_at : List Step → List ℕ → ℕ → List Step
member_at place key index = place ++ Key key ∷ Index index ∷ []

-- ---- parts: how many points they have (conditions 8 and 9), added up (condition 2), that these are instances (condition 10), and
-- that the map has a scaled inverse (condition 12)

-- a part's points, as a nest whose points are counted
abbrev pub count_of : PartTerm → CreditTerm
count_of part = record { nest = record { statement = part.statement; nest = part.nest }; count = part.count }

abbrev pub total_claim : AffineProgram → List Step → List PartTerm → ℕ → List Claim
total_claim program place parts index =
    record { condition = 2; place = place ++ Key (codes "sums") ∷ []; statement = HasCreditsTotal (length program.parameters) (map count_of (take (suc index) parts)) } ∷ []

abbrev pub inside_goals : AffineProgram → PartTerm → List AffineForm
inside_goals program part =
    let vars = length program.parameters + length part.nest in
    domain_rows program part.statement vars (parameter_point program vars) (variables_from vars (length program.parameters) (length part.nest))

abbrev pub inside_claims : AffineProgram → List Step → PartTerm → List Claim
inside_claims program place part = follow_claims 10 (place ++ Key (codes "inside") ∷ []) (rows_before program part.nest) 0 (inside_goals program part) part.inside

abbrev pub unit_claim : AffineProgram → List Step → PartTerm → ℕ → ℕ → List Claim
unit_claim program place part row column = record {
  condition = 12;
  place = place ++ Key (codes "inverse") ∷ Key (codes "matrix") ∷ Index row ∷ Index column ∷ [];
  statement = product_entry (matrix_rows part.inverse) (map_rows program part) row column ≡ scaled_entry part.scale row column;
} ∷ []

abbrev pub unit_claims : AffineProgram → List Step → PartTerm → List Claim
unit_claims program place part = counted (λ row. counted (unit_claim program place part row) 0 (length part.nest)) 0 (length part.nest)

abbrev pub part_claims : AffineProgram → List Step → List PartTerm → ℕ → PartTerm → List Claim
part_claims program place parts index part =
    let here = member_at place (codes "parts") index in
    count_claims program part.nest part.count here ++ total_claim program here parts index ++ inside_claims program here part ++ unit_claims program here part

-- ---- that the images of two parts differ (condition 25)

-- the variables of two parts: the parameters, the loop values of the first, and those of the second
abbrev pub two_variables : AffineProgram → PartTerm → PartTerm → ℕ
two_variables program first second = length program.parameters + length first.nest + length second.nest

abbrev pub first_values : AffineProgram → PartTerm → PartTerm → List AffineForm
first_values program first second = variables_from (two_variables program first second) (length program.parameters) (length first.nest)

abbrev pub second_values : AffineProgram → PartTerm → PartTerm → List AffineForm
second_values program first second = variables_from (two_variables program first second) (length program.parameters + length first.nest) (length second.nest)

-- The rows which say that two parts have an image in common: the assumptions, the bounds of the first nest and of the second, and
-- that the maps are equal, form by form.
abbrev pub two_rows : AffineProgram → PartTerm → PartTerm → List AffineForm
two_rows program first second =
    let vars = two_variables program first second in
    let params = parameter_point program vars in
    map (widened vars) program.assumptions
    ++ within_rows vars first.nest params (first_values program first second)
    ++ within_rows vars second.nest params (second_values program first second)
    ++ equality_rows vars (put_in (params ++ first_values program first second) first.image) (put_in (params ++ second_values program first second) second.image)

abbrev pub apart_claims : AffineProgram → ℕ → List Step → PartTerm → PartTerm → SplitTree → List Claim
apart_claims program index place first second tree =
    split_claims 25 (member_at place (codes "distinct") index) (two_variables program first second) (two_rows program first second) tree

-- a part and each part of a list, by the splits from a number on
abbrev pub apart_from : AffineProgram → List Step → ℕ → PartTerm → List PartTerm → List SplitTree → List Claim
apart_from program place index part [] trees = []
apart_from program place index part (other ∷ others) [] = []
apart_from program place index part (other ∷ others) (tree ∷ trees) =
    apart_claims program index place part other tree ++ apart_from program place (suc index) part others trees

-- each part and each later one
abbrev pub distinct_claims : AffineProgram → List Step → ℕ → List PartTerm → List SplitTree → List Claim
distinct_claims program place index [] trees = []
distinct_claims program place index (part ∷ parts) trees =
    apart_from program place index part parts trees ++ distinct_claims program place (index + length parts) parts (drop (length parts) trees)

-- ---- that the sets cover each coordinate (condition 17)

abbrev pub weight_at : List JointFamily → ℕ → ℕ
weight_at families coordinate = sum_by (λ (family : JointFamily). cond (stands_in family.set coordinate) family.weight 0) families

abbrev pub cover_claim : List Step → JointTerm → ℕ → List Claim
cover_claim place term coordinate = record {
  condition = 17;
  place = place ++ Key (codes "parts") ∷ Index 0 ∷ Key (codes "map") ∷ Index coordinate ∷ [];
  statement = term.q ≤ weight_at term.families coordinate;
} ∷ []

abbrev pub cover_claims : List Step → JointTerm → List Claim
cover_claims place term = counted (cover_claim place term) 0 (dimensions_of term)

-- ---- that the walks of a family keep their labels (conditions 15 and 14)

-- the setting of walks
abbrev pub setting_of : AffineProgram → List (List SelectionTree) → JointTerm → FamilyForms → List AffineForm → WalkSetting
setting_of program trees term walks reader = family_setting program trees (credited_nests term) walks reader

abbrev pub start_claims : AffineProgram → List (List SelectionTree) → JointTerm → List Step → ℕ → PartWalks → List Claim
start_claims program trees term place index from =
    let walk = setting_of program trees term from.walks from.walks.start_label in
    walk_claims 15 walk from.part.statement (member_at place (codes "starts") index ++ Key (codes "tree") ∷ [])
    (region_context walk from.part.statement (start_rows walk from.part.statement from.part.nest)) from.walks.start

-- what the region of a statement claims, whose instances have this label
abbrev pub region_claims : WalkSetting → List Step → ℕ → Option WalkRegion → List Claim
region_claims walk place statement None = []
region_claims walk place statement (Some region) =
    walk_claims 15 walk statement (member_at place (codes "regions") statement ++ Key (codes "tree") ∷ []) (region_context walk statement region.rows) region.tree

abbrev pub node_claims : AffineProgram → List (List SelectionTree) → JointTerm → FamilyForms → List Step → ℕ → Option NodeForms → List Claim
node_claims program trees term walks place statement None = []
node_claims program trees term walks place statement (Some node) = region_claims (setting_of program trees term walks node.label) place statement node.region

-- what a way claims in its regions, in the order of statements
abbrev pub way_claims : AffineProgram → List (List SelectionTree) → JointTerm → JointFamily → List Step → ℕ → WayTerm → List Claim
way_claims program trees term family place index way =
    let walks = way_walks family way in numbered (node_claims program trees term walks (member_at place (codes "ways") index)) 0 walks.nodes

abbrev pub family_claims : AffineProgram → List (List SelectionTree) → JointTerm → List Step → ℕ → JointFamily → List Claim
family_claims program trees term place index family =
    let here = member_at place (codes "families") index in
    numbered (start_claims program trees term here) 0 (part_walks family term.parts family.starts)
    ++ numbered (way_claims program trees term family here) 0 family.ways

abbrev pub families_claims : AffineProgram → List (List SelectionTree) → List Step → JointTerm → List Claim
families_claims program trees place term = numbered (family_claims program trees term place) 0 term.families

-- ---- that no two families of different groups have a word in common (condition 18)

-- the pieces of walks from a part, and those of the regions of a way
abbrev pub start_pieces : AffineProgram → List (List SelectionTree) → PartWalks → List FootprintPiece
start_pieces program trees from =
    let walk = family_setting program trees [] from.walks from.walks.start_label in
    walk_pieces walk from.part.statement (region_context walk from.part.statement (start_rows walk from.part.statement from.part.nest)) from.walks.start

abbrev pub way_pieces : AffineProgram → List (List SelectionTree) → JointFamily → WayTerm → List FootprintPiece
way_pieces program trees family way = let walk = family_setting program trees [] (way_walks family way) [] in regions_pieces walk 0 walk.nodes

-- The pieces of a family: its starts by part, then its ways in order.
abbrev pub family_pieces : AffineProgram → List (List SelectionTree) → JointTerm → JointFamily → List FootprintPiece
family_pieces program trees term family =
    flat_map (start_pieces program trees) (part_walks family term.parts family.starts) ++ flat_map (way_pieces program trees family) family.ways

-- the families of other groups than this one's
abbrev pub of_other_groups : JointFamily → List JointFamily → List JointFamily
of_other_groups family others = filter (λ (other : JointFamily). not (other.group == family.group)) others

-- the systems of each family's pieces with those of each later one of another group
abbrev pub group_systems : AffineProgram → List (List SelectionTree) → JointTerm → List JointFamily → List AffineSystem
group_systems program trees term [] = []
group_systems program trees term (family ∷ families) =
    systems_with_lists program (family_pieces program trees term family) (map (family_pieces program trees term) (of_other_groups family families))
    ++ group_systems program trees term families

-- that no two families of different groups have a word in common, by the multipliers of the term
abbrev pub apart_claims_of : AffineProgram → List (List SelectionTree) → List Step → JointTerm → List Claim
apart_claims_of program trees place term = pointless_claims 18 (place ++ Key (codes "apart") ∷ []) 0 (group_systems program trees term term.families) term.apart

-- ---- all

-- what is claimed of the parts, and of their images
abbrev pub parts_claims : AffineProgram → List Step → JointTerm → List Claim
parts_claims program place term = numbered (part_claims program place term.parts) 0 term.parts

-- What is claimed of the points: part by part; that the images differ; credit by credit; and the cover.
abbrev pub points_claims : AffineProgram → List Step → JointTerm → List Claim
points_claims program place term =
    parts_claims program place term
    ++ distinct_claims program place 0 term.parts term.distinct
    ++ numbered (credit_claims program place term.credits) 0 term.credits
    ++ cover_claims place term

-- What a joint partition term claims: of its points; family by family; and that the groups are apart.
abbrev pub joint_claims : AffineProgram → List (List SelectionTree) → List Step → JointTerm → List Claim
joint_claims program trees place term = points_claims program place term ++ families_claims program trees place term ++ apart_claims_of program trees place term
