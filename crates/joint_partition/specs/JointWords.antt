-- What a joint partition term is in the computation graph at parameter values: counted points, and words with labels, group by group.
use Rattle.std.specs.Prelude.{◌≡◌, ⊤, ℕ, ◌+◌, ◌<◌, ◌≤◌, ◌==◌, nat_eq, cond, ℤ, pos, ◌*ℤ◌, List, [], ◌∷◌, ◌++◌, drop, filter, flat_map, length, map, slice_index_or, sum_by, Contains}
use Rattle.std.specs.List.{AllByRecursion, range_with_len}
use Rattle.iolb_model.specs.Form.{AffineForm}
use Rattle.iolb_model.specs.Program.{AffineProgram, IsWellFormed}
use Rattle.iolb_model.specs.Bound.{IsAdmitted}
use Rattle.iolb_model.specs.Footprint.{ArePairwiseDisjoint}
use Rattle.iolb_model.specs.Game.{stands_in}
use Rattle.iolb_model.specs.Graph.{computation_graph, distinct}
use Rattle.affine_form.specs.Substitution.{values_at}
use Rattle.domain_count.specs.Points.{points}
use Rattle.execution_laws.specs.Inverse.{IsScaledInverse}
use Rattle.k_partition.specs.ReusedWords.{credited_vertices, vertex_label}
use Rattle.reuse_paths.specs.FamilyFootprint.{family_footprint, instances_in}
use Rattle.reuse_paths.specs.MatrixRows.{matrix_rows}
use Rattle.reuse_paths.specs.Places.{IsExecuted, place_of}
use Rattle.reuse_paths.specs.SoundFamilies.{IsSoundFamily}
use Rattle.stretch_laws.specs.Reuse.{CountedPoint, IsSoundJoint, JointPartition, Labeling, WalkFamily, coordinate_of, group_words}
use Rattle.joint_partition.specs.Term.{JointFamily, JointTerm, PartTerm, PartWalks, credited_nests, part_walks, way_walks}

-- ---- points

-- the counted points of a part: the vertex of each instance, with its image
abbrev pub counted_point : AffineProgram → List ℤ → PartTerm → List ℤ → CountedPoint
counted_point program parameters part values = record {
  vertex = place_of program parameters (record { statement = part.statement; values = values });
  image = values_at part.image (parameters ++ values);
}

abbrev pub part_points : AffineProgram → List ℤ → PartTerm → List CountedPoint
part_points program parameters part = map (counted_point program parameters part) (points part.nest parameters)

-- those of all parts, and how many forms their maps have
abbrev pub joint_points : AffineProgram → JointTerm → List ℤ → List CountedPoint
joint_points program term parameters = flat_map (part_points program parameters) term.parts

abbrev pub dimensions_of : JointTerm → ℕ
dimensions_of term = length (slice_index_or (map (λ (part : PartTerm). part.image) term.parts) 0 [])

-- ---- words

-- the vertices that walks from a part name
abbrev pub walk_words : AffineProgram → List ℤ → PartWalks → List ℕ
walk_words program parameters from = family_footprint program from.part.statement from.part.nest from.walks parameters

-- the walks of a family that have the labeling with this number
abbrev pub walks_labeled : JointTerm → JointFamily → ℕ → List PartWalks
walks_labeled term family number = filter (λ (from : PartWalks). from.labeling == number) (part_walks family term.parts family.starts)

-- a labeling: what these walks name, with the label of each vertex
abbrev pub labeling_at : AffineProgram → JointTerm → List ℤ → JointFamily → ℕ → Labeling
labeling_at program term parameters family number = record {
  words = flat_map (walk_words program parameters) (walks_labeled term family number);
  label = vertex_label program (way_walks family (record { labels = number; regions = [] })) parameters;
}

-- A family: its labelings; the start label of a point has the scale times the coordinates of the set.
abbrev pub walk_family : AffineProgram → JointTerm → List ℤ → JointFamily → WalkFamily
walk_family program term parameters family = record {
  labelings = map (labeling_at program term parameters family) (range_with_len 0 (length family.labels));
  start = λ point. map (λ (i : ℕ). pos family.scale *ℤ coordinate_of point i) family.set;
  has = stands_in family.set;
  weight = family.weight;
}

-- ---- groups

-- the numbers of the groups, each once, and the families of one
abbrev pub group_numbers : JointTerm → List ℕ
group_numbers term = distinct nat_eq (map (λ (family : JointFamily). family.group) term.families)

abbrev pub families_in : JointTerm → ℕ → List JointFamily
families_in term number = filter (λ (family : JointFamily). family.group == number) term.families

-- The term at parameter values.
abbrev pub joint_partition : AffineProgram → JointTerm → List ℤ → JointPartition
joint_partition program term parameters = record {
  points = joint_points program term parameters;
  dimensions = dimensions_of term;
  groups = map (λ (number : ℕ). map (walk_family program term parameters) (families_in term number)) (group_numbers term);
  credited = credited_vertices program (credited_nests term) parameters;
}

-- ---- soundness

-- the coefficients of a part's loop values in its map, row by row
abbrev pub map_rows : AffineProgram → PartTerm → List (List ℤ)
map_rows program part = map (λ (form : AffineForm). drop (length program.parameters) form.coefficients) part.image

-- A part is sound: its points are instances, its images have so many coordinates, and its map has a scaled inverse.
pub record IsSoundPart (program : AffineProgram) (dimensions : ℕ) (part : PartTerm) : Type 0 where
  pub instances : (parameters : List ℤ) → IsAdmitted program parameters → AllByRecursion (IsExecuted program parameters) (instances_in part.statement part.nest parameters)
  pub long : length part.image ≡ dimensions
  pub over : AllByRecursion (λ (form : AffineForm). length form.coefficients ≡ length program.parameters + length part.nest) part.image
  pub positive : 1 ≤ part.scale
  pub undone : IsScaledInverse part.scale (length part.nest) (matrix_rows part.inverse) (map_rows program part)

-- no point of a part has the image of one of another
abbrev pub AreImagesApart : AffineProgram → PartTerm → PartTerm → Type 0
AreImagesApart program first second = (parameters values others : List ℤ) → IsAdmitted program parameters → Contains (points first.nest parameters) values
    → Contains (points second.nest parameters) others → values_at first.image (parameters ++ values) ≡ values_at second.image (parameters ++ others) → ⊥

-- so of each part and each later one
abbrev pub ArePartsApart : AffineProgram → List PartTerm → Type 0
ArePartsApart program [] = ⊤
ArePartsApart program (part ∷ parts) = AllByRecursion (AreImagesApart program part) parts × ArePartsApart program parts

-- A family is sound: there is a start for each part, which enters a labeling that is there, and its walks are sound.
pub record IsSoundJointFamily (program : AffineProgram) (term : JointTerm) (family : JointFamily) : Type 0 where
  pub scale : 1 ≤ family.scale
  pub one_each : length family.starts ≡ length term.parts
  pub labeled : AllByRecursion (λ (from : PartWalks). from.labeling < length family.labels) (part_walks family term.parts family.starts)
  pub walks : AllByRecursion (λ (from : PartWalks). IsSoundFamily program from.part.statement from.part.nest (credited_nests term) from.walks) (part_walks family term.parts family.starts)

-- A joint partition term is sound: its parts are, their images differ, its families are, and each coordinate lies in sets of
-- total weight at least q.
pub record IsSoundJointTerm (program : AffineProgram) (term : JointTerm) : Type 0 where
  pub parts : AllByRecursion (IsSoundPart program (dimensions_of term)) term.parts
  pub apart : ArePartsApart program term.parts
  pub families : AllByRecursion (IsSoundJointFamily program term) term.families
  pub positive : 1 ≤ term.q
  pub covered : (i : ℕ) → i < dimensions_of term → term.q ≤ sum_by (λ (family : JointFamily). cond (stands_in family.set i) family.weight 0) term.families

-- no two families of different groups have a word in common, at parameter values
abbrev pub AreGroupsApart : AffineProgram → JointTerm → List ℤ → Type 0
AreGroupsApart program term parameters =
    ArePairwiseDisjoint (map (λ (group : List WalkFamily). group_words group) (joint_partition program term parameters).groups)

-- so at all of them
abbrev pub AreGroupsApartWhere : AffineProgram → JointTerm → Type 0
AreGroupsApartWhere program term = (parameters : List ℤ) → IsAdmitted program parameters → AreGroupsApart program term parameters

-- A sound joint term whose groups are apart is a sound joint partition of the computation graph at all admitted parameter values,
-- of any size.
abbrev pub SoundJointTermsAreSound : Type 0
SoundJointTermsAreSound = (program : AffineProgram) (term : JointTerm) (parameters : List ℤ) → IsWellFormed program → IsAdmitted program parameters → IsSoundJointTerm program term
    → AreGroupsApart program term parameters → IsSoundJoint (computation_graph program parameters) term.q (joint_partition program term parameters)
