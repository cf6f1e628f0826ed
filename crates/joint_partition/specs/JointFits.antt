-- What makes the parts of a joint term fit a program, and what follows from what is claimed of them.
use Rattle.std.specs.Prelude.{◌≡◌, ℕ, ◌+◌, ◌<◌, ◌≤◌, ℤ, List, [], ◌∷◌, length}
use Rattle.std.specs.List.{AllByRecursion}
use Rattle.iolb_model.specs.Bound.{IsAdmitted}
use Rattle.iolb_model.specs.Program.{AffineProgram, IsWellFormed}
use Rattle.affine_form.specs.Rows.{BoundsFit, IsSmallOver}
use Rattle.affine_program.specs.Domain.{depth_of, domain_size}
use Rattle.claims.specs.Claims.{AllHold}
use Rattle.claims.specs.declared.place.Step.{Step}
use Rattle.dep_quast.specs.Tree.{SelectionTree}
use Rattle.dep_quast.specs.Trees.{RowsAreTrue, RowsFit}
use Rattle.footprint_pieces.specs.Pieces.{PieceFits}
use Rattle.reuse_paths.specs.FamilyFits.{WalksFit}
use Rattle.joint_partition.specs.Claims.{apart_claims_of, cover_claims, distinct_claims, families_claims, family_pieces, group_systems, parts_claims, weight_at}
use Rattle.joint_partition.specs.JointWords.{AreGroupsApart, ArePartsApart, IsSoundJointFamily, IsSoundPart, dimensions_of}
use Rattle.joint_partition.specs.Term.{JointFamily, JointTerm, PartTerm, PartWalks, StartTerm, WayTerm, credited_nests, part_walks}

-- A part fits: its statement is there, its nest has a variable for each loop around it, its map as many forms as the others', and
-- there are multipliers for each row of the domain.
pub record PartFits (program : AffineProgram) (dimensions : ℕ) (part : PartTerm) : Type 0 where
  pub there : part.statement < length program.statements
  pub each : length part.nest ≡ depth_of program part.statement
  pub bounds : BoundsFit (length program.parameters) part.nest
  pub long : length part.image ≡ dimensions
  pub over : AllByRecursion (IsSmallOver (length program.parameters + length part.nest)) part.image
  pub inside : length part.inside ≡ domain_size program part.statement
  pub scale : 1 ≤ part.scale

-- how many pairs of parts there are
abbrev pub pair_count : List PartTerm → ℕ
pair_count [] = 0
pair_count (part ∷ parts) = length parts + pair_count parts

-- The parts of a term fit: each does, and there is a split for each pair.
pub record PartsFit (program : AffineProgram) (term : JointTerm) : Type 0 where
  pub parts : AllByRecursion (PartFits program (dimensions_of term)) term.parts
  pub splits : pair_count term.parts ≤ length term.distinct

-- Where what is claimed of them holds, parts are sound, their images differ, and the sets cover each coordinate.
pub record ArePartsSound (program : AffineProgram) (term : JointTerm) : Type 0 where
  pub parts : AllByRecursion (IsSoundPart program (dimensions_of term)) term.parts
  pub apart : ArePartsApart program term.parts
  pub covered : (i : ℕ) → i < dimensions_of term → term.q ≤ weight_at term.families i

abbrev pub PartsAreSound : Type 0
PartsAreSound = (program : AffineProgram) (term : JointTerm) (place : List Step) → IsWellFormed program → PartsFit program term → AllHold (parts_claims program place term)
    → AllHold (distinct_claims program place 0 term.parts term.distinct) → AllHold (cover_claims place term) → ArePartsSound program term

-- A family fits: its scale is positive; there is a start for each part, which enters a way that is there; each way has a labeling
-- that is there; and its walks fit.
pub record JointFamilyFits (program : AffineProgram) (trees : List (List SelectionTree)) (term : JointTerm) (family : JointFamily) : Type 0 where
  pub scale : 1 ≤ family.scale
  pub one_each : length family.starts ≡ length term.parts
  pub entered : AllByRecursion (λ (start : StartTerm). start.way < length family.ways) family.starts
  pub labeled : AllByRecursion (λ (way : WayTerm). way.labels < length family.labels) family.ways
  pub walks : AllByRecursion (λ (from : PartWalks). WalksFit program trees from.part.statement (credited_nests term) from.walks (length family.set)) (part_walks family term.parts family.starts)

-- Families whose claims hold, over true source trees, are sound.
abbrev pub JointFamiliesAreSound : Type 0
JointFamiliesAreSound = (program : AffineProgram) (trees : List (List SelectionTree)) (term : JointTerm) (place : List Step) → IsWellFormed program → RowsFit program 0 trees
    → RowsAreTrue program 0 trees → AllByRecursion (JointFamilyFits program trees term) term.families → AllHold (families_claims program trees place term)
    → AllByRecursion (IsSoundJointFamily program term) term.families

-- The pieces of families fit, and there are multipliers for each two pieces of families of different groups with one target.
pub record GroupsFit (program : AffineProgram) (trees : List (List SelectionTree)) (term : JointTerm) : Type 0 where
  pub families : AllByRecursion (JointFamilyFits program trees term) term.families
  pub pieces : AllByRecursion (λ (family : JointFamily). AllByRecursion (PieceFits program) (family_pieces program trees term family)) term.families
  pub enough : length (group_systems program trees term term.families) ≤ length term.apart

-- The groups of a term whose claims hold, over true source trees, have no word in common.
abbrev pub JointGroupsAreApart : Type 0
JointGroupsAreApart = (program : AffineProgram) (trees : List (List SelectionTree)) (term : JointTerm) (place : List Step) (parameters : List ℤ) → IsWellFormed program → RowsFit program 0 trees
    → RowsAreTrue program 0 trees → GroupsFit program trees term → AllByRecursion (IsSoundPart program (dimensions_of term)) term.parts → AllHold (families_claims program trees place term)
    → AllHold (apart_claims_of program trees place term) → IsAdmitted program parameters → AreGroupsApart program term parameters
