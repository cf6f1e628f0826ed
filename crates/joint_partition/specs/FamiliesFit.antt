-- What makes the families of a joint term fit a program: what their numbers name is there, each list has the length called for, and
-- their walks fit.
use Rattle.std.specs.Prelude.{◌≡◌, ℕ, ◌<◌, ◌≤◌, ⊤, List, [], ◌∷◌, length, Option, None, Some}
use Rattle.std.specs.List.{AllByRecursion}
use Rattle.iolb_model.specs.Form.{AffineForm}
use Rattle.iolb_model.specs.Program.{AffineProgram}
use Rattle.affine_program.specs.Parts.{ProgramParts, meaning}
use Rattle.dep_quast.specs.Tree.{SelectionTree}
use Rattle.dep_quast.specs.Trees.{RowsFit}
use Rattle.reuse_paths.specs.FamilyFits.{NodesFit}
use Rattle.reuse_paths.specs.WalkFits.{AreCellLabels, AreInstanceLabels, CreditFits, WalkFits}
use Rattle.reuse_paths.specs.Walks.{WalkRegion}
use Rattle.joint_partition.specs.declared.term.Joint.{Joint}
use Rattle.joint_partition.specs.Claims.{group_systems, setting_of}
use Rattle.joint_partition.specs.JointWords.{dimensions_of}
use Rattle.joint_partition.specs.Term.{JointFamily, JointTerm, LabelForms, PartTerm, StartTerm, WayTerm, credited_nests, labels_of, walks_from, way_walks}
use Rattle.joint_partition.specs.View.{FitsPoints, joint_of}

-- A labeling fits: there is a label or none for each statement and for each array, of so many forms over what it is to be over.
pub record LabelingFits (program : AffineProgram) (size : ℕ) (labels : LabelForms) : Type 0 where
  pub instances : AreInstanceLabels program size 0 labels.nodes
  pub each : length labels.nodes ≡ length program.statements
  pub cells : AreCellLabels program size program.arrays labels.inputs

-- a region stands only where its statement has a label, and the lists are of one length
abbrev pub IsLabeled : Option (List AffineForm) → Option WalkRegion → Type 0
IsLabeled label None = ⊤
IsLabeled None (Some region) = ⊥
IsLabeled (Some label) (Some region) = ⊤

abbrev pub AreLabeled : List (Option (List AffineForm)) → List (Option WalkRegion) → Type 0
AreLabeled [] [] = ⊤
AreLabeled [] (region ∷ regions) = ⊥
AreLabeled (label ∷ labels) [] = ⊥
AreLabeled (label ∷ labels) (region ∷ regions) = IsLabeled label region × AreLabeled labels regions

-- A way fits: its labeling is there, a region stands only where that has a label, and the walks from regions fit.
pub record WayFits (program : AffineProgram) (trees : List (List SelectionTree)) (term : JointTerm) (family : JointFamily) (way : WayTerm) : Type 0 where
  pub there : way.labels < length family.labels
  pub labeled : AreLabeled (labels_of family way.labels).nodes way.regions
  pub walks : NodesFit program trees (credited_nests term) (way_walks family way) 0 (way_walks family way).nodes

-- A start fits: it enters a way that is there, and its walk fits.
pub record StartFits (program : AffineProgram) (trees : List (List SelectionTree)) (term : JointTerm) (family : JointFamily) (part : PartTerm) (start : StartTerm) : Type 0 where
  pub entered : start.way < length family.ways
  pub walk : let walks = (walks_from family part start).walks in WalkFits (setting_of program trees term walks walks.start_label) part.statement start.tree

-- there is a start for each part, and it fits
abbrev pub StartsFit : AffineProgram → List (List SelectionTree) → JointTerm → JointFamily → List PartTerm → List StartTerm → Type 0
StartsFit program trees term family [] [] = ⊤
StartsFit program trees term family [] (start ∷ starts) = ⊥
StartsFit program trees term family (part ∷ parts) [] = ⊥
StartsFit program trees term family (part ∷ parts) (start ∷ starts) = StartFits program trees term family part start × StartsFit program trees term family parts starts

-- A family fits: its scale is positive, its set names coordinates, and its labelings, ways and starts fit.
pub record FitsFamily (program : AffineProgram) (trees : List (List SelectionTree)) (term : JointTerm) (family : JointFamily) : Type 0 where
  pub scale : 1 ≤ family.scale
  pub set : AllByRecursion (λ i. i < dimensions_of term) family.set
  pub labels : AllByRecursion (LabelingFits program (length family.set)) family.labels
  pub ways : AllByRecursion (WayFits program trees term family) family.ways
  pub starts : StartsFit program trees term family term.parts family.starts

-- A joint term fits a program and source trees: its points do, the credited nests name statements that are there, its families do, and
-- there are multipliers for each two pieces of families of different groups with one target.
pub record FitsJoint (program : ProgramParts) (trees : List (List SelectionTree)) (joint : Joint) : Type 0 where
  pub points : FitsPoints program joint
  pub trees_fit : RowsFit (meaning program) 0 trees
  pub credits : AllByRecursion (CreditFits (meaning program)) (credited_nests (joint_of joint))
  pub families : AllByRecursion (FitsFamily (meaning program) trees (joint_of joint)) (joint_of joint).families
  pub enough : length (group_systems (meaning program) trees (joint_of joint) (joint_of joint).families) ≤ length joint.apart.items
