-- What makes a family fit a program.
use Rattle.std.specs.Prelude.{◌≡◌, ℕ, suc, ◌+◌, ◌<◌, ◌≤◌, ⊤, List, [], ◌∷◌, map, length, Option, Some, None}
use Rattle.std.specs.List.{AllByRecursion}
use Rattle.iolb_model.specs.Form.{AffineForm}
use Rattle.iolb_model.specs.Program.{AffineProgram}
use Rattle.affine_form.specs.Matrix.{IntegerMatrix}
use Rattle.affine_form.specs.Rows.{BoundsFit}
use Rattle.affine_program.specs.Domain.{depth_of}
use Rattle.dep_quast.specs.Tree.{SelectionTree}
use Rattle.reuse_paths.specs.Families.{CreditedNest, NodeForms, FamilyForms, node_label}
use Rattle.reuse_paths.specs.FamilyClaims.{family_setting}
use Rattle.reuse_paths.specs.WalkFits.{IsLabel, LabelsFit, RegionFits, WalkFits}

-- The instances that are counted: their statement is there, their nest has a variable for each loop around it, and the
-- matrix a row and a column.
pub record CountedFits (program : AffineProgram) (statement : ℕ) (nest : List (AffineForm × AffineForm)) (matrix : IntegerMatrix) : Type 0 where
  pub there : statement < length program.statements
  pub each : length nest ≡ depth_of program statement
  pub bounds : BoundsFit (length program.parameters) nest
  pub rows : matrix.rows ≡ depth_of program statement
  pub columns : 1 ≤ matrix.rows → matrix.columns ≡ depth_of program statement

-- the regions of nodes fit, each at readers with the node's label, from a statement on
abbrev pub NodeFits : AffineProgram → List (List SelectionTree) → List CreditedNest → FamilyForms → ℕ → Option NodeForms → Type 0
NodeFits program trees credits family statement None = ⊤
NodeFits program trees credits family statement (Some node) = RegionFits (family_setting program trees credits family node.label) statement node.region

abbrev pub NodesFit : AffineProgram → List (List SelectionTree) → List CreditedNest → FamilyForms → ℕ → List (Option NodeForms) → Type 0
NodesFit program trees credits family statement [] = ⊤
NodesFit program trees credits family statement (node ∷ nodes) =
    NodeFits program trees credits family statement node × NodesFit program trees credits family (suc statement) nodes

-- A family fits: its scale is positive, its set names rows of the matrix, each label has a form for each member of the set,
-- over the variables that it is to be over, and its walks fit.
pub record FamilyFits (program : AffineProgram) (trees : List (List SelectionTree)) (statement : ℕ) (nest : List (AffineForm × AffineForm)) (matrix : IntegerMatrix)
    (credits : List CreditedNest) (family : FamilyForms) : Type 0 where
  pub counted : CountedFits program statement nest matrix
  pub scale : 1 ≤ family.scale
  pub set : AllByRecursion (λ row. row < matrix.rows) family.set
  pub start_label : IsLabel (length family.set) (length program.parameters + depth_of program statement) family.start_label
  pub labels : LabelsFit program (length family.set)
      (record { reader = family.start_label; instances = map node_label family.nodes; cells = family.inputs; credits = credits })
  pub start : WalkFits (family_setting program trees credits family family.start_label) statement family.start
  pub regions : NodesFit program trees credits family 0 family.nodes

-- The walks of a family fit, whatever its start label is to fix: each label has so many forms, and its walks fit.
pub record WalksFit (program : AffineProgram) (trees : List (List SelectionTree)) (statement : ℕ) (credits : List CreditedNest) (family : FamilyForms) (size : ℕ) : Type 0 where
  pub start_label : length family.start_label ≡ size
  pub labels : LabelsFit program size (record { reader = family.start_label; instances = map node_label family.nodes; cells = family.inputs; credits = credits })
  pub start : WalkFits (family_setting program trees credits family family.start_label) statement family.start
  pub regions : NodesFit program trees credits family 0 family.nodes
