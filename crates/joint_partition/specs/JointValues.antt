-- What the value of a joint term's bound says.
use Rattle.std.specs.Prelude.{List, map}
use Rattle.iolb_model.specs.Program.{AffineProgram, IsWellFormed}
use Rattle.iolb_model.specs.Bound.{StretchNumbers, count_value, joint}
use Rattle.iolb_model.specs.Footprint.{CostsItsValue, Footprint}
use Rattle.claims.specs.Claims.{AllHold}
use Rattle.claims.specs.declared.place.Step.{Step}
use Rattle.dep_quast.specs.Tree.{SelectionTree}
use Rattle.dep_quast.specs.Trees.{RowsAreTrue, RowsFit}
use Rattle.footprint_pieces.specs.Pieces.{AreCovered}
use Rattle.k_partition.specs.TermRuns.{SharesAmongRuns}
use Rattle.poly_tree.specs.Poly.{IsLegal, Quotient}
use Rattle.poly_tree.specs.Printed.{polynomial_of}
use Rattle.stretch_laws.specs.Reuse.{CountedPoint}
use Rattle.joint_partition.specs.Claims.{joint_claims}
use Rattle.joint_partition.specs.JointCosts.{JointFits}
use Rattle.joint_partition.specs.JointCounts.{CountsCredited, CountsImages}
use Rattle.joint_partition.specs.JointLoads.{HasJointNumbers, joint_footprint}
use Rattle.joint_partition.specs.JointPieces.{joint_pieces}
use Rattle.joint_partition.specs.JointWords.{AreGroupsApartWhere, IsSoundJointTerm, joint_points}
use Rattle.joint_partition.specs.Term.{JointTerm}

-- Polynomials and numbers are those of a joint term's bound: the polynomials are in lowest terms, and count its images and its
-- credited points.
pub record IsJointBound (program : AffineProgram) (term : JointTerm) (count credits : Quotient) (numbers : StretchNumbers) : Type 0 where
  pub legal : IsLegal count
  pub legal_credits : IsLegal credits
  pub images : CountsImages program term count
  pub credited : CountsCredited program term credits
  pub has : HasJointNumbers term numbers

-- A term whose claims hold, over true source trees, costs the value of its bound in loads of its footprint.
abbrev pub JointTermsCostTheirValue : Type 0
JointTermsCostTheirValue = (program : AffineProgram) (trees : List (List SelectionTree)) (term : JointTerm) (place : List Step) (count credits : Quotient) (numbers : StretchNumbers)
    → IsWellFormed program → RowsFit program 0 trees → RowsAreTrue program 0 trees → JointFits program trees term → AllHold (joint_claims program trees place term)
    → IsJointBound program term count credits numbers → CostsItsValue program (joint (polynomial_of count) (polynomial_of credits) numbers) (joint_footprint program term)

-- the instances that a joint term counts, each as often as it has images
abbrev pub image_vertices : AffineProgram → JointTerm → Footprint
image_vertices program term parameters = map (λ (point : CountedPoint). point.vertex) (joint_points program term parameters)

-- The cost of a sound term, whose groups are apart, is shared among runs that compute its images.
abbrev pub JointTermsShareAmongRuns : Type 0
JointTermsShareAmongRuns = (program : AffineProgram) (term : JointTerm) (count credits : Quotient) (numbers : StretchNumbers) → IsWellFormed program → IsSoundJointTerm program term
    → AreGroupsApartWhere program term → IsJointBound program term count credits numbers
    → SharesAmongRuns program (count_value (polynomial_of count)) (count_value (polynomial_of credits)) numbers (image_vertices program term) (joint_footprint program term)

-- The pieces of a term whose claims hold, over true source trees, cover its footprint.
abbrev pub JointPiecesCover : Type 0
JointPiecesCover = (program : AffineProgram) (trees : List (List SelectionTree)) (term : JointTerm) (place : List Step) → IsWellFormed program → RowsFit program 0 trees
    → RowsAreTrue program 0 trees → JointFits program trees term → AllHold (joint_claims program trees place term) → AreCovered program (joint_footprint program term) (joint_pieces program trees term)
