-- How many images a joint term has, and how many credited points, as polynomials.
use Rattle.std.specs.Prelude.{◌≡◌, ℤ, pos, ◌*ℤ◌, List, length, map}
use Rattle.iolb_model.specs.Program.{AffineProgram}
use Rattle.iolb_model.specs.Bound.{IsAdmitted}
use Rattle.affine_program.specs.Parts.{IsProgram, ProgramParts, meaning}
use Rattle.claims.specs.Claims.{AllHold}
use Rattle.claims.specs.declared.place.Step.{Step}
use Rattle.k_partition.specs.PartitionClaims.{IsCreditsTotal, no_points}
use Rattle.poly_tree.specs.Expansion.{IsCanonical}
use Rattle.poly_tree.specs.Poly.{Quotient, numerator_at}
use Rattle.joint_partition.specs.declared.term.Joint.{Joint}
use Rattle.joint_partition.specs.Claims.{count_of, points_claims}
use Rattle.joint_partition.specs.JointLoads.{credited_count, image_count}
use Rattle.joint_partition.specs.Term.{JointTerm}
use Rattle.joint_partition.specs.View.{FitsPoints, joint_of}

-- A polynomial counts the images: at all admitted parameter values, of any size, its value is how many points the parts have
-- together, stated without fractions.
abbrev pub CountsImages : AffineProgram → JointTerm → Quotient → Type 0
CountsImages program term poly = (values : List ℤ) → IsAdmitted program values → numerator_at poly values ≡ pos (image_count term values) *ℤ pos poly.denominator

-- So does one the points of the credited nests.
abbrev pub CountsCredited : AffineProgram → JointTerm → Quotient → Type 0
CountsCredited program term poly = (values : List ℤ) → IsAdmitted program values → numerator_at poly values ≡ pos (credited_count term values) *ℤ pos poly.denominator

-- Two polynomials over the parameters count the images and the credited points.
pub record AreJointCounts (program : AffineProgram) (term : JointTerm) (count credits : Quotient) : Type 0 where
  pub images : CountsImages program term count
  pub credited : CountsCredited program term credits
  pub canonical : IsCanonical (length program.parameters) count.tree
  pub canonical_credits : IsCanonical (length program.parameters) credits.tree

-- Where what is claimed of a term's points holds, the sum of what the parts' polynomials count and that of the credits' do so.
abbrev pub JointPointsAreCounted : Type 0
JointPointsAreCounted = (program : ProgramParts) (joint : Joint) (place : List Step) (count credits : Quotient) → IsProgram program → FitsPoints program joint
    → AllHold (points_claims (meaning program) place (joint_of joint))
    → IsCreditsTotal (length program.params) no_points (map count_of (joint_of joint).parts) count → IsCreditsTotal (length program.params) no_points (joint_of joint).credits credits
    → AreJointCounts (meaning program) (joint_of joint) count credits
