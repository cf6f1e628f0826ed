-- There is a split for each part behind one.
use Rattle.std.proofs.Common.{◌≤◌, List, [], ◌∷◌, length, arith}
use Rattle.iolb_model.specs.Program.{AffineProgram}
use Rattle.joint_partition.specs.Splits.{SplitTree}
use Rattle.joint_partition.specs.Term.{PartTerm}
use Rattle.joint_partition.specs.View.{SplitsFrom}

pub splits-enough : (program : AffineProgram) (part : PartTerm) (others : List PartTerm) (trees : List SplitTree) → SplitsFrom program part others trees → length others ≤ length trees
splits-enough program part [] trees fit = omega arith
splits-enough program part (other ∷ others) [] fit = absurd fit
splits-enough program part (other ∷ others) (tree ∷ trees) fit = omega (arith, splits-enough program part others trees fit.1)
