-- Parts of a term fit where its points do.
use Rattle.std.proofs.Common.{◌≤◌, ℕ, List, [], ◌∷◌, length, map, drop, arith}
use Rattle.std.specs.List.{AllByRecursion}
use Rattle.std.proofs.lemmas.List.{length-drop}
use Rattle.iolb_model.specs.Program.{AffineProgram}
use Rattle.affine_program.specs.Parts.{ProgramParts, meaning}
use Rattle.joint_partition.specs.declared.term.Joint.{Joint}
use Rattle.joint_partition.specs.declared.term.Part.{Part}
use Rattle.joint_partition.specs.JointFits.{PartFits, PartsFit, pair_count}
use Rattle.joint_partition.specs.Splits.{SplitTree}
use Rattle.joint_partition.specs.Term.{PartTerm}
use Rattle.joint_partition.specs.View.{FitsPart, FitsPoints, SplitsFit, joint_of, part_of}
use Rattle.joint_partition.proofs.SplitLists.{splits-enough}

-- there is a split for each pair
pairs-few : (program : AffineProgram) (parts : List PartTerm) (trees : List SplitTree) → SplitsFit program parts trees → pair_count parts ≤ length trees
pairs-few program [] trees fit = omega arith
pairs-few program (part ∷ parts) trees fit =
    omega (arith, splits-enough program part parts trees fit.0, pairs-few program parts (drop (length parts) trees) fit.1, length-drop (length parts) trees)

parts-each : (program : ProgramParts) (dimensions : ℕ) (parts : List Part) → AllByRecursion (FitsPart program dimensions) parts → AllByRecursion (PartFits (meaning program) dimensions) (map part_of parts)
parts-each program dimensions [] fit = tt
parts-each program dimensions (part ∷ parts) fit = (fit.0.fits, parts-each program dimensions parts fit.1)

pub parts-fit : (program : ProgramParts) (joint : Joint) → FitsPoints program joint → PartsFit (meaning program) (joint_of joint)
parts-fit program joint fits = record { parts = parts-each program _ joint.parts.items fits.parts; splits = pairs-few (meaning program) (joint_of joint).parts (joint_of joint).distinct fits.splits }
