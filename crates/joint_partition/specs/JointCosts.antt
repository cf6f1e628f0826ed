-- What joint partition terms cost whose claims hold.
use Rattle.std.specs.Prelude.{ℕ, ◌+◌, ◌-◌, ◌*◌, ◌/◌, ◌≤◌, ℤ, List}
use Rattle.iolb_model.specs.declared.game.Move.{Move}
use Rattle.iolb_model.specs.Program.{AffineProgram, IsWellFormed}
use Rattle.iolb_model.specs.Bound.{IsAdmitted, StretchNumbers, events_of, points_of}
use Rattle.iolb_model.specs.Game.{IsCompletePebbling, loads_of}
use Rattle.iolb_model.specs.Graph.{computation_graph}
use Rattle.claims.specs.Claims.{AllHold}
use Rattle.claims.specs.declared.place.Step.{Step}
use Rattle.dep_quast.specs.Tree.{SelectionTree}
use Rattle.dep_quast.specs.Trees.{RowsAreTrue, RowsFit}
use Rattle.joint_partition.specs.Claims.{joint_claims}
use Rattle.joint_partition.specs.JointFits.{GroupsFit, PartsFit}
use Rattle.joint_partition.specs.JointLoads.{HasJointNumbers, credited_count, image_count, joint_footprint}
use Rattle.joint_partition.specs.JointWords.{AreGroupsApartWhere, IsSoundJointTerm}
use Rattle.joint_partition.specs.Term.{JointTerm}

-- A term fits a program and source trees: its parts do, its families and their pieces, and coordinates are covered at least once.
pub record JointFits (program : AffineProgram) (trees : List (List SelectionTree)) (term : JointTerm) : Type 0 where
  pub parts : PartsFit program term
  pub groups : GroupsFit program trees term
  pub positive : 1 ≤ term.q

-- A term whose claims hold, over true source trees, is sound, and its groups are apart.
abbrev pub JointClaimsAreSound : Type 0
JointClaimsAreSound = (program : AffineProgram) (trees : List (List SelectionTree)) (term : JointTerm) (place : List Step) → IsWellFormed program → RowsFit program 0 trees
    → RowsAreTrue program 0 trees → JointFits program trees term → AllHold (joint_claims program trees place term) → IsSoundJointTerm program term × AreGroupsApartWhere program term

-- It takes in every complete pebbling with s red pebbles at least as many loads of its footprint as the events of a stretch, once for
-- each u of its images but the last, less the credited points.
abbrev pub JointClaimsCost : Type 0
JointClaimsCost = (program : AffineProgram) (trees : List (List SelectionTree)) (term : JointTerm) (place : List Step) (numbers : StretchNumbers) (parameters : List ℤ) (s : ℕ)
    (moves : List Move) → IsWellFormed program → RowsFit program 0 trees → RowsAreTrue program 0 trees → JointFits program trees term
    → AllHold (joint_claims program trees place term) → HasJointNumbers term numbers → IsAdmitted program parameters → IsCompletePebbling (computation_graph program parameters) s moves
    → events_of numbers s * ((image_count term parameters - 1) / points_of numbers s) ≤ loads_of (joint_footprint program term parameters) moves + credited_count term parameters
