use Rattle.std.proofs.Common.{ℕ, ◌≤◌, ◌++◌, List, length, map}
use Rattle.affine_program.specs.Parts.{ProgramParts, IsProgram, meaning}
use Rattle.claims.specs.Claims.{AllHold}
use Rattle.claims.specs.declared.place.Step.{Step}
use Rattle.claims.proofs.Laws.{AllHold-left}
use Rattle.dep_quast.specs.Quasts.{trees_of}
use Rattle.dep_quast.specs.Tree.{SelectionTree}
use Rattle.dep_quast.specs.Trees.{RowsAreTrue}
use Rattle.iolb_model.specs.Bound.{StretchNumbers}
use Rattle.iolb_model.specs.Program.{AffineProgram}
use Rattle.joint_partition.specs.declared.term.Joint.{Joint}
use Rattle.joint_partition.specs.Claims.{apart_claims_of, count_of, families_claims, joint_claims, points_claims}
use Rattle.joint_partition.specs.FamiliesFit.{FitsJoint}
use Rattle.joint_partition.specs.JointCosts.{JointClaimsAreSound, JointFits}
use Rattle.joint_partition.specs.JointCounts.{AreJointCounts, JointPointsAreCounted}
use Rattle.joint_partition.specs.JointFits.{GroupsFit}
use Rattle.joint_partition.specs.JointLoads.{HasJointNumbers}
use Rattle.joint_partition.specs.JointValues.{IsJointBound}
use Rattle.joint_partition.specs.JointWords.{AreGroupsApartWhere, IsSoundJointTerm}
use Rattle.joint_partition.specs.Term.{JointTerm}
use Rattle.joint_partition.specs.View.{joint_of}
use Rattle.k_partition.specs.Numbers.{numbers_of}
use Rattle.k_partition.specs.PartitionClaims.{no_points, IsCreditsTotal}
use Rattle.poly_tree.specs.Poly.{IsLegal, Quotient}
use Rattle.joint_partition.proofs.PointsFit.{parts-fit}
use Rattle.joint_partition.proofs.checker.check_joint.Goals as goal

module _ (program : ProgramParts) (trees : List (List SelectionTree)) (joint : Joint) (fits : FitsJoint program trees joint) where
  abbrev term : JointTerm
  term = joint_of joint

  fits-whole : GroupsFit (meaning program) trees term → 1 ≤ joint.q → JointFits (meaning program) trees term
  fits-whole groups positive = record { parts = parts-fit program joint fits.points; groups = groups; positive = positive }

  counted : (place : List Step) (count credits : Quotient) → JointPointsAreCounted → IsProgram program → AllHold (joint_claims (meaning program) trees place term)
      → IsCreditsTotal (length program.params) no_points (map count_of term.parts) count → IsCreditsTotal (length program.params) no_points term.credits credits
      → AreJointCounts (meaning program) term count credits
  counted place count credits law kept holds total credited =
      law program joint place count credits kept fits.points
      (AllHold-left (points_claims (meaning program) place term) (families_claims (meaning program) trees place term)
      (AllHold-left (points_claims (meaning program) place term ++ families_claims (meaning program) trees place term) (apart_claims_of (meaning program) trees place term) holds)) total credited

-- the polynomials and the numbers are those of the bound
bounds : (program : AffineProgram) (of : JointTerm) (count credits : Quotient) (numbers : StretchNumbers) → AreJointCounts program of count credits → IsLegal count → IsLegal credits
    → HasJointNumbers of numbers → IsJointBound program of count credits numbers
bounds program of count credits numbers are legal legal_credits has =
    record { legal = legal; legal_credits = legal_credits; images = are.images; credited = are.credited; has = has }

pub returns-clause-counts : goal.returns-clause-counts
returns-clause-counts c =
    rw (c.joint_bound_of-bound.ensures.count, c.joint_bound_of-bound.ensures.credits)
    (counted c.args.program.now (trees_of c.args.quasts.now) c.args.term.now c.requires.fits c.args.place.now c.in_ok-count.count c.in_ok-count.credits c.joint_points_are_counted.ensures
    c.params-params.ensures.kept c.in_ok-count.ensures.holds c.in_ok-count.ensures.count c.in_ok-count.ensures.credits)

pub returns-clause-covered : goal.returns-clause-covered
returns-clause-covered c =
    let trees = trees_of c.args.quasts.now in
    let joint = c.args.term.now in
    c.joint_pieces_cover.ensures (meaning c.args.program.now) trees (joint_of joint) c.args.place.now c.params-params.ensures.kept.well_formed c.requires.fits.trees_fit c.requires.trees_true
    (fits-whole c.args.program.now trees joint c.requires.fits c.in_ok-count.ensures.groups c.requires.positive) c.in_ok-count.ensures.holds

pub returns-clause-footprint : goal.returns-clause-footprint
returns-clause-footprint c =
    let program = c.args.program.now in
    let trees = trees_of c.args.quasts.now in
    let joint = c.args.term.now in
    let numbers = numbers_of c.joint_bound_of-bound.result in
    let are = counted program trees joint c.requires.fits c.args.place.now c.in_ok-count.count c.in_ok-count.credits c.joint_points_are_counted.ensures c.params-params.ensures.kept
    c.in_ok-count.ensures.holds c.in_ok-count.ensures.count c.in_ok-count.ensures.credits in
    rw (c.joint_bound_of-bound.ensures.count, c.joint_bound_of-bound.ensures.credits)
    (c.joint_terms_cost_their_value.ensures (meaning program) trees (joint_of joint) c.args.place.now c.in_ok-count.count c.in_ok-count.credits numbers
    c.params-params.ensures.kept.well_formed c.requires.fits.trees_fit c.requires.trees_true (fits-whole program trees joint c.requires.fits c.in_ok-count.ensures.groups c.requires.positive)
    c.in_ok-count.ensures.holds
    (bounds (meaning program) (joint_of joint) c.in_ok-count.count c.in_ok-count.credits numbers are c.den-count.ensures.legal c.den-credits.ensures.legal c.joint_bound_of-bound.ensures.numbers))

sounds : (program : ProgramParts) (trees : List (List SelectionTree)) (joint : Joint) (place : List Step) → JointClaimsAreSound → IsProgram program → FitsJoint program trees joint
    → RowsAreTrue (meaning program) 0 trees → GroupsFit (meaning program) trees (joint_of joint) → 1 ≤ joint.q → AllHold (joint_claims (meaning program) trees place (joint_of joint))
    → IsSoundJointTerm (meaning program) (joint_of joint) × AreGroupsApartWhere (meaning program) (joint_of joint)
sounds program trees joint place law kept fits trees-true groups positive holds =
    law (meaning program) trees (joint_of joint) place kept.well_formed fits.trees_fit trees-true (fits-whole program trees joint fits groups positive) holds

pub returns-clause-sound : goal.returns-clause-sound
returns-clause-sound c =
    (sounds c.args.program.now (trees_of c.args.quasts.now) c.args.term.now c.args.place.now c.joint_claims_are_sound.ensures c.params-params.ensures.kept c.requires.fits c.requires.trees_true
    c.in_ok-count.ensures.groups c.requires.positive c.in_ok-count.ensures.holds).0

pub returns-clause-apart : goal.returns-clause-apart
returns-clause-apart c =
    (sounds c.args.program.now (trees_of c.args.quasts.now) c.args.term.now c.args.place.now c.joint_claims_are_sound.ensures c.params-params.ensures.kept c.requires.fits c.requires.trees_true
    c.in_ok-count.ensures.groups c.requires.positive c.in_ok-count.ensures.holds).1
