-- Joint terms whose claims hold are loaded.
use Rattle.std.specs.Prelude.{ℤ, List, ◌++◌}
use Rattle.iolb_model.specs.Program.{AffineProgram, IsWellFormed}
use Rattle.iolb_model.specs.Bound.{IsAdmitted}
use Rattle.claims.specs.Claims.{AllHold, Claim, numbered}
use Rattle.claims.specs.declared.place.Step.{Step}
use Rattle.claims.proofs.Laws.{AllHold-left, AllHold-right}
use Rattle.dep_quast.specs.Tree.{SelectionTree}
use Rattle.dep_quast.specs.Trees.{RowsAreTrue, RowsFit}
use Rattle.k_partition.specs.PartitionClaims.{credit_claims}
use Rattle.joint_partition.specs.Claims.{apart_claims_of, cover_claims, distinct_claims, families_claims, joint_claims, parts_claims}
use Rattle.joint_partition.specs.JointCosts.{JointClaimsAreSound, JointClaimsCost, JointFits}
use Rattle.joint_partition.specs.JointFits.{ArePartsSound, JointFamiliesAreSound, JointGroupsAreApart, PartsAreSound}
use Rattle.joint_partition.specs.JointLoads.{JointTermsAreLoaded}
use Rattle.joint_partition.specs.JointWords.{AreGroupsApart, IsSoundJointTerm}
use Rattle.joint_partition.specs.Term.{JointTerm}

module _ (parts-law : PartsAreSound) (families-law : JointFamiliesAreSound) (groups-law : JointGroupsAreApart) (program : AffineProgram) (trees : List (List SelectionTree))
    (term : JointTerm) (place : List Step) (formed : IsWellFormed program) (trees-fit : RowsFit program 0 trees) (trees-true : RowsAreTrue program 0 trees)
    (fits : JointFits program trees term) (holds : AllHold (joint_claims program trees place term)) where
  abbrev parts : List Claim
  parts = parts_claims program place term

  abbrev images : List Claim
  images = distinct_claims program place 0 term.parts term.distinct

  abbrev credits : List Claim
  credits = numbered (credit_claims program place term.credits) 0 term.credits

  abbrev cover : List Claim
  cover = cover_claims place term

  abbrev families : List Claim
  families = families_claims program trees place term

  abbrev apart : List Claim
  apart = apart_claims_of program trees place term

  before-apart : AllHold (parts ++ images ++ credits ++ cover ++ families)
  before-apart = AllHold-left (parts ++ images ++ credits ++ cover ++ families) apart holds

  before-families : AllHold (parts ++ images ++ credits ++ cover)
  before-families = AllHold-left (parts ++ images ++ credits ++ cover) families before-apart

  before-credits : AllHold (parts ++ images)
  before-credits = AllHold-left (parts ++ images) credits (AllHold-left (parts ++ images ++ credits) cover before-families)

  pub holds-families : AllHold families
  holds-families = AllHold-right (parts ++ images ++ credits ++ cover) families before-apart

  sound-parts : ArePartsSound program term
  sound-parts =
      parts-law program term place formed fits.parts (AllHold-left parts images before-credits) (AllHold-right parts images before-credits)
      (AllHold-right (parts ++ images ++ credits) cover before-families)

  pub sound : IsSoundJointTerm program term
  sound = record {
    parts = sound-parts.parts;
    apart = sound-parts.apart;
    families = families-law program trees term place formed trees-fit trees-true fits.groups.families holds-families;
    positive = fits.positive;
    covered = sound-parts.covered;
  }

  pub groups-apart : (parameters : List ℤ) → IsAdmitted program parameters → AreGroupsApart program term parameters
  groups-apart parameters admitted =
      groups-law program trees term place parameters formed trees-fit trees-true fits.groups sound-parts.parts holds-families
      (AllHold-right (parts ++ images ++ credits ++ cover ++ families) apart holds) admitted

pub joint-claims-are-sound : PartsAreSound → JointFamiliesAreSound → JointGroupsAreApart → JointClaimsAreSound
joint-claims-are-sound of_parts of_families of_groups program trees term place formed trees-fit trees-true fits holds = (
  sound of_parts of_families of_groups program trees term place formed trees-fit trees-true fits holds,
  groups-apart of_parts of_families of_groups program trees term place formed trees-fit trees-true fits holds,
)

pub joint-claims-cost : PartsAreSound → JointFamiliesAreSound → JointGroupsAreApart → JointTermsAreLoaded → JointClaimsCost
joint-claims-cost of_parts of_families of_groups loaded program trees term place numbers parameters s moves formed trees-fit trees-true fits holds has admitted game =
    loaded program term numbers parameters s moves formed admitted (sound of_parts of_families of_groups program trees term place formed trees-fit trees-true fits holds)
    (groups-apart of_parts of_families of_groups program trees term place formed trees-fit trees-true fits holds parameters admitted) has game
