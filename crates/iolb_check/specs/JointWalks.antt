-- What the tests of a joint term's family hand on, as what is asked of its walks.
use Rattle.std.specs.Prelude.{◌≡◌, ℕ, List, [], map, Option}
use Rattle.affine_program.specs.Parts.{meaning}
use Rattle.claims.specs.Claims.{Claim}
use Rattle.claims.specs.declared.place.Step.{Step}
use Rattle.dep_quast.specs.Quasts.{trees_of}
use Rattle.joint_partition.specs.Term.{PartTerm, StartTerm, WayTerm, credited_nests, no_form}
use Rattle.joint_partition.specs.View.{family_of, joint_of}
use Rattle.reuse_paths.specs.Walks.{WalkRegion}
use Rattle.reuse_paths.specs.WalkSettings.{WalkSetting}
use Rattle.iolb_check.specs.declared.family_walks.FamilyWalks.{FamilyWalks}
use Rattle.iolb_check.specs.JointFit.{regions_fit, start_fit, starts_fit, walks_in, way_fit_at}

-- no nest, and a label of as many forms as the family's labels are to have
pub record AreBare (walks : FamilyWalks) : Type 0 where
  pub none : walks.none.now ≡ []
  pub reader : walks.reader.now ≡ map (λ (i : ℕ). no_form) (family_of walks.family.now).set

-- the setting of walks that go on in these regions
abbrev pub setting_in : FamilyWalks → List (Option WalkRegion) → WalkSetting
setting_in walks regions = walks_in (meaning walks.program.now) (trees_of walks.quasts.now) (credited_nests (joint_of walks.term.now)) (family_of walks.family.now) regions

-- what is asked of a start, of starts from an index on, of a way's regions, and of a way
abbrev pub start_in : FamilyWalks → List Step → PartTerm → StartTerm → List Claim
start_in walks place part start = start_fit (meaning walks.program.now) (trees_of walks.quasts.now) (credited_nests (joint_of walks.term.now)) (family_of walks.family.now) place part start

abbrev pub starts_in : FamilyWalks → List Step → ℕ → List PartTerm → List StartTerm → List Claim
starts_in walks place index parts starts = starts_fit (meaning walks.program.now) (trees_of walks.quasts.now) (credited_nests (joint_of walks.term.now)) (family_of walks.family.now) place index parts starts

abbrev pub regions_in : FamilyWalks → List Step → WayTerm → List Claim
regions_in walks place way = regions_fit (meaning walks.program.now) (trees_of walks.quasts.now) (credited_nests (joint_of walks.term.now)) (family_of walks.family.now) place way

abbrev pub way_in : FamilyWalks → List Step → ℕ → WayTerm → List Claim
way_in walks place index way = way_fit_at (meaning walks.program.now) (trees_of walks.quasts.now) (credited_nests (joint_of walks.term.now)) (family_of walks.family.now) place index way
