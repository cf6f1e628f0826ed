-- What sound joint partition terms cost.
use Rattle.std.specs.Prelude.{◌≡◌, ℕ, ◌+◌, ◌-◌, ◌*◌, ◌/◌, ◌^◌, ◌≤◌, Bool, ℤ, List, length, sum_by}
use Rattle.std.specs.Int.{IsGcd}
use Rattle.iolb_model.specs.declared.game.Move.{Move}
use Rattle.iolb_model.specs.Program.{AffineProgram, IsWellFormed}
use Rattle.iolb_model.specs.Bound.{IsAdmitted, StretchNumbers, events_of, points_of}
use Rattle.iolb_model.specs.Footprint.{Footprint}
use Rattle.iolb_model.specs.Game.{IsCompletePebbling, loads_of}
use Rattle.iolb_model.specs.Graph.{computation_graph}
use Rattle.domain_count.specs.Points.{count}
use Rattle.k_partition.specs.ReusedWords.{credited_vertices}
use Rattle.reuse_paths.specs.Families.{CreditedNest}
use Rattle.stretch_laws.specs.Laws.{points_computed}
use Rattle.stretch_laws.specs.Reuse.{joint_words}
use Rattle.stretch_laws.specs.Runs.{IsRedRun, computations_of}
use Rattle.uniform_cover.specs.Products.{product_by}
use Rattle.joint_partition.specs.JointWords.{AreGroupsApart, IsSoundJointTerm, families_in, group_numbers, joint_partition}
use Rattle.joint_partition.specs.Term.{JointFamily, JointTerm, PartTerm, credited_nests}

-- the weights of a group's families, and of all, added up
abbrev pub weight_in : JointTerm → ℕ → ℕ
weight_in term number = sum_by (λ (family : JointFamily). family.weight) (families_in term number)

abbrev pub weight_of : JointTerm → ℕ
weight_of term = sum_by (λ (family : JointFamily). family.weight) term.families

-- The factor with which the words of a stretch count: the product over the families of the numbers of their labelings, each raised
-- to the weight, times the product over the groups of their weights, each raised to itself, over the whole weight raised to itself.
abbrev pub factor_over : JointTerm → ℕ
factor_over term =
    product_by (λ (family : JointFamily). length family.labels ^ family.weight) term.families * product_by (λ (number : ℕ). weight_in term number ^ weight_in term number) (group_numbers term)

abbrev pub factor_under : JointTerm → ℕ
factor_under term = weight_of term ^ weight_of term

-- a fraction in lowest terms
pub record IsLowest (over under num den : ℕ) : Type 0 where
  pub common : ℕ
  pub greatest : IsGcd over under common
  pub above : num * common ≡ over
  pub below : den * common ≡ under

-- numbers of a bound's term are a joint term's
pub record HasJointNumbers (term : JointTerm) (numbers : StretchNumbers) : Type 0 where
  pub a : numbers.a ≡ term.a
  pub b : numbers.b ≡ term.b
  pub q : numbers.q ≡ term.q
  pub m : numbers.m ≡ weight_of term
  pub factor : IsLowest (factor_over term) (factor_under term) numbers.num numbers.den

-- the vertices that the walks of the families name
abbrev pub joint_footprint : AffineProgram → JointTerm → Footprint
joint_footprint program term parameters = joint_words (joint_partition program term parameters)

-- how many points the parts have, and the credited nests
abbrev pub image_count : JointTerm → List ℤ → ℕ
image_count term parameters = sum_by (λ (part : PartTerm). count part.nest parameters) term.parts

abbrev pub credited_count : JointTerm → List ℤ → ℕ
credited_count term parameters = sum_by (λ (credit : CreditedNest). count credit.nest parameters) (credited_nests term)

-- In every red run a sound joint term whose groups are apart takes at least as many loads of its footprint and computations of
-- credited vertices as the events of a stretch, once for each u but the last of n points that are computed.
abbrev pub JointTermsAreLoadedInRuns : Type 0
JointTermsAreLoadedInRuns = (program : AffineProgram) (term : JointTerm) (numbers : StretchNumbers) (parameters : List ℤ) (s n : ℕ) (red : List Bool) (moves : List Move)
    → IsWellFormed program → IsAdmitted program parameters → IsSoundJointTerm program term → AreGroupsApart program term parameters → HasJointNumbers term numbers
    → IsRedRun (computation_graph program parameters) s red moves → n ≤ length (points_computed (joint_partition program term parameters) moves)
    → events_of numbers s * ((n - 1) / points_of numbers s)
    ≤ loads_of (joint_footprint program term parameters) moves + computations_of (credited_vertices program (credited_nests term) parameters) moves

-- In every complete pebbling with s red pebbles it takes at least as many loads of its footprint as the events of a stretch, once
-- for each u of its images but the last, less the credited points.
abbrev pub JointTermsAreLoaded : Type 0
JointTermsAreLoaded = (program : AffineProgram) (term : JointTerm) (numbers : StretchNumbers) (parameters : List ℤ) (s : ℕ) (moves : List Move)
    → IsWellFormed program → IsAdmitted program parameters → IsSoundJointTerm program term → AreGroupsApart program term parameters → HasJointNumbers term numbers
    → IsCompletePebbling (computation_graph program parameters) s moves
    → events_of numbers s * ((image_count term parameters - 1) / points_of numbers s) ≤ loads_of (joint_footprint program term parameters) moves + credited_count term parameters
