-- The branches of the bounds of accepted certificates are split.
use Rattle.std.proofs.Common.{sym, subst, ℕ, List, [], ◌∷◌, length, map}
use Rattle.std.specs.List.{AllByRecursion, AllZip}
use Rattle.iolb_model.specs.Program.{IsWellFormed}
use Rattle.iolb_model.specs.Footprint.{CostTheirValues}
use Rattle.affine_program.specs.Parts.{ProgramParts, meaning}
use Rattle.poly_tree.specs.Poly.{IsLegal, Quotient}
use Rattle.poly_tree.specs.Printed.{TermsHaveTheValue}
use Rattle.joint_partition.specs.Claims.{count_of}
use Rattle.joint_partition.specs.JointValues.{IsJointBound, JointTermsShareAmongRuns, image_vertices}
use Rattle.joint_partition.specs.Term.{JointTerm}
use Rattle.joint_partition.specs.View.{joint_of}
use Rattle.k_partition.specs.Numbers.{numbers_of}
use Rattle.k_partition.specs.PartitionClaims.{IsCreditsTotal, no_points}
use Rattle.k_partition.specs.ReusedWords.{counted_points}
use Rattle.k_partition.specs.Term.{CreditTerm}
use Rattle.k_partition.specs.TermRuns.{SoundTermsSplit}
use Rattle.k_partition.specs.View.{partition_of}
use Rattle.k_partition.proofs.PartitionBounds.{partition-splits}
use Rattle.iolb_check.specs.declared.bound.Value.{Value}
use Rattle.iolb_check.specs.declared.bound.Value.TheVariants as values
use Rattle.iolb_check.specs.declared.term.Branch.{Branch}
use Rattle.iolb_check.specs.declared.term.Term.{Term}
use Rattle.iolb_check.specs.declared.term.Term.TheVariants as terms
use Rattle.iolb_check.specs.Bounds.{bound_of, term_of, terms_of}
use Rattle.iolb_check.specs.Claims.{claim_of_branch, claim_of_term}
use Rattle.iolb_check.specs.Conditions.{AreBranchValues, AreValuesOf, IsValueOf}
use Rattle.iolb_check.proofs.LegalCounts.{constant-legal, count-legal}
use Rattle.iolb_check.specs.Sound.{AreCounted, ArePaid, IsCounted, IsPaid, IsSound, IsSoundBranch, term_vertices}
use Rattle.parallel_bound.specs.Holds.{AcceptedBoundsHoldInParallel, IsSplit, IsSplitBranch, SplitBranchesHoldInParallel}

-- ---- the polynomials of a term's value are in lowest terms

credits-legal : (parameters : ℕ) (before total : Quotient) (credits : List CreditTerm) → IsLegal before → IsCreditsTotal parameters before credits total → IsLegal total
credits-legal parameters before total [] legal is = subst IsLegal (sym is) legal
credits-legal parameters before total (credit ∷ credits) legal is = credits-legal parameters is.1.1.0 total credits is.1.1.1.0.legal is.1.1.1.1

module _ (program : ProgramParts) (formed : IsWellFormed (meaning program)) (split : SoundTermsSplit) (share : JointTermsShareAmongRuns) (value : TermsHaveTheValue) where
  -- ---- a term

  term-split : (term : Term) (given : Value) → IsValueOf (meaning program) (claim_of_term term) given → IsSound program term → IsCounted program term given
      → IsSplit (meaning program) (term_of given) (term_vertices program term)
  term-split (terms.Cold cold) (values.Cold count) is sound counted = tt
  term-split (terms.Cold cold) (values.Partition bound) is sound counted = absurd is
  term-split (terms.Cold cold) (values.Wavefront pairs outer) is sound counted = tt
  term-split (terms.Cold cold) (values.Joint bound) is sound counted = absurd is
  term-split (terms.Partition partition) (values.Cold count) is sound counted = tt
  term-split (terms.Partition partition) (values.Partition bound) is sound counted = (
    counted_points (meaning program) (partition_of partition),
    (partition-splits (meaning program) (partition_of partition) bound value is.numbers
        (count-legal _ partition.nest partition.sums.sums bound.count is.count.sums)
        (credits-legal _ no_points bound.credits (partition_of partition).credits (constant-legal _) is.credits)
        counted.0 counted.1 (split (meaning program) (partition_of partition) formed sound.0 sound.1)).shares,
  )
  term-split (terms.Partition partition) (values.Wavefront pairs outer) is sound counted = tt
  term-split (terms.Partition partition) (values.Joint bound) is sound counted = absurd is
  term-split (terms.Wavefront front) (values.Cold count) is sound counted = tt
  term-split (terms.Wavefront front) (values.Partition bound) is sound counted = absurd is
  term-split (terms.Wavefront front) (values.Wavefront pairs outer) is sound counted = tt
  term-split (terms.Wavefront front) (values.Joint bound) is sound counted = absurd is
  term-split (terms.Joint joint) (values.Cold count) is sound counted = tt
  term-split (terms.Joint joint) (values.Partition bound) is sound counted = absurd is
  term-split (terms.Joint joint) (values.Wavefront pairs outer) is sound counted = tt
  term-split (terms.Joint joint) (values.Joint bound) is sound counted =
      let term : JointTerm = joint_of joint in
      let parameters : ℕ = length (meaning program).parameters in
      let bounded : IsJointBound (meaning program) term bound.count bound.credits (numbers_of bound) = record {
        legal = credits-legal parameters no_points bound.count (map count_of term.parts) (constant-legal _) is.count;
        legal_credits = credits-legal parameters no_points bound.credits term.credits (constant-legal _) is.credits;
        images = counted.0;
        credited = counted.1;
        has = is.numbers;
      } in
      (image_vertices (meaning program) term, share (meaning program) term bound.count bound.credits (numbers_of bound) formed sound.0 sound.1 bounded)

  -- ---- the terms of a branch

  all-split : (terms : List Term) (given : List Value) → AreValuesOf (meaning program) (map claim_of_term terms) given → AllByRecursion (IsSound program) terms
      → AllZip (IsCounted program) terms given → AllZip (IsSplit (meaning program)) (terms_of given) (map (term_vertices program) terms)
  all-split [] [] are sound counted = tt
  all-split [] (v ∷ given) are sound counted = absurd counted
  all-split (term ∷ terms) [] are sound counted = absurd counted
  all-split (term ∷ terms) (v ∷ given) are sound counted = (term-split term v are.0 sound.0 counted.0, all-split terms given are.1 sound.1 counted.1)

  cost-their-values : (terms : List Term) (given : List Value) → AllZip (IsPaid program) terms given → CostTheirValues (meaning program) (terms_of given) (map (term_vertices program) terms)
  cost-their-values [] [] paid = tt
  cost-their-values [] (v ∷ given) paid = absurd paid
  cost-their-values (term ∷ terms) [] paid = absurd paid
  cost-their-values (term ∷ terms) (v ∷ given) paid = (paid.0, cost-their-values terms given paid.1)

  branches-split : (branches : List Branch) (given : List (List Value)) → AreBranchValues (meaning program) (map claim_of_branch branches) given
      → AllByRecursion (IsSoundBranch program) branches → AllZip (ArePaid program) branches given → AllZip (AreCounted program) branches given
      → AllByRecursion (IsSplitBranch (meaning program)) (map terms_of given)
  branches-split [] [] are sound paid counted = tt
  branches-split [] (v ∷ given) are sound paid counted = absurd paid
  branches-split (branch ∷ branches) [] are sound paid counted = absurd paid
  branches-split (branch ∷ branches) (v ∷ given) are sound paid counted = (
    record {
      footprints = map (term_vertices program) branch.terms.items;
      each = cost-their-values branch.terms.items v paid.0;
      apart = sound.0.apart;
      split = all-split branch.terms.items v are.0 sound.0.terms counted.0;
    },
    branches-split branches given are.1 sound.1 paid.1 counted.1,
  )

pub accepted-hold : SplitBranchesHoldInParallel → SoundTermsSplit → JointTermsShareAmongRuns → TermsHaveTheValue → AcceptedBoundsHoldInParallel
accepted-hold hold split share value program certificate bound formed accepted =
    hold (meaning program) (bound_of bound)
    (branches-split program formed split share value certificate.branches bound.branches accepted.meets.valued accepted.sound accepted.paid accepted.counts)
