-- Branches that are proposed.
use Rattle.std.specs.Prelude.{◌≡◌, ◌≤◌, ⊤, ℕ, List, length, Option, None, Some}
use Rattle.std.specs.List.{AllByRecursion}
use Rattle.joint_partition.specs.JointLoads.{weight_of as joint_weight}
use Rattle.joint_partition.specs.View.{joint_of}
use Rattle.k_partition.specs.TermLoads.{weight_of}
use Rattle.k_partition.specs.View.{partition_of}
use Rattle.iolb_check.specs.Limits.{IsSmallBranch}
use Rattle.iolb_check.specs.declared.term.Branch.{Branch}
use Rattle.iolb_check.specs.declared.term.Term.{Term}
use Rattle.iolb_check.specs.declared.term.Term.TheVariants as terms
use Rattle.projective_bounds.specs.Whole.{stretch_for}

-- The stretches of a term whose families weigh so much are those of one rule: a is q over what the weight is more, rounded down, 1 at least,
-- and 16 where the weight is q; b is 0. (For a large memory the best a is that quotient, before it is rounded, and where the weight is q the
-- greatest.)
abbrev pub AreRuledStretches : ℕ → ℕ → ℕ → ℕ → Type 0
AreRuledStretches q weight a b = (a ≡ stretch_for q weight) × (b ≡ 0)

abbrev pub IsAsProposed : Term → Type 0
IsAsProposed (terms.Cold cold) = ⊤
IsAsProposed (terms.Partition partition) = AreRuledStretches partition.q (weight_of (partition_of partition)) partition.a partition.b
IsAsProposed (terms.Wavefront front) = ⊤
IsAsProposed (terms.Joint joint) = AreRuledStretches joint.q (joint_weight (joint_of joint)) joint.a joint.b

-- A branch that is proposed has a term, is within the limits of branches, and its partition and joint terms have such stretches.
pub record IsProposal (branch : Branch) : Type 0 where
  pub some : 1 ≤ length branch.terms.items
  pub small : IsSmallBranch branch
  pub terms : AllByRecursion IsAsProposed branch.terms.items

-- an opening branch, where there is one, is within the limits
abbrev pub IsSmallOpening : Option Branch → Type 0
IsSmallOpening None = ⊤
IsSmallOpening (Some branch) = IsSmallBranch branch
