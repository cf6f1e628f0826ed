-- Joint terms with few numbers, the weights of their groups, and that a term has one list of numbers.
use Rattle.std.specs.Prelude.{◌≡◌, ℕ, ◌<◌, ◌≤◌, ◌==◌, cond, List, length, sum_by}
use Rattle.std.specs.List.{AllByRecursion}
use Rattle.iolb_model.specs.Bound.{StretchNumbers}
use Rattle.joint_partition.specs.declared.limits.TheConstants.{GROUPS, JOINT_WEIGHTS, LABELINGS}
use Rattle.joint_partition.specs.declared.term.JointFamily.{JointFamily as Family}
use Rattle.joint_partition.specs.JointLoads.{HasJointNumbers, weight_of}
use Rattle.joint_partition.specs.Term.{JointFamily, JointTerm}

-- the weights of the families that have a group's number, added up
abbrev pub group_weight : List Family → ℕ → ℕ
group_weight families number = sum_by (λ (family : Family). cond (family.group == number) family.weight 0) families

-- The numbers of a term are few: its weights are few together, and so are the labelings of each family and the groups.
pub record FitsNumbers (term : JointTerm) : Type 0 where
  pub light : weight_of term ≤ JOINT_WEIGHTS
  pub labelings : AllByRecursion (λ (family : JointFamily). length family.labels ≤ LABELINGS) term.families
  pub groups : AllByRecursion (λ (family : JointFamily). family.group < GROUPS) term.families

-- A joint term has one list of numbers, since a fraction has one form in lowest terms.
abbrev pub JointNumbersAreOne : Type 0
JointNumbersAreOne = (term : JointTerm) (numbers others : StretchNumbers) → HasJointNumbers term numbers → HasJointNumbers term others → numbers ≡ others

-- Their denominator is positive.
abbrev pub JointNumbersArePositive : Type 0
JointNumbersArePositive = (term : JointTerm) (numbers : StretchNumbers) → HasJointNumbers term numbers → 1 ≤ numbers.den
