-- The limits of joint terms, beside those of their parts.
use Rattle.std.specs.Prelude.{ℕ, zero, suc, ◌+◌, ◌<◌, ◌≤◌, length, map}
use Rattle.std.specs.List.{AllByRecursion}
use Rattle.affine_form.specs.Form.{IsSmallForm}
use Rattle.certificate_fit.specs.Limits.{AreSmall, AreSmallBounds, IsSmallCredit, IsSmallLabel, IsSmallNode, IsSmallPolynomial, IsSmallWalk, NameRows, NamesRows}
use Rattle.iolb_model.specs.declared.limits.TheConstants.{FAMILIES, NEST_VARIABLES, NUMBER_SIZE, SCALE, STRETCH, STRETCH_MORE, TREE_LEAVES, TREE_TESTS, WEIGHT}
use Rattle.joint_partition.specs.declared.limits.TheConstants.{GROUPS, JOINT_CREDITS, JOINT_WEIGHTS, LABELINGS, PARTS, WAYS}
use Rattle.joint_partition.specs.declared.term.Joint.{Joint}
use Rattle.joint_partition.specs.declared.term.Part.{Part}
use Rattle.joint_partition.specs.JointLoads.{weight_of}
use Rattle.joint_partition.specs.Splits.{SplitTree, empty, split}
use Rattle.joint_partition.specs.Term.{JointFamily, LabelForms, StartTerm, WayTerm}
use Rattle.joint_partition.specs.View.{family_of, joint_of, split_of}

-- how many ends a split has
abbrev pub end_count : SplitTree → ℕ
end_count (empty shown) = 1
end_count (split form above below) = end_count above + end_count below

-- a split whose tests are nested so many deep at most, its forms and multipliers within their limits
abbrev pub IsNestedSplit : ℕ → SplitTree → Type 0
IsNestedSplit nested (empty shown) = NamesRows shown
IsNestedSplit zero (split form above below) = ⊥
IsNestedSplit (suc nested) (split form above below) = IsSmallForm NUMBER_SIZE form × IsNestedSplit nested above × IsNestedSplit nested below

-- at most 16 nested tests, and at most 64 ends
pub record IsSmallSplit (tree : SplitTree) : Type 0 where
  pub nested : IsNestedSplit TREE_TESTS tree
  pub few : end_count tree ≤ TREE_LEAVES

-- a part: at most 6 variables, a map of 1 to 6 forms, and a scale from 1 to 2^20
pub record IsSmallPart (part : Part) : Type 0 where
  pub variables : length part.nest ≤ NEST_VARIABLES
  pub bounds : AreSmallBounds part.nest
  pub shown : NameRows part.sums.shown
  pub sums : AllByRecursion IsSmallPolynomial part.sums.sums
  pub inside : NameRows part.inside.items
  pub some_image : 1 ≤ length part.image.items
  pub few_image : length part.image.items ≤ NEST_VARIABLES
  pub image : AreSmall part.image.items
  pub some_scale : 1 ≤ part.inverse.scale
  pub scale : part.inverse.scale ≤ SCALE

abbrev pub IsSmallLabeling : LabelForms → Type 0
IsSmallLabeling labels = AllByRecursion IsSmallLabel labels.nodes × AllByRecursion IsSmallLabel labels.inputs

-- the regions of a way, and how walks start from the points of a part
abbrev pub IsSmallWay : WayTerm → Type 0
IsSmallWay way = AllByRecursion IsSmallNode way.regions

abbrev pub IsSmallStart : StartTerm → Type 0
IsSmallStart start = IsSmallWalk start.tree

-- A family: one of 6 groups, a scale from 1 to 2^20, a weight from 1 to 12, 1 to 4 labelings, and 1 to 8 ways.
pub record IsSmallJointFamily (family : JointFamily) : Type 0 where
  pub group : family.group < GROUPS
  pub some_scale : 1 ≤ family.scale
  pub scale : family.scale ≤ SCALE
  pub some_weight : 1 ≤ family.weight
  pub weight : family.weight ≤ WEIGHT
  pub some_labels : 1 ≤ length family.labels
  pub few_labels : length family.labels ≤ LABELINGS
  pub labels : AllByRecursion IsSmallLabeling family.labels
  pub some_ways : 1 ≤ length family.ways
  pub few_ways : length family.ways ≤ WAYS
  pub ways : AllByRecursion IsSmallWay family.ways
  pub starts : AllByRecursion IsSmallStart family.starts

-- A joint term: 1 to 4 parts; a cover of 1 to 12 times; a from 0 to 64 and b from 0 to 2^20, not both 0; at most 8 credits, and 1 to
-- 6 families, of weights that are 16 together at most.
pub record IsSmallJoint (joint : Joint) : Type 0 where
  pub some_parts : 1 ≤ length joint.parts.items
  pub few_parts : length joint.parts.items ≤ PARTS
  pub parts : AllByRecursion IsSmallPart joint.parts.items
  pub distinct : AllByRecursion IsSmallSplit (map split_of joint.distinct.items)
  pub some_q : 1 ≤ joint.q
  pub q : joint.q ≤ WEIGHT
  pub a : joint.a ≤ STRETCH
  pub b : joint.b ≤ STRETCH_MORE
  pub some_events : 1 ≤ joint.a + joint.b
  pub few_credits : length joint.credits.items ≤ JOINT_CREDITS
  pub credits : AllByRecursion IsSmallCredit joint.credits.items
  pub some_families : 1 ≤ length joint.families.items
  pub few_families : length joint.families.items ≤ FAMILIES
  pub families : AllByRecursion IsSmallJointFamily (map family_of joint.families.items)
  pub weights : weight_of (joint_of joint) ≤ JOINT_WEIGHTS
  pub apart : NameRows joint.apart.items
