-- What the parts of the code are.
use Rattle.std.specs.Prelude.{◌≡◌, ℕ, ◌≤◌, ⊤, List, [], ◌∷◌, drop, length, map, option_map}
use Rattle.std.specs.List.{AllByRecursion}
use Rattle.affine_program.specs.Parts.{ProgramParts, meaning}
use Rattle.domain_count.specs.Claims.{FitsCount}
use Rattle.iolb_model.specs.Program.{AffineProgram}
use Rattle.iolb_model.specs.declared.limits.TheConstants.{NEST_VARIABLES, TREE_TESTS, WEIGHTS}
use Rattle.k_partition.specs.View.{FitsCredit, credit_term_of}
use Rattle.reuse_paths.specs.Families.{boxed_forms}
use Rattle.reuse_paths.specs.Walks.{boxed_region, tree_of_walk}
use Rattle.joint_partition.specs.declared.term.Joint.{Joint}
use Rattle.joint_partition.specs.declared.term.JointFamily.{JointFamily as Family}
use Rattle.joint_partition.specs.declared.term.Labeling.{Labeling}
use Rattle.joint_partition.specs.declared.term.Part.{Part}
use Rattle.joint_partition.specs.declared.term.Split.{Split}
use Rattle.joint_partition.specs.declared.term.Split.TheVariants as splits
use Rattle.joint_partition.specs.declared.term.Start.{Start}
use Rattle.joint_partition.specs.declared.term.Way.{Way}
use Rattle.joint_partition.specs.Claims.{two_variables}
use Rattle.joint_partition.specs.JointFits.{PartFits}
use Rattle.joint_partition.specs.JointLoads.{weight_of}
use Rattle.joint_partition.specs.JointWords.{dimensions_of}
use Rattle.joint_partition.specs.SplitFits.{SplitFits, nesting}
use Rattle.joint_partition.specs.Splits.{SplitTree, empty, split}
use Rattle.joint_partition.specs.Term.{JointFamily, JointTerm, LabelForms, PartTerm, StartTerm, WayTerm}

-- ---- what the code holds

abbrev pub split_of : Split → SplitTree
split_of (splits.Test' form p above q below) = split form (split_of above) (split_of below)
split_of (splits.Empty shown) = empty shown

abbrev pub part_of : Part → PartTerm
part_of part = record {
  statement = part.statement;
  nest = part.nest;
  count = part.sums;
  inside = part.inside.items;
  image = part.image.items;
  inverse = part.inverse.matrix;
  scale = part.inverse.scale;
}

abbrev pub labeling_of : Labeling → LabelForms
labeling_of labels = record { nodes = map (option_map boxed_forms) labels.nodes.items; inputs = map (option_map boxed_forms) labels.inputs.items }

abbrev pub way_of : Way → WayTerm
way_of way = record { labels = way.labels; regions = map (option_map boxed_region) way.regions.items }

abbrev pub start_of : Start → StartTerm
start_of start = record { way = start.way; tree = tree_of_walk start.tree }

abbrev pub family_of : Family → JointFamily
family_of family = record {
  group = family.group;
  scale = family.scale;
  set = family.set;
  weight = family.weight;
  labels = map labeling_of family.labels.items;
  ways = map way_of family.ways.items;
  starts = map start_of family.starts.items;
}

-- the joint partition term that the code holds
abbrev pub joint_of : Joint → JointTerm
joint_of joint = record {
  parts = map part_of joint.parts.items;
  distinct = map split_of joint.distinct.items;
  q = joint.q;
  a = joint.a;
  b = joint.b;
  credits = map credit_term_of joint.credits.items;
  families = map family_of joint.families.items;
  apart = joint.apart.items;
}

-- ---- what fits

-- A part fits a program, with a map of so many forms: what is claimed of its number of points does, and its matrix has a row for
-- each loop and a column for each form.
pub record FitsPart (program : ProgramParts) (dimensions : ℕ) (part : Part) : Type 0 where
  pub fits : PartFits (meaning program) dimensions (part_of part)
  pub count : FitsCount program part.nest part.sums
  pub few : dimensions ≤ NEST_VARIABLES
  pub rows : part.inverse.matrix.rows ≡ length part.nest
  pub columns : 1 ≤ part.inverse.matrix.rows → part.inverse.matrix.columns ≡ dimensions

-- there is a split for a part and each part of a list, and it fits
abbrev pub SplitsFrom : AffineProgram → PartTerm → List PartTerm → List SplitTree → Type 0
SplitsFrom program part [] trees = ⊤
SplitsFrom program part (other ∷ others) [] = ⊥
SplitsFrom program part (other ∷ others) (tree ∷ trees) =
    (SplitFits (two_variables program part other) tree × (nesting tree ≤ TREE_TESTS)) × SplitsFrom program part others trees

-- so for each part and each later one
abbrev pub SplitsFit : AffineProgram → List PartTerm → List SplitTree → Type 0
SplitsFit program [] trees = ⊤
SplitsFit program (part ∷ parts) trees = SplitsFrom program part parts trees × SplitsFit program parts (drop (length parts) trees)

-- The points of a term fit a program: its parts do, with maps of as many forms, its splits and what is claimed of its credits;
-- and its weights are few together.
pub record FitsPoints (program : ProgramParts) (joint : Joint) : Type 0 where
  pub parts : AllByRecursion (FitsPart program (dimensions_of (joint_of joint))) joint.parts.items
  pub splits : SplitsFit (meaning program) (joint_of joint).parts (joint_of joint).distinct
  pub credits : AllByRecursion (FitsCredit program) joint.credits.items
  pub few : dimensions_of (joint_of joint) ≤ NEST_VARIABLES
  pub light : weight_of (joint_of joint) ≤ WEIGHTS
