-- The targets of the pieces of families, told without their claims. A read that isn't there has no leaves, and an entry at a
-- blank leaf or at no leaf has no piece.
use Rattle.std.specs.Prelude.{ℕ, suc, nat_lt, if◌then◌else◌, List, [], ◌∷◌, ◌++◌, length, map, flat_map, Option, Some, None}
use Rattle.std.specs.List.{cons_option}
use Rattle.iolb_model.specs.Program.{AffineProgram, statement_at}
use Rattle.dep_quast.specs.Context.{reference_of}
use Rattle.dep_quast.specs.Tree.{Leaf, source, input, empty, blank, SelectionTree, leaf, test}
use Rattle.joint_partition.specs.Term.{JointFamily, JointTerm, PartTerm, StartTerm, WayTerm}
use Rattle.k_partition.specs.Term.{PartitionTerm}
use Rattle.footprint_pieces.specs.declared.piece.Target.{Target}
use Rattle.footprint_pieces.specs.declared.piece.Target.TheVariants.{Cell, Instance}
use Rattle.reuse_paths.specs.Families.{FamilyForms, node_region}
use Rattle.reuse_paths.specs.LeafClaims.{LeafClaim, no_point, stops, is_credited, goes_on, arrives}
use Rattle.dep_quast.specs.Quasts.{tree_at}
use Rattle.dep_quast.specs.Trees.{read_of}
use Rattle.reuse_paths.specs.Walks.{WalkTree, take, test as walk_test, WalkRegion}

-- the target of the piece of a leaf that isn't empty, where it has one
abbrev pub leaf_target : ℕ → Leaf → List (Option Target)
leaf_target array (source claim) = Some (Instance claim.statement) ∷ []
leaf_target array (input shown) = Some (Cell array) ∷ []
leaf_target array (empty shown) = []
leaf_target array blank = None ∷ []

-- those of the leaves of the source tree of a read of an array
abbrev pub leaf_targets : ℕ → SelectionTree → List (Option Target)
leaf_targets array (leaf chosen) = leaf_target array chosen
leaf_targets array (test form above below) = leaf_targets array above ++ leaf_targets array below

-- the target of a leaf, unless its entry says that no point comes there
abbrev pub taken_target : Option Target → LeafClaim → Option Target
taken_target target (no_point shown) = None
taken_target target (stops label) = target
taken_target target (is_credited credit rows label) = target
taken_target target (goes_on rows label) = target
taken_target target (arrives equal) = target

-- those of the leaves that have an entry
abbrev pub taken_targets : List (Option Target) → List LeafClaim → List Target
taken_targets [] entries = []
taken_targets (target ∷ targets) [] = []
taken_targets (target ∷ targets) (entry ∷ entries) = cons_option (taken_target target entry) (taken_targets targets entries)

-- those of the leaves of a source tree, where there is one
abbrev pub taken_if : ℕ → List LeafClaim → Option SelectionTree → List Target
taken_if array entries None = []
taken_if array entries (Some tree) = taken_targets (leaf_targets array tree) entries

-- those of a walk from the instances of a statement
abbrev pub walk_targets : AffineProgram → List (List SelectionTree) → ℕ → WalkTree → List Target
walk_targets program trees statement (take read entries) =
    if nat_lt read (length (statement_at program statement).reads)
    then taken_if (reference_of program (read_of statement read)).array entries (tree_at trees statement read) else []
walk_targets program trees statement (walk_test form above below) = walk_targets program trees statement above ++ walk_targets program trees statement below

-- those of the regions of statements, from a statement on
abbrev pub region_targets : AffineProgram → List (List SelectionTree) → ℕ → Option WalkRegion → List Target
region_targets program trees statement None = []
region_targets program trees statement (Some region) = walk_targets program trees statement region.tree

abbrev pub regions_targets : AffineProgram → List (List SelectionTree) → ℕ → List (Option WalkRegion) → List Target
regions_targets program trees statement [] = []
regions_targets program trees statement (region ∷ regions) =
    region_targets program trees statement region ++ regions_targets program trees (suc statement) regions

-- those of a family of a statement's instances: of its start walk, then of its regions
abbrev pub family_targets : AffineProgram → List (List SelectionTree) → ℕ → FamilyForms → List Target
family_targets program trees statement family =
    walk_targets program trees statement family.start ++ regions_targets program trees 0 (map node_region family.nodes)

-- those of a partition term's families, family by family
abbrev pub partition_targets : AffineProgram → List (List SelectionTree) → PartitionTerm → List Target
partition_targets program trees term = flat_map (family_targets program trees term.statement) term.families

-- those of the walks of a joint term's family from parts, and of the regions of a way
abbrev pub starts_targets : AffineProgram → List (List SelectionTree) → List PartTerm → List StartTerm → List Target
starts_targets program trees [] starts = []
starts_targets program trees (part ∷ parts) [] = []
starts_targets program trees (part ∷ parts) (start ∷ starts) = walk_targets program trees part.statement start.tree ++ starts_targets program trees parts starts

abbrev pub way_targets : AffineProgram → List (List SelectionTree) → WayTerm → List Target
way_targets program trees way = regions_targets program trees 0 way.regions

-- those of a family: of its starts by part, then of its ways
abbrev pub group_family_targets : AffineProgram → List (List SelectionTree) → List PartTerm → JointFamily → List Target
group_family_targets program trees parts family = starts_targets program trees parts family.starts ++ flat_map (way_targets program trees) family.ways

-- those of a joint term's families, family by family
abbrev pub joint_targets : AffineProgram → List (List SelectionTree) → JointTerm → List Target
joint_targets program trees term = flat_map (group_family_targets program trees term.parts) term.families
