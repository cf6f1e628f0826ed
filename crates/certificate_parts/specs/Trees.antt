-- The texts of source trees.
use Rattle.std.specs.Prelude.{ℕ, List, Bool, true, false, nat_le, if◌then◌else◌, codes, Option, None, Some, Ok, IfOk}
use Rattle.std.proofs.lemmas.Bool.{leb-true}
use Rattle.iolb_model.specs.Form.{AffineForm}
use Rattle.iolb_model.specs.declared.limits.TheConstants.{TREE_TESTS, TREE_LEAVES}
use Rattle.dep_quast.specs.Tree.{SourceClaim, source, input, empty, blank, SelectionTree, leaf, test, leaf_count}
use Rattle.certificate_fit.specs.Limits.{IsNestedTree, IsSmallTree}
use Rattle.serde_json.specs.Data.{Data, boolean, object}
use Rattle.serde_json.specs.Find.{as_bool}
use Rattle.json_parts.specs.Fields.{Fields, no_fields, field, object_shape, reads_made, told, told-kept}
use Rattle.json_parts.specs.Given.{given_then, given_if}
use Rattle.json_parts.specs.Outcome.{Outcome, ◌>>=◌, fault}
use Rattle.json_parts.specs.Shape.{Shape, natural_shape, list_shape, made-kept}
use Rattle.json_parts.specs.Truths.{never}
use Rattle.certificate_parts.specs.Forms.{forms_shape}
use Rattle.certificate_parts.specs.Leaves.{Shown, empty_fields}
use Rattle.certificate_parts.specs.Multipliers.{all_multipliers_shape}
use Rattle.certificate_parts.specs.Nested.{Branching, reads_nested, nested_kept, test_data}

-- ---- leaves: a source, that no earlier instance writes the cell, that no point comes there, or nothing

abbrev pub SourceMembers : Type 0
SourceMembers = Shown × (Shown × (Shown × (Shown × (ℕ × (List AffineForm × (ℕ × Unit {0}))))))

abbrev pub source_fields : Fields SourceMembers
source_fields =
    field (codes "before") all_multipliers_shape
    (field (codes "between") all_multipliers_shape
    (field (codes "cell") all_multipliers_shape
    (field (codes "domain") all_multipliers_shape
    (field (codes "level") (natural_shape 0 255)
    (field (codes "point") forms_shape
    (field (codes "statement") (natural_shape 0 65535)
    no_fields))))))

abbrev pub source_made : SourceMembers → SelectionTree
source_made b = leaf (source (record { statement = b.1.1.1.1.1.1.0; level = b.1.1.1.1.0; point = b.1.1.1.1.1.0; inside = b.1.1.1.0; cell = b.1.1.0; before = b.0; between = b.1.0 }))

abbrev pub source_parts : SourceClaim → SourceMembers
source_parts claim = (claim.before, (claim.between, (claim.cell, (claim.inside, (claim.level, (claim.point, (claim.statement, tt)))))))

abbrev pub input_fields : Fields (Shown × Unit {0})
input_fields = field (codes "input") all_multipliers_shape no_fields

abbrev pub is_true : Option Bool → Bool
is_true None = false
is_true (Some b) = b

unfoldable pub reads_true : Data → Outcome (Unit {0})
reads_true d = if is_true (as_bool d) then Ok tt else fault 2

pub true_kept : (d : Data) → IfOk (reads_true d) (λ _. Unit {0})
unfolding reads_true
true_kept d = given_if (is_true (as_bool d)) (Ok tt) (fault 2) (λ _. Unit {0}) (λ is. tt) tt

-- the boolean that is true
abbrev pub true_shape : Shape (Unit {0})
true_shape = record { reads = reads_true; data_of = λ _. boolean true; IsWithin = λ _. Unit {0}; kept = true_kept; is_present = false; present = never }

abbrev pub blank_fields : Fields (Unit {0} × Unit {0})
blank_fields = field (codes "blank") true_shape no_fields

-- A leaf, told by its keys.
unfoldable pub reads_tree_leaf : Data → Outcome SelectionTree
reads_tree_leaf =
    told source_fields source_made
    (told input_fields (λ b. leaf (input b.0))
    (told empty_fields (λ b. leaf (empty b.0))
    (reads_made blank_fields (λ b. leaf blank))))

abbrev pub tree_data : SelectionTree → Data
tree_data (leaf (source claim)) = object (source_fields.members (source_parts claim))
tree_data (leaf (input earlier)) = object (input_fields.members (earlier, tt))
tree_data (leaf (empty shown)) = object (empty_fields.members (shown, tt))
tree_data (leaf blank) = object (blank_fields.members (tt, tt))
tree_data (test form above below) = test_data form (tree_data below) (tree_data above)

pub tree_leaf_kept : (n : ℕ) (d : Data) → IfOk (reads_tree_leaf d) (IsNestedTree n)
unfolding reads_tree_leaf
tree_leaf_kept n =
    told-kept source_fields source_made _ (IsNestedTree n) (λ b small. record { point = small.1.1.1.1.1.0; inside = small.1.1.1.0; cell = small.1.1.0; before = small.0; between = small.1.0 })
    (told-kept input_fields (λ b. leaf (input b.0)) _ (IsNestedTree n) (λ b small. small.0)
    (told-kept empty_fields (λ b. leaf (empty b.0)) _ (IsNestedTree n) (λ b small. small.0)
    (made-kept (object_shape blank_fields) (λ b. leaf blank) (IsNestedTree n) (λ b small. tt))))

-- ---- trees: at most 16 nested tests, and at most 64 leaves

abbrev pub trees_branch : Branching SelectionTree
trees_branch = record { reads_end = reads_tree_leaf; made = test; IsNested = IsNestedTree; end_kept = tree_leaf_kept; made_kept = λ n form above below f a b. (f, a, b) }

unfoldable pub reads_tree : Data → Outcome SelectionTree
reads_tree d = do
  tree ← reads_nested trees_branch TREE_TESTS d
  if nat_le (leaf_count tree) TREE_LEAVES then Ok tree else fault 3

pub tree_kept : (d : Data) → IfOk (reads_tree d) IsSmallTree
unfolding reads_tree
tree_kept d =
    given_then (reads_nested trees_branch TREE_TESTS d) _ (IsNestedTree TREE_TESTS) IsSmallTree (nested_kept trees_branch TREE_TESTS d)
    (λ tree nested. given_if (nat_le (leaf_count tree) TREE_LEAVES) (Ok tree) (fault 3) IsSmallTree (λ is. record { nested = nested; few = leb-true (leaf_count tree) TREE_LEAVES is }) tt)

abbrev pub tree_shape : Shape SelectionTree
tree_shape = record { reads = reads_tree; data_of = tree_data; IsWithin = IsSmallTree; kept = tree_kept; is_present = false; present = never }

-- the source trees of the reads of a statement, and those of all statements
abbrev pub trees_shape : Shape (List SelectionTree)
trees_shape = list_shape tree_shape

abbrev pub all_trees_shape : Shape (List (List SelectionTree))
all_trees_shape = list_shape trees_shape
