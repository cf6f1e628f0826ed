-- The texts of splits.
use Rattle.std.specs.Prelude.{ℕ, List, false, nat_le, if◌then◌else◌, codes, Ok, IfOk}
use Rattle.std.proofs.lemmas.Bool.{leb-true}
use Rattle.affine_form.specs.Multipliers.{FarkasMultipliers}
use Rattle.iolb_model.specs.declared.limits.TheConstants.{TREE_TESTS, TREE_LEAVES}
use Rattle.serde_json.specs.Data.{Data, object}
use Rattle.json_parts.specs.Fields.{Fields, no_fields, field, object_shape, reads_made}
use Rattle.json_parts.specs.Given.{given_then, given_if}
use Rattle.json_parts.specs.Outcome.{Outcome, ◌>>=◌, fault}
use Rattle.json_parts.specs.Shape.{Shape, made-kept}
use Rattle.json_parts.specs.Truths.{never}
use Rattle.certificate_parts.specs.Multipliers.{multipliers_shape}
use Rattle.certificate_parts.specs.Nested.{Branching, reads_nested, nested_kept, test_data}
use Rattle.joint_partition.specs.Limits.{end_count, IsNestedSplit, IsSmallSplit}
use Rattle.joint_partition.specs.Splits.{SplitTree, empty, split}

-- the multipliers of an end
abbrev pub end_fields : Fields (FarkasMultipliers × Unit {0})
end_fields = field (codes "empty") multipliers_shape no_fields

abbrev pub end_made : FarkasMultipliers × Unit {0} → SplitTree
end_made b = empty b.0

unfoldable pub reads_end : Data → Outcome SplitTree
reads_end = reads_made end_fields end_made

abbrev pub split_data : SplitTree → Data
split_data (empty shown) = object (end_fields.members (shown, tt))
split_data (split form above below) = test_data form (split_data below) (split_data above)

pub end_kept : (n : ℕ) (d : Data) → IfOk (reads_end d) (IsNestedSplit n)
unfolding reads_end
end_kept n d = made-kept (object_shape end_fields) end_made (IsNestedSplit n) (λ b small. small.0) d

abbrev pub splits_branch : Branching SplitTree
splits_branch = record { reads_end = reads_end; made = split; IsNested = IsNestedSplit; end_kept = end_kept; made_kept = λ n form above below f a b. (f, a, b) }

-- A split: at most 16 nested tests, and at most 64 ends.
unfoldable pub reads_split : Data → Outcome SplitTree
reads_split d = do
  tree ← reads_nested splits_branch TREE_TESTS d
  if nat_le (end_count tree) TREE_LEAVES then Ok tree else fault 3

pub split_kept : (d : Data) → IfOk (reads_split d) IsSmallSplit
unfolding reads_split
split_kept d =
    given_then (reads_nested splits_branch TREE_TESTS d) _ (IsNestedSplit TREE_TESTS) IsSmallSplit (nested_kept splits_branch TREE_TESTS d)
    (λ tree nested. given_if (nat_le (end_count tree) TREE_LEAVES) (Ok tree) (fault 3) IsSmallSplit (λ is. record { nested = nested; few = leb-true (end_count tree) TREE_LEAVES is }) tt)

abbrev pub split_shape : Shape SplitTree
split_shape = record { reads = reads_split; data_of = split_data; IsWithin = IsSmallSplit; kept = split_kept; is_present = false; present = never }
