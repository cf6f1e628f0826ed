-- The texts of walks.
use Rattle.std.specs.Prelude.{ℕ, List, false, nat_le, if◌then◌else◌, codes, Ok, IfOk}
use Rattle.std.proofs.lemmas.Bool.{leb-true}
use Rattle.iolb_model.specs.declared.limits.TheConstants.{TREE_TESTS, TREE_LEAVES}
use Rattle.certificate_fit.specs.Limits.{IsNestedWalk, IsSmallWalk}
use Rattle.reuse_paths.specs.LeafClaims.{LeafClaim}
use Rattle.reuse_paths.specs.Walks.{WalkTree, take, test, entry_count}
use Rattle.serde_json.specs.Data.{Data, object}
use Rattle.json_parts.specs.Fields.{Fields, no_fields, field, object_shape, reads_made}
use Rattle.json_parts.specs.Given.{given_then, given_if}
use Rattle.json_parts.specs.Outcome.{Outcome, ◌>>=◌, fault}
use Rattle.json_parts.specs.Shape.{Shape, natural_shape, made-kept}
use Rattle.json_parts.specs.Truths.{never}
use Rattle.certificate_parts.specs.Leaves.{leaves_shape}
use Rattle.certificate_parts.specs.Nested.{Branching, reads_nested, nested_kept, test_data}

-- the source of a read, with a claim for each leaf of its source tree
abbrev pub take_fields : Fields (List LeafClaim × (ℕ × Unit {0}))
take_fields = field (codes "leaves") leaves_shape (field (codes "read") (natural_shape 0 65535) no_fields)

abbrev pub take_made : List LeafClaim × (ℕ × Unit {0}) → WalkTree
take_made b = take b.1.0 b.0

unfoldable pub reads_take : Data → Outcome WalkTree
reads_take = reads_made take_fields take_made

abbrev pub walk_data : WalkTree → Data
walk_data (take read entries) = object (take_fields.members (entries, (read, tt)))
walk_data (test form above below) = test_data form (walk_data below) (walk_data above)

pub take_kept : (n : ℕ) (d : Data) → IfOk (reads_take d) (IsNestedWalk n)
unfolding reads_take
take_kept n d = made-kept (object_shape take_fields) take_made (IsNestedWalk n) (λ b small. small.0) d

abbrev pub walks_branch : Branching WalkTree
walks_branch = record { reads_end = reads_take; made = test; IsNested = IsNestedWalk; end_kept = take_kept; made_kept = λ n form above below f a b. (f, a, b) }

-- A walk: at most 16 nested tests, and at most 64 claims at leaves.
unfoldable pub reads_walk : Data → Outcome WalkTree
reads_walk d = do
  walk ← reads_nested walks_branch TREE_TESTS d
  if nat_le (entry_count walk) TREE_LEAVES then Ok walk else fault 3

pub walk_kept : (d : Data) → IfOk (reads_walk d) IsSmallWalk
unfolding reads_walk
walk_kept d =
    given_then (reads_nested walks_branch TREE_TESTS d) _ (IsNestedWalk TREE_TESTS) IsSmallWalk (nested_kept walks_branch TREE_TESTS d)
    (λ walk nested. given_if (nat_le (entry_count walk) TREE_LEAVES) (Ok walk) (fault 3) IsSmallWalk (λ is. record { nested = nested; few = leb-true (entry_count walk) TREE_LEAVES is }) tt)

abbrev pub walk_shape : Shape WalkTree
walk_shape = record { reads = reads_walk; data_of = walk_data; IsWithin = IsSmallWalk; kept = walk_kept; is_present = false; present = never }
