-- Claims at leaves, and source trees, that are written, read.
use Rattle.std.proofs.Common.{◌≡◌, ℕ, zero, suc, List, [], ◌∷◌, map, Vec, Global, Ok, refl, sym, subst, arith}
use Rattle.std.proofs.lemmas.Bool.{le-leb}
use Rattle.std.specs.List.{AllByRecursion}
use Rattle.iolb_model.specs.Form.{AffineForm}
use Rattle.iolb_model.specs.declared.limits.TheConstants.{TREE_LEAVES}
use Rattle.affine_form.specs.Multipliers.{FarkasMultipliers}
use Rattle.certificate_fit.specs.Limits.{IsSmallEntry, IsNestedTree, IsSmallTree, IsNestedWalk, IsSmallWalk}
use Rattle.dep_quast.specs.declared.quast.Quast.{Quast}
use Rattle.dep_quast.specs.Tree.{SourceClaim, leaf, source, input, empty, blank, SelectionTree, test, leaf_count, tree_of}
use Rattle.reuse_paths.specs.declared.leaf.Leaf.{Leaf}
use Rattle.dep_quast.specs.declared.quasts.Quasts.{Quasts}
use Rattle.reuse_paths.specs.LeafClaims.{LeafClaim, claim_of, is_credited}
use Rattle.dep_quast.specs.Quasts.{row_trees}
use Rattle.reuse_paths.specs.Walks.{WalkTree, take, test as walk_test, entry_count}
use Rattle.json_parts.specs.Fields.{object_shape}
use Rattle.json_parts.specs.Json.{has_keys}
use Rattle.json_parts.specs.Shape.{IsReadBack}
use Rattle.certificate_parts.specs.Leaves.{Shown, credit_fields, reads_leaf, leaf_shape, empty_fields}
use Rattle.certificate_parts.specs.Nested.{reads_nested}
use Rattle.certificate_parts.specs.Trees.{source_fields, source_parts, input_fields, blank_fields, reads_tree_leaf, trees_branch, tree_data, reads_tree, tree_shape}
use Rattle.certificate_parts.specs.Walks.{take_fields, reads_take, walks_branch, walk_data, reads_walk, walk_shape}

pub credit_read : (credit : ℕ) (rows label : Shown) → IsReadBack (object_shape credit_fields) (credit, (label, (rows, tt))) → IsReadBack leaf_shape (is_credited credit rows label)
unfolding reads_leaf has_keys
credit_read credit rows label h = rw h refl

pub leaves_fit : (leaves : List Leaf) → AllByRecursion IsSmallEntry (map claim_of leaves) → AllByRecursion (λ leaf. IsSmallEntry (claim_of leaf)) leaves
leaves_fit [] all = tt
leaves_fit (one ∷ leaves) all = (all.0, leaves_fit leaves all.1)

-- ---- leaves of trees, wherever they stand

pub source_read : (n : ℕ) (claim : SourceClaim) → IsReadBack (object_shape source_fields) (source_parts claim) → reads_nested trees_branch n (tree_data (leaf (source claim))) ≡ Ok (leaf (source claim))
unfolding reads_nested reads_tree_leaf has_keys
source_read zero claim h = rw h refl
source_read (suc n) claim h = rw h refl

pub input_read : (n : ℕ) (earlier : Shown) → IsReadBack (object_shape input_fields) (earlier, tt) → reads_nested trees_branch n (tree_data (leaf (input earlier))) ≡ Ok (leaf (input earlier))
unfolding reads_nested reads_tree_leaf has_keys
input_read zero earlier h = rw h refl
input_read (suc n) earlier h = rw h refl

pub empty_read : (n : ℕ) (shown : FarkasMultipliers) → IsReadBack (object_shape empty_fields) (shown, tt) → reads_nested trees_branch n (tree_data (leaf (empty shown))) ≡ Ok (leaf (empty shown))
unfolding reads_nested reads_tree_leaf has_keys
empty_read zero shown h = rw h refl
empty_read (suc n) shown h = rw h refl

pub blank_read : (n : ℕ) → IsReadBack (object_shape blank_fields) (tt, tt) → reads_nested trees_branch n (tree_data (leaf blank)) ≡ Ok (leaf blank)
unfolding reads_nested reads_tree_leaf has_keys
blank_read zero h = rw h refl
blank_read (suc n) h = rw h refl

-- ---- trees and walks

pub test_some : (n : ℕ) (form : AffineForm) (above below : SelectionTree) → IsNestedTree n (test form above below) → n ≡ 0 → ⊥
test_some zero form above below nested none = nested
test_some (suc n) form above below nested none = omega (arith, none)

pub tree_read : (tree : SelectionTree) → IsSmallTree tree → reads_nested trees_branch 16 (tree_data tree) ≡ Ok tree → IsReadBack tree_shape tree
unfolding reads_tree
tree_read tree small h = rw (h, le-leb (leaf_count tree) TREE_LEAVES small.few) refl

pub take_read : (n : ℕ) (entries : List LeafClaim) (read : ℕ) → IsReadBack (object_shape take_fields) (entries, (read, tt)) → reads_nested walks_branch n (walk_data (take read entries)) ≡ Ok (take read entries)
unfolding reads_nested reads_take has_keys
take_read zero entries read h = rw h refl
take_read (suc n) entries read h = rw h refl

pub walk_test_some : (n : ℕ) (form : AffineForm) (above below : WalkTree) → IsNestedWalk n (walk_test form above below) → n ≡ 0 → ⊥
walk_test_some zero form above below nested none = nested
walk_test_some (suc n) form above below nested none = omega (arith, none)

pub walk_read : (walk : WalkTree) → IsSmallWalk walk → reads_nested walks_branch 16 (walk_data walk) ≡ Ok walk → IsReadBack walk_shape walk
unfolding reads_walk
walk_read walk small h = rw (h, le-leb (entry_count walk) TREE_LEAVES small.few) refl

-- ---- the trees that were read

quasts_of : (quasts : List Quast) → AllByRecursion IsSmallTree (map tree_of quasts) → AllByRecursion (λ quast. IsSmallTree (tree_of quast)) quasts
quasts_of [] all = tt
quasts_of (quast ∷ quasts) all = (all.0, quasts_of quasts all.1)

all_quasts_of : (rows : List (Vec Quast Global)) → AllByRecursion (AllByRecursion IsSmallTree) (map row_trees rows) → AllByRecursion (λ row. AllByRecursion (λ quast. IsSmallTree (tree_of quast)) row.items) rows
all_quasts_of [] all = tt
all_quasts_of (row ∷ rows) all = (quasts_of row.items all.0, all_quasts_of rows all.1)

pub quasts_small : (trees : List (List SelectionTree)) (quasts : Quasts) → map row_trees quasts.rows.items ≡ trees → AllByRecursion (AllByRecursion IsSmallTree) trees
    → AllByRecursion (λ row. AllByRecursion (λ quast. IsSmallTree (tree_of quast)) row.items) quasts.rows.items
quasts_small trees quasts are all = all_quasts_of quasts.rows.items (subst (AllByRecursion (AllByRecursion IsSmallTree)) (sym are) all)
