-- Splits and joint terms that are written, read.
use Rattle.std.proofs.Common.{◌≡◌, ℕ, zero, suc, ◌+◌, ◌≤◌, Ok, codes, refl, arith}
use Rattle.std.proofs.lemmas.Bool.{le-leb}
use Rattle.affine_form.specs.Multipliers.{FarkasMultipliers}
use Rattle.iolb_model.specs.declared.limits.TheConstants.{TREE_LEAVES}
use Rattle.iolb_model.specs.Form.{AffineForm}
use Rattle.json_parts.specs.Fields.{object_shape}
use Rattle.json_parts.specs.Json.{has_keys}
use Rattle.json_parts.specs.Shape.{IsReadBack}
use Rattle.json_parts.proofs.Back.{tested_read}
use Rattle.certificate_parts.specs.Nested.{reads_nested}
use Rattle.joint_partition.specs.Limits.{end_count, IsNestedSplit, IsSmallSplit}
use Rattle.joint_partition.specs.Splits.{SplitTree, empty, split}
use Rattle.joint_text.specs.Joint.{WrittenJoint, has_events, joint_shape, members_shape}
use Rattle.joint_text.specs.Splits.{end_fields, reads_end, reads_split, split_data, split_shape, splits_branch}

-- an end, wherever it stands
pub end_read : (n : ℕ) (shown : FarkasMultipliers) → IsReadBack (object_shape end_fields) (shown, tt) → reads_nested splits_branch n (split_data (empty shown)) ≡ Ok (empty shown)
unfolding reads_nested reads_end has_keys
end_read zero shown h = rw h refl
end_read (suc n) shown h = rw h refl

pub test_some : (n : ℕ) (form : AffineForm) (above below : SplitTree) → IsNestedSplit n (split form above below) → n ≡ 0 → ⊥
test_some zero form above below nested none = nested
test_some (suc n) form above below nested none = omega (arith, none)

pub split_read : (tree : SplitTree) → IsSmallSplit tree → reads_nested splits_branch 16 (split_data tree) ≡ Ok tree → IsReadBack split_shape tree
unfolding reads_split
split_read tree small h = rw (h, le-leb (end_count tree) TREE_LEAVES small.few) refl

pub joint_read : (said : WrittenJoint) → 1 ≤ said.a + said.b → IsReadBack members_shape said → IsReadBack joint_shape said
unfolding joint_shape
joint_read said some h = tested_read (codes "a") members_shape has_events said (le-leb 1 (said.a + said.b) some) h
