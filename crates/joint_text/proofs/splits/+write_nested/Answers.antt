use Rattle.std.proofs.Common.{◌≡◌, ◌-◌, ℕ, Ok, sym, subst}
use Rattle.affine_form.specs.Multipliers.{FarkasMultipliers}
use Rattle.json_parts.specs.Fields.{object_shape}
use Rattle.json_parts.specs.Shape.{IsReadBack}
use Rattle.certificate_parts.specs.Nested.{reads_nested}
use Rattle.certificate_parts.proofs.NestedTrees.{test_read}
use Rattle.joint_partition.specs.declared.term.Split.{Split}
use Rattle.joint_partition.specs.Limits.{IsNestedSplit}
use Rattle.joint_partition.specs.View.{split_of}
use Rattle.joint_text.specs.Splits.{end_fields, split_data, splits_branch}
use Rattle.joint_text.proofs.ReadBack.{end_read, test_some}
use Rattle.joint_text.proofs.splits.+write_nested.Goals as goal

abbrev IsRead : ℕ → Split → Type 0
IsRead n split = reads_nested splits_branch n (split_data (split_of split)) ≡ Ok (split_of split)

pub returns-in_ok-value-in-Test-clause-read : goal.returns-in_ok-value-in-Test-clause-read
returns-in_ok-value-in-Test-clause-read t c =
    let n = c.args.left in
    let small = subst (λ (split : Split). IsNestedSplit n (split_of split)) c.in-Test.is c.requires in
    subst (IsRead n) (sym c.in-Test.is)
    (test_read splits_branch n c.in-Test.form (split_of c.in-Test.yes.value) (split_of c.in-Test.no.value) (split_data (split_of c.in-Test.no.value)) (split_data (split_of c.in-Test.yes.value))
    (test_some n c.in-Test.form (split_of c.in-Test.yes.value) (split_of c.in-Test.no.value) small) c.in_ok-value-in-Test.ensures.read
    (subst (IsRead (n - 1)) c.deref.ensures c.in_ok-below-in-Test.ensures.read) (subst (IsRead (n - 1)) c.deref-in-Test.ensures c.in_ok-above-in-Test.ensures.read))

pub write_object-requires-clause-fit : goal.write_object-requires-clause-fit
write_object-requires-clause-fit t c =
    let small = subst (λ (split : Split). IsNestedSplit c.args.left (split_of split)) c.in-Empty.is c.requires in
    rw c.put_part-all.ensures.value (small, tt)

pub returns-in_ok-value-in-Empty-clause-read : goal.returns-in_ok-value-in-Empty-clause-read
returns-in_ok-value-in-Empty-clause-read t c = subst (IsRead c.args.left) (sym c.in-Empty.is)
    (end_read c.args.left c.in-Empty.shown
    (subst (λ (shown : FarkasMultipliers). IsReadBack (object_shape end_fields) (shown, tt)) c.put_part-all.ensures.value c.in_ok-value-in-Empty.ensures.read))
