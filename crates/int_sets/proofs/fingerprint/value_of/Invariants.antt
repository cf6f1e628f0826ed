use Rattle.std.proofs.Common.{◌≡◌, ◌≤◌, ◌*◌, ◌+◌, ◌^◌, ◌+ℤ◌, drop}
use Rattle.std.specs.Prelude.{unsigned_abs}
use Rattle.iolb_model.specs.Form.{dot}
use Rattle.int_sets.specs.Fingerprint.{value_at_point}
use Rattle.int_sets.specs.declared.fingerprint.TheConstants.{POINT}
use Rattle.int_sets.proofs.fingerprint.value_of.Given as goal

abbrev pub invariant-loop-i : goal.invariant-loop-i
invariant-loop-i l = record {
  so_far : (l.sum +ℤ dot (drop l.i l.coefficient-items) (drop l.i POINT)) ≡ value_at_point l.form;
  small : unsigned_abs l.sum ≤ 0 + l.i * (2 ^ 62 * 2 ^ 40);
}
