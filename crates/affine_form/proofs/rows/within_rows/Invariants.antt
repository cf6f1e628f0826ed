use Rattle.std.proofs.Common.{◌≡◌, ◌+◌, ◌++◌, length, drop}
use Rattle.std.specs.List.{AllByRecursion}
use Rattle.affine_form.specs.Rows.{within_rows, IsSmallOver, BoundsFit}
use Rattle.affine_form.proofs.rows.within_rows.Given as goal

abbrev pub invariant-loop-i : goal.invariant-loop-i
invariant-loop-i l = record {
  so_far : l.rows.items ++ within_rows l.vars (drop l.i l.bounds) l.before.items (drop l.i l.values) ≡ within_rows l.vars l.bounds l.params l.values;
  over : AllByRecursion (IsSmallOver l.vars) l.before.items;
  count : length l.before.items ≡ length l.params + l.i;
  fit : BoundsFit (length l.before.items) (drop l.i l.bounds);
}
