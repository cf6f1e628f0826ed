-- The members so far are in order.
use Rattle.std.proofs.Common.{◌≤◌, string_cmp, take}
use Rattle.std.specs.List.Sorted.{IsStrictlySortedBy}
use Rattle.std.specs.Map.{keys_of}
use Rattle.json_values.proofs.sorting.are_sorted.Given as goal

abbrev pub invariant-loop-next : goal.invariant-loop-next
invariant-loop-next l = record {
  some : 1 ≤ l.next;
  sorted : IsStrictlySortedBy string_cmp (keys_of (take l.next l.members));
}
