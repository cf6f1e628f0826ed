-- The members so far, and then those that are left.
use Rattle.std.proofs.Common.{◌≡◌, ◌++◌}
use Rattle.json_values.proofs.sorting.members_of_map.Given as goal

abbrev pub invariant-loop-member : goal.invariant-loop-member
invariant-loop-member l = l.members.items ++ l.member-iterator ≡ l.fn.map.entries
