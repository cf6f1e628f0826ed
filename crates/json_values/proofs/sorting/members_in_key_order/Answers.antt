-- What is in order goes in as it stands.
use Rattle.json_values.proofs.InOrder.{sorted-is}
use Rattle.json_values.proofs.sorting.members_in_key_order.Goals as goal

pub returns-then-are_sorted : goal.returns-then-are_sorted
returns-then-are_sorted c = sorted-is c.args.members.items (rw (← c.as_slice.ensures.value) (c.are_sorted.ensures c.if-are_sorted.true))
