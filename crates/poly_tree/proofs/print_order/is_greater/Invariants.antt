use Rattle.std.proofs.Common.{◌≡◌, drop}
use Rattle.poly_tree.specs.Printed.{is_greater as is_greater_list}
use Rattle.poly_tree.proofs.print_order.is_greater.Given as goal

abbrev pub invariant-loop-i : goal.invariant-loop-i
invariant-loop-i l = is_greater_list (drop l.i l.first) (drop l.i l.second) ≡ is_greater_list l.first l.second
