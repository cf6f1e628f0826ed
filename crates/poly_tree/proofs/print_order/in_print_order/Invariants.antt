use Rattle.std.proofs.Common.{◌≡◌, length}
use Rattle.poly_tree.specs.Printed.{in_print_order}
use Rattle.poly_tree.proofs.PrintedLemmas.{insert_all}
use Rattle.poly_tree.proofs.print_order.in_print_order.Given as goal

abbrev pub decreases-loop-term : goal.decreases-loop-term
decreases-loop-term l = length l.rest.items

abbrev pub invariant-loop-term : goal.invariant-loop-term
invariant-loop-term l = insert_all l.rest.items l.ordered.items ≡ in_print_order l.fn.terms.items
