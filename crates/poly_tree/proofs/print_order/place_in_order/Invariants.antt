use Rattle.std.proofs.Common.{◌≡◌, ◌++◌, take, drop}
use Rattle.poly_tree.specs.Printed.{insert_term}
use Rattle.poly_tree.proofs.print_order.place_in_order.Given as goal

abbrev pub invariant-loop-place : goal.invariant-loop-place
invariant-loop-place l = take l.place l.terms ++ insert_term l.term (drop l.place l.terms) ≡ insert_term l.term l.terms
