use Rattle.std.proofs.Common.{◌≡◌, sum, drop, ◌+◌, ◌*◌, ◌^◌, ◌≤◌}
use Rattle.poly_tree.proofs.print_order.total_degree.Given as goal

abbrev pub invariant-loop-exponent : goal.invariant-loop-exponent
invariant-loop-exponent l = (l.degree + sum (drop l.exponent-index l.exponents) ≡ sum l.exponents) × (l.degree ≤ l.exponent-index * 2 ^ 64)
