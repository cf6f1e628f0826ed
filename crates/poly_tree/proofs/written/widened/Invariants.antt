use Rattle.std.proofs.Common.{◌≡◌, ◌-◌, ◌++◌, length, replicate}
use Rattle.poly_tree.proofs.written.widened.Given as goal

abbrev pub invariant-loop : goal.invariant-loop
invariant-loop l = l.all.items ++ replicate (l.width - l.counter) 0 ≡ l.exponents ++ replicate (l.width - length l.exponents) 0
