use Rattle.std.proofs.Common.{◌≡◌, ◌++◌, ◌-◌, length, replicate}
use Rattle.poly_tree.proofs.flatten.exponents_with.Given as goal

abbrev pub invariant-loop : goal.invariant-loop
invariant-loop l = l.all.items ++ replicate (l.var - l.counter) 0 ≡ l.initial.all.items ++ replicate (l.var - length l.initial.all.items) 0
