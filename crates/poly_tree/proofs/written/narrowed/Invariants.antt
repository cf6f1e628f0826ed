use Rattle.std.proofs.Common.{◌≡◌, ◌++◌, ◌≤◌, drop}
use Rattle.std.specs.List.{AllByRecursion}
use Rattle.poly_tree.proofs.written.narrowed.Given as goal

abbrev pub invariant-loop-exponent : goal.invariant-loop-exponent
invariant-loop-exponent l = (l.all.items ++ drop l.exponent-index l.exponents ≡ l.exponents) × AllByRecursion (λ e. e ≤ 8) (drop l.exponent-index l.exponents)
