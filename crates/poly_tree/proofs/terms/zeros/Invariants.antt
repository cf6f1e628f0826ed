use Rattle.std.proofs.Common.{◌≡◌, replicate}
use Rattle.poly_tree.specs.Expansion.{zero_expansion}
use Rattle.poly_tree.specs.Tree.{expansions}
use Rattle.poly_tree.proofs.terms.zeros.Given as goal

abbrev pub invariant-loop : goal.invariant-loop
invariant-loop l = expansions l.zeros.items ≡ replicate l.counter zero_expansion
