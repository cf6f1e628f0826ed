use Rattle.std.proofs.Common.{◌≡◌, ◌++◌, map}
use Rattle.poly_tree.specs.Printed.{with_power}
use Rattle.poly_tree.proofs.flatten.append_with_power.Given as goal

abbrev pub invariant-loop-term : goal.invariant-loop-term
invariant-loop-term l = l.terms.items ++ map (with_power l.var l.power) l.term-iterator.rest.items
    ≡ l.initial.terms.items ++ map (with_power l.var l.power) l.initial.term-iterator.rest.items
