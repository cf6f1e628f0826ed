use Rattle.std.proofs.Common.{◌≡◌, ◌++◌, map, drop}
use Rattle.poly_tree.specs.Expansion.{parts_from}
use Rattle.poly_tree.specs.Printed.{parts_terms}
use Rattle.poly_tree.specs.Tree.{expansion}
use Rattle.poly_tree.proofs.flatten.+terms_of_tree.Given as goal

abbrev pub invariant-loop-power : goal.invariant-loop-power
invariant-loop-power l = l.terms.items ++ parts_terms l.var l.power (parts_from (map expansion (drop l.power l.part-items)))
    ≡ parts_terms l.var 0 (parts_from (map expansion l.part-items))
