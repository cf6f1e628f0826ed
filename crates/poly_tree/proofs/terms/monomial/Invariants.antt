use Rattle.std.proofs.Common.{take}
use Rattle.poly_tree.specs.Expansion.{IsMonomial}
use Rattle.poly_tree.specs.Tree.{expansion}
use Rattle.poly_tree.proofs.terms.monomial.Given as goal

abbrev pub invariant-loop-var : goal.invariant-loop-var
invariant-loop-var l = IsMonomial l.fn.coefficient (take l.var l.exponents) (expansion l.tree)
