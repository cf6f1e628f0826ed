use Rattle.domain_count.specs.Summing.{AreAdded}
use Rattle.poly_tree.specs.Printed.{written_terms}
use Rattle.domain_count.proofs.nest_summation.powers_sum.Given as goal

abbrev pub invariant-loop-power : goal.invariant-loop-power
invariant-loop-power l = AreAdded l.var (written_terms l.summand) l.summand.denominator l.power l.sum
