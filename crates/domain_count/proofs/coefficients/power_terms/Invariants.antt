use Rattle.std.proofs.Common.{◌≡◌, take}
use Rattle.poly_tree.specs.Terms.{terms_of}
use Rattle.domain_count.specs.Coefficients.{power_terms}
use Rattle.domain_count.proofs.coefficients.power_terms.Given as goal

abbrev pub invariant-loop-power : goal.invariant-loop-power
invariant-loop-power l = terms_of l.terms.items ≡ power_terms l.var 0 (take l.power l.numbers)
