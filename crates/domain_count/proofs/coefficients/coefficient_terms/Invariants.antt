use Rattle.std.proofs.Common.{◌≡◌, take}
use Rattle.poly_tree.specs.Terms.{terms_of}
use Rattle.domain_count.specs.Coefficients.{coefficient_terms}
use Rattle.domain_count.proofs.coefficients.coefficient_terms.Given as goal

abbrev pub invariant-loop-coefficient : goal.invariant-loop-coefficient
invariant-loop-coefficient l = terms_of l.found.items ≡ coefficient_terms l.var l.power (terms_of (take l.coefficient-index l.terms))
