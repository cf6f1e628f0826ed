use Rattle.std.proofs.Common.{◌≡◌, max, drop}
use Rattle.poly_tree.specs.Terms.{terms_of}
use Rattle.domain_count.specs.Coefficients.{degree_of}
use Rattle.domain_count.proofs.coefficients.degree_of.Given as goal

abbrev pub invariant-loop-exponents : goal.invariant-loop-exponents
invariant-loop-exponents l = max l.degree (degree_of l.var (terms_of (drop l.exponents-index l.terms))) ≡ degree_of l.var (terms_of l.fn.terms)
