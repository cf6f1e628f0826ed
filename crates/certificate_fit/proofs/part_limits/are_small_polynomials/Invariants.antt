use Rattle.std.proofs.Common.{drop}
use Rattle.std.specs.Prelude.{◌↔◌}
use Rattle.std.specs.List.{AllByRecursion}
use Rattle.certificate_fit.specs.Limits.{IsSmallPolynomial}
use Rattle.certificate_fit.proofs.part_limits.are_small_polynomials.Given as goal

abbrev pub invariant-loop-poly : goal.invariant-loop-poly
invariant-loop-poly l = AllByRecursion IsSmallPolynomial (drop l.poly-index l.polys) ↔ AllByRecursion IsSmallPolynomial l.polys
