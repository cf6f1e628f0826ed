use Rattle.std.proofs.Common.{drop}
use Rattle.std.specs.Prelude.{◌↔◌}
use Rattle.std.specs.List.{AllByRecursion}
use Rattle.iolb_check.specs.Limits.{IsSmallTerm}
use Rattle.iolb_check.proofs.term_limits.are_small_terms.Given as goal

abbrev pub invariant-loop-term : goal.invariant-loop-term
invariant-loop-term l = AllByRecursion IsSmallTerm (drop l.term-index l.terms) ↔ AllByRecursion IsSmallTerm l.terms
