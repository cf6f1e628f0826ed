use Rattle.std.proofs.Common.{drop}
use Rattle.std.specs.List.{AllByRecursion}
use Rattle.iolb_check.specs.Limits.{IsSmallTerm}
use Rattle.find_terms.specs.Proposed.{IsAsProposed}
use Rattle.find_terms.proofs.proposed.are_as_proposed.Given as goal

abbrev pub invariant-loop-term : goal.invariant-loop-term
invariant-loop-term l = record {
  small : AllByRecursion IsSmallTerm (drop l.term-index l.terms);
  whole : AllByRecursion IsAsProposed (drop l.term-index l.terms) → AllByRecursion IsAsProposed l.terms;
}
