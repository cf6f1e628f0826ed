use Rattle.std.proofs.Common.{◌≡◌}
use Rattle.std.specs.List.{AllByRecursion}
use Rattle.poly_tree.specs.Terms.{terms_of, HasExponents, AreApart}
use Rattle.json_values.specs.View.{json_data}
use Rattle.certificate_parts.specs.Polynomials.{HasLists, exponent_lists, reads_terms}
use Rattle.certificate_parts.proofs.TermLoop.{left}
use Rattle.certificate_parts.proofs.polynomials.terms.Given as goal

abbrev pub invariant-loop-i : goal.invariant-loop-i
invariant-loop-i l = record {
  read : left (terms_of l.terms.items) l.values l.i ≡ reads_terms (json_data l.value);
  fit : AllByRecursion HasExponents (terms_of l.terms.items);
  apart : AreApart (terms_of l.terms.items);
  lists : HasLists l.lists (exponent_lists (terms_of l.terms.items));
}
