use Rattle.std.proofs.Common.{◌≡◌, ◌++◌, ◌≤◌, drop, map}
use Rattle.std.specs.List.{AllByRecursion}
use Rattle.iolb_model.specs.Polynomial.{Term}
use Rattle.poly_tree.specs.Printed.{widened_term}
use Rattle.poly_tree.specs.Terms.{terms_of}
use Rattle.poly_tree.proofs.written.widened_terms.Given as goal

abbrev pub invariant-loop-term : goal.invariant-loop-term
invariant-loop-term l =
    (terms_of l.all.items ++ map (widened_term l.width) (drop l.term-index l.terms) ≡ map (widened_term l.width) l.terms)
    × AllByRecursion (λ (term : Term). AllByRecursion (λ e. e ≤ 8) term.exponents) (drop l.term-index l.terms)
