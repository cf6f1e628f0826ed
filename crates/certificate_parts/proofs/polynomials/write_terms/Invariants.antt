use Rattle.std.proofs.Common.{◌≡◌, ◌++◌, map, drop}
use Rattle.std.specs.List.{AllByRecursion}
use Rattle.serde_json.specs.View.{view}
use Rattle.iolb_model.specs.Polynomial.{Term}
use Rattle.affine_form.specs.Form.{IsSmall}
use Rattle.poly_tree.specs.Terms.{terms_of}
use Rattle.certificate_parts.specs.Polynomials.{term_data}
use Rattle.certificate_parts.proofs.polynomials.write_terms.Given as goal
use Rattle.iolb_model.specs.declared.limits.TheConstants.{COEFFICIENT_SIZE}

abbrev pub invariant-loop-coefficient : goal.invariant-loop-coefficient
invariant-loop-coefficient l =
    (map view l.items.items ++ map term_data (terms_of (drop l.coefficient-index l.terms)) ≡ map term_data (terms_of l.terms))
    × AllByRecursion (λ (term : Term). IsSmall COEFFICIENT_SIZE term.coefficient) (terms_of (drop l.coefficient-index l.terms))
