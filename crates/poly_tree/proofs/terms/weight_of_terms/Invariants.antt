use Rattle.std.proofs.Common.{◌≡◌, ◌≤◌, ◌+◌, min, drop}
use Rattle.poly_tree.specs.Terms.{terms_of, terms_weight}
use Rattle.poly_tree.proofs.terms.weight_of_terms.Given as goal
use Rattle.iolb_model.specs.declared.limits.TheConstants.{MEASURE}

abbrev pub invariant-loop-coefficient : goal.invariant-loop-coefficient
invariant-loop-coefficient l =
    (l.sum ≤ MEASURE) × (min (l.sum + terms_weight (terms_of (drop l.coefficient-index l.terms))) MEASURE ≡ min (terms_weight (terms_of l.terms)) MEASURE)
