use Rattle.std.proofs.Common.{◌≡◌, ◌∷◌, ◌++◌, map, drop}
use Rattle.serde_json.specs.View.{view}
use Rattle.json_parts.specs.Written.{natural, whole}
use Rattle.certificate_parts.proofs.polynomials.write_term.Given as goal

abbrev pub invariant-loop-exponent : goal.invariant-loop-exponent
invariant-loop-exponent l = map view l.items.items ++ map natural (drop l.exponent-index l.exponents) ≡ whole l.fn.coefficient ∷ map natural l.exponents
