-- What a written polynomial says is one.
use Rattle.std.proofs.Common.{◌≡◌, ℕ, ◌≤◌, arith}
use Rattle.iolb_model.specs.Polynomial.{Polynomial, terms_value}
use Rattle.poly_tree.specs.Poly.{Quotient, SameValues, numerator_at}
use Rattle.poly_tree.proofs.SameLemmas.{same-polynomial}
use Rattle.domain_count.proofs.Determined.{crossed}
use Rattle.certificate_parts.specs.Polynomials.{IsPolynomial}

pub one-polynomial : (polynomial : Polynomial) (q r : Quotient) → IsPolynomial polynomial q → IsPolynomial polynomial r → q ≡ r
one-polynomial polynomial q r h g = same-polynomial q r h.legal g.legal values where
  some : (m n : ℕ) → 1 ≤ m → m ≤ n → 1 ≤ n
  some m n x y = omega arith

  values : SameValues q r
  values point =
      crossed polynomial.denominator q.denominator r.denominator (numerator_at q point) (numerator_at r point) (terms_value polynomial.terms point)
      (some q.denominator polynomial.denominator h.legal.positive h.within.over) (h.value point) (g.value point)
