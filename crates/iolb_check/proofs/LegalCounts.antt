-- The polynomials of counts are in lowest terms.
use Rattle.std.proofs.Common.{sym, subst, ℕ, List, [], ◌∷◌, arith}
use Rattle.std.proofs.Math.IntN.{ℤ}
use Rattle.std.proofs.Math.Nat.{one-dvd}
use Rattle.std.proofs.lemmas.Nat.Gcd.{dvd_antisymm}
use Rattle.iolb_model.specs.Form.{AffineForm}
use Rattle.poly_tree.specs.Expansion.{number}
use Rattle.poly_tree.specs.Poly.{IsLegal, Quotient}
use Rattle.domain_count.specs.Count.{IsSumFrom}

pub constant-legal : (n : ℤ) → IsLegal (record { tree = number n; denominator = 1 })
constant-legal n = record { canonical = tt; degrees = tt; positive = omega arith; primitive = λ k divides all. dvd_antisymm divides (one-dvd k) }

pub count-legal : (var : ℕ) (nest : List (AffineForm × AffineForm)) (sums : List Quotient) (total : Quotient) → IsSumFrom var nest sums total → IsLegal total
count-legal var [] sums total is = subst IsLegal (sym is) (constant-legal _)
count-legal var (bounds ∷ nest) [] total is = absurd is
count-legal var (bounds ∷ nest) (sum ∷ sums) total is = is.1.1.between.less.legal
