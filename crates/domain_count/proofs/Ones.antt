-- The polynomial 1.
use Rattle.std.proofs.Common.{◌≡◌, sym, ◌∙◌, ap, ℕ, [], arith}
use Rattle.std.proofs.Math.IntN.{ℤ, pos, ◌*ℤ◌}
use Rattle.std.proofs.lemmas.Nat.Gcd.{dvd_antisymm}
use Rattle.std.proofs.Math.Nat.{one-dvd}
use Rattle.poly_tree.specs.Poly.{Quotient, IsForm, IsLegal}
use Rattle.poly_tree.proofs.SameLemmas.{same-polynomial}
use Rattle.domain_count.specs.Count.{one}

one-legal : IsLegal one
one-legal = record { canonical = tt; degrees = tt; positive = omega arith; primitive = λ k divides all. dvd_antisymm divides (one-dvd k) }

-- a legal polynomial that is the form 1 is it
pub one-is : (q : Quotient) → IsForm (record { coefficients = []; constant = pos 1 }) q → IsLegal q → q ≡ one
one-is q is legal =
    same-polynomial q one legal one-legal
    (λ p. ap (λ (z : ℤ). z *ℤ pos 1) (is.same p (omega arith)) ∙ sym (ap (λ (n : ℕ). pos 1 *ℤ pos n) is.whole))
