-- The value of a polynomial that counts points.
use Rattle.std.proofs.Common.{◌≡◌, ◌∙◌, ap, ℕ, ◌≤◌, List}
use Rattle.std.proofs.Math.IntN.{ℤ, pos, ◌*ℤ◌}
use Rattle.std.proofs.Math.Nat.{mul-div_cancel}
use Rattle.std.specs.Prelude.{int_div}
use Rattle.iolb_model.specs.Form.{AffineForm}
use Rattle.iolb_model.specs.Program.{AffineProgram}
use Rattle.iolb_model.specs.Polynomial.{numerator}
use Rattle.iolb_model.specs.Bound.{IsAdmitted, count_value}
use Rattle.iolb_model.specs.Execution.{natural}
use Rattle.poly_tree.specs.Poly.{Quotient, IsLegal, numerator_at}
use Rattle.poly_tree.specs.Printed.{polynomial_of, TermsHaveTheValue}
use Rattle.domain_count.specs.Count.{CountsPoints}
use Rattle.domain_count.specs.Points.{count}

-- a whole number times a denominator, over the denominator
pub whole : (z : ℤ) (n d : ℕ) → 1 ≤ d → z ≡ pos n *ℤ pos d → natural (int_div z (pos d)) ≡ n
whole z n d some e = ap (λ (y : ℤ). natural (int_div y (pos d))) e ∙ mul-div_cancel n some

-- a legal polynomial with a whole numerator has the value of the whole number
pub counted-value : (q : Quotient) (values : List ℤ) (n : ℕ) → IsLegal q → TermsHaveTheValue → numerator_at q values ≡ pos n *ℤ pos q.denominator → count_value (polynomial_of q) values ≡ n
counted-value q values n legal value e = whole (numerator (polynomial_of q) values) n q.denominator legal.positive (value q legal values ∙ e)

-- the value of a polynomial that counts a nest's points
pub counted : (program : AffineProgram) (nest : List (AffineForm × AffineForm)) (q : Quotient) (values : List ℤ) → IsLegal q → CountsPoints program nest q → TermsHaveTheValue → IsAdmitted program values
    → count_value (polynomial_of q) values ≡ count nest values
counted program nest q values legal counts value admitted = counted-value q values (count nest values) legal value (counts values admitted)
