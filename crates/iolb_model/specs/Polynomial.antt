-- Polynomials with whole-number coefficients over a common denominator.
use Rattle.std.specs.Prelude.{ℕ, zero, suc, ℤ, pos, ◌+ℤ◌, ◌*ℤ◌, List, [], ◌∷◌}

-- a coefficient, and an exponent for each variable; variables past the end have exponent 0
pub record Term : Type 0 where
  pub coefficient : ℤ
  pub exponents : List ℕ

-- the sum of the terms, over the denominator, which is at least 1
pub record Polynomial : Type 0 where
  pub terms : List Term
  pub denominator : ℕ

-- a power; the power 0 is 1
abbrev pub int_power : ℤ → ℕ → ℤ
int_power x zero = pos 1
int_power x (suc n) = x *ℤ int_power x n

-- the product of the variables' powers at a point
abbrev pub monomial : List ℕ → List ℤ → ℤ
monomial [] point = pos 1
monomial (e ∷ es) [] = pos 1
monomial (e ∷ es) (x ∷ xs) = int_power x e *ℤ monomial es xs

-- the sum of the terms at a point
abbrev pub terms_value : List Term → List ℤ → ℤ
terms_value [] point = pos 0
terms_value (term ∷ terms) point = (term.coefficient *ℤ monomial term.exponents point) +ℤ terms_value terms point

-- the denominator times the polynomial's value at a point
abbrev pub numerator : Polynomial → List ℤ → ℤ
numerator polynomial point = terms_value polynomial.terms point
