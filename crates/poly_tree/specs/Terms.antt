-- Polynomials by their terms.
use Rattle.std.specs.Prelude.{◌≡◌, ◌≢◌, ℕ, ◌+◌, ◌*◌, ◌≤◌, max, ℤ, pos, ◌*ℤ◌, unsigned_abs, List, [], ◌∷◌, map, length, Vec}
use Rattle.std.specs.Global.{Global}
use Rattle.std.specs.List.{AllByRecursion}
use Rattle.iolb_model.specs.Polynomial.{Term, terms_value}
use Rattle.affine_form.specs.Form.{IsSmall}
use Rattle.poly_tree.specs.Expansion.{Expansion, IsCanonical, DegreesAtMost, at, value, weight, coefficients}
use Rattle.poly_tree.specs.Poly.{Quotient, numerator_at, size}
use Rattle.iolb_model.specs.declared.limits.TheConstants.{EXPONENT, VARIABLES}

-- a coefficient and the exponents of the variables
abbrev pub term_of : ℤ × Vec ℕ Global → Term
term_of pair = record { coefficient = pair.0; exponents = pair.1.items }

abbrev pub terms_of : List (ℤ × Vec ℕ Global) → List Term
terms_of pairs = map term_of pairs

-- the sum of the sizes of the coefficients
abbrev pub terms_weight : List Term → ℕ
terms_weight [] = 0
terms_weight (term ∷ terms) = unsigned_abs term.coefficient + terms_weight terms

-- exponents for at most 24 variables, each at most 8
abbrev pub HasExponents : Term → Type 0
HasExponents term = (length term.exponents ≤ VARIABLES) × AllByRecursion (λ e. e ≤ EXPONENT) term.exponents

-- all exponent lists are as long as each other, and no two are equal
abbrev pub AreApart : List Term → Type 0
AreApart [] = Unit {0}
AreApart (term ∷ terms) =
    AllByRecursion (λ (later : Term). (length later.exponents ≡ length term.exponents) × (later.exponents ≢ term.exponents)) terms × AreApart terms

-- the size of terms over a denominator, before common factors are taken out
abbrev pub terms_size : List Term → ℕ → ℕ
terms_size terms denominator = max 1 (terms_weight terms) * denominator

-- r is the sum of the terms over the denominator
abbrev pub IsTermsOver : List Term → ℕ → Quotient → Type 0
IsTermsOver terms denominator r = (point : List ℤ)
    → (numerator_at r point *ℤ pos denominator) ≡ (terms_value terms point *ℤ pos r.denominator)

-- t is the sum of terms, no heavier than they are, canonical, and of degrees at most 8
pub record IsTermsSum (terms : List Term) (bound : ℕ) (t : Expansion) : Type 0 where
  pub sum : (point : List ℤ) → value t (at point) ≡ terms_value terms point
  pub light : weight t ≤ terms_weight terms
  pub canonical : IsCanonical bound t
  pub degrees : DegreesAtMost 8 t

-- What terms over a denominator become: numbers no greater than theirs, over at most 24 variables.
pub record IsNoGreater (terms : List Term) (denominator : ℕ) (r : Quotient) : Type 0 where
  pub numbers : (limit : ℕ) → 1 ≤ limit → AllByRecursion (λ (term : Term). IsSmall limit term.coefficient) terms
      → AllByRecursion (IsSmall limit) (coefficients r.tree)
  pub over : r.denominator ≤ denominator
  pub light : size r ≤ terms_size terms denominator
  pub variables : IsCanonical 24 r.tree
