-- A polynomial's terms in the order in which they are printed.
use Rattle.std.specs.Prelude.{◌≡◌, ◌≢◌, ℕ, zero, suc, ◌-◌, ◌≤◌, ◌==◌, max, nat_lt, if◌then◌else◌, ◌||◌, ◌&&◌, Bool, false, ℤ, pos, negsuc, ◌*ℤ◌, List, [], ◌∷◌, ◌++◌, map, replicate, length, sum}
use Rattle.iolb_model.specs.Polynomial.{Term, Polynomial, numerator, monomial, terms_value}
use Rattle.std.specs.List.{AllByRecursion}
use Rattle.iolb_model.specs.Printed.{product_text}
use Rattle.affine_form.specs.Form.{IsSmall}
use Rattle.poly_tree.specs.Expansion.{Expansion, Parts, number, over, none, part, coefficients, IsCanonical}
use Rattle.poly_tree.specs.Poly.{Quotient, IsLegal, numerator_at, size}
use Rattle.poly_tree.specs.Terms.{HasExponents, AreApart, IsNoGreater, terms_size}
use Rattle.iolb_model.specs.declared.limits.TheConstants.{VARIABLES}

-- exponents of variables below one, and then its own
abbrev pub with_exponent : ℕ → ℕ → List ℕ → List ℕ
with_exponent v zero es = es
with_exponent v (suc e) es = es ++ (replicate (v - length es) 0 ++ suc e ∷ [])

-- a term in variables below one, times a power of it
abbrev pub with_power : ℕ → ℕ → Term → Term
with_power v e term = record { coefficient = term.coefficient; exponents = with_exponent v e term.exponents }

-- a number as a term; 0 is none
abbrev pub number_terms : ℤ → List Term
number_terms (pos zero) = []
number_terms (pos (suc n)) = record { coefficient = pos (suc n); exponents = [] } ∷ []
number_terms (negsuc n) = record { coefficient = negsuc n; exponents = [] } ∷ []

-- the terms whose coefficient isn't 0, the powers of the highest variable rising
abbrev mutual
  pub expansion_terms : Expansion → List Term
  expansion_terms (number n) = number_terms n
  expansion_terms (over v ps) = parts_terms v 0 ps

  pub parts_terms : ℕ → ℕ → Parts → List Term
  parts_terms v e none = []
  parts_terms v e (part t ps) = map (with_power v e) (expansion_terms t) ++ parts_terms v (suc e) ps

-- whether the first exponent that differs is greater; exponents past the end are 0
abbrev pub is_greater : List ℕ → List ℕ → Bool
is_greater [] fs = false
is_greater (e ∷ es) [] = nat_lt 0 e || is_greater es []
is_greater (e ∷ es) (f ∷ fs) = nat_lt f e || ((e == f) && is_greater es fs)

-- whether a term is printed before another: by falling total degree, ties by the first exponent that differs
abbrev pub is_printed_before : Term → Term → Bool
is_printed_before s t =
    nat_lt (sum t.exponents) (sum s.exponents) || ((sum s.exponents == sum t.exponents) && is_greater s.exponents t.exponents)

-- a term put before the first that is printed after it
abbrev pub insert_term : Term → List Term → List Term
insert_term term [] = term ∷ []
insert_term term (t ∷ ts) = if is_printed_before term t then term ∷ (t ∷ ts) else t ∷ insert_term term ts

-- terms in the order in which they are printed
abbrev pub in_print_order : List Term → List Term
in_print_order [] = []
in_print_order (t ∷ ts) = insert_term t (in_print_order ts)

-- a term as it is printed: its coefficient, and the product of its variables by their names
abbrev pub named_term : List (List ℕ) → Term → ℤ × List ℕ
named_term names term = (term.coefficient, product_text names term.exponents)

-- no coefficient is 0
abbrev pub AreNonzero : List Term → Type 0
AreNonzero terms = AllByRecursion (λ (term : Term). term.coefficient ≢ pos 0) terms

-- the polynomial that a tree over a denominator is, by its terms in the order in which they are printed
abbrev pub polynomial_of : Quotient → Polynomial
polynomial_of q = record { terms = in_print_order (expansion_terms q.tree); denominator = q.denominator }

-- its numerator is the tree's value at every point
abbrev pub TermsHaveTheValue : Type 0
TermsHaveTheValue = (q : Quotient) → IsLegal q → (point : List ℤ) → numerator (polynomial_of q) point ≡ numerator_at q point

-- the length of the longest exponent list
abbrev pub width : List Term → ℕ
width [] = 0
width (term ∷ terms) = max (length term.exponents) (width terms)

-- a term's exponents for so many variables; those of variables past the end are 0
abbrev pub widened : ℕ → List ℕ → List ℕ
widened n exponents = exponents ++ replicate (n - length exponents) 0

abbrev pub widened_term : ℕ → Term → Term
widened_term n term = record { coefficient = term.coefficient; exponents = widened n term.exponents }

-- A polynomial's terms in the order in which they are printed, each with an exponent for each variable up to the
-- greatest that the polynomial uses.
abbrev pub written_terms : Quotient → List Term
written_terms q = map (widened_term (width (polynomial_of q).terms)) (polynomial_of q).terms

-- What is known of them, where the polynomial has at most 24 variables: they are terms of which polynomials are made,
-- none is 0, their coefficients are numbers of the tree, as its numbers are theirs or 0, and they have the polynomial's
-- size.
pub record AreWritten (q : Quotient) : Type 0 where
  pub fit : IsCanonical 24 q.tree → AllByRecursion HasExponents (written_terms q)
  pub apart : AreApart (written_terms q)
  pub nonzero : AreNonzero (written_terms q)
  pub small : (limit : ℕ) → AllByRecursion (IsSmall limit) (coefficients q.tree)
      → AllByRecursion (λ (term : Term). IsSmall limit term.coefficient) (written_terms q)
  pub within : IsCanonical 24 q.tree → IsNoGreater (written_terms q) q.denominator q
  pub light : terms_size (written_terms q) q.denominator ≡ size q
  pub value : (point : List ℤ) → terms_value (written_terms q) point ≡ numerator_at q point

-- no term is printed before one that stands earlier
abbrev pub AreInOrder : List Term → Type 0
AreInOrder [] = Unit {0}
AreInOrder (term ∷ terms) = AllByRecursion (λ later. is_printed_before later term ≡ false) terms × AreInOrder terms

-- A polynomial's terms stand in the order in which they are printed.
abbrev pub TermsAreInOrder : Type 0
TermsAreInOrder = (q : Quotient) → AreInOrder (polynomial_of q).terms
