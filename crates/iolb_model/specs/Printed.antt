-- What is printed of forms, polynomials and bounds.
use Rattle.std.specs.Prelude.{ℕ, ◌+◌, ◌==◌, if◌then◌else◌, Bool, true, false, ℤ, pos, negsuc, unsigned_abs, List, [], ◌∷◌, ◌++◌, map, zip, length, flat_map, filter, not, codes, decimal}
use Rattle.std.specs.List.{join_by}
use Rattle.std.specs.Ordering.{int_eq}
use Rattle.iolb_model.specs.Form.{AffineForm}
use Rattle.iolb_model.specs.Polynomial.{Term, Polynomial}
use Rattle.iolb_model.specs.Bound.{Bound, BoundTerm, cold, wavefront, partition, joint, StretchNumbers}

-- whether a number is below 0
abbrev pub is_below_zero : ℤ → Bool
is_below_zero (pos n) = false
is_below_zero (negsuc n) = true

-- a term without its sign: its coefficient's size, then the product of its variables; a size of 1 is left out
-- unless there is no variable
abbrev pub size_text : ℤ → List ℕ → List ℕ
size_text coefficient [] = decimal (unsigned_abs coefficient)
size_text coefficient (b ∷ bytes) =
    if unsigned_abs coefficient == 1 then b ∷ bytes else decimal (unsigned_abs coefficient) ++ codes "*" ++ (b ∷ bytes)

-- the terms after the first, each with its sign between spaces
abbrev pub later_terms_text : List (ℤ × List ℕ) → List ℕ
later_terms_text [] = []
later_terms_text (term ∷ terms) =
    (if is_below_zero term.0 then codes " - " else codes " + ") ++ size_text term.0 term.1 ++ later_terms_text terms

-- a sum of terms, each a coefficient and the text of its product of variables; the empty sum is 0
abbrev pub terms_text : List (ℤ × List ℕ) → List ℕ
terms_text [] = codes "0"
terms_text (term ∷ terms) =
    (if is_below_zero term.0 then codes "-" else []) ++ size_text term.0 term.1 ++ later_terms_text terms

-- the terms whose coefficient isn't 0
abbrev pub nonzero : List (ℤ × List ℕ) → List (ℤ × List ℕ)
nonzero terms = filter (λ term. not (int_eq term.0 (pos 0))) terms

-- a form: its variables in order, by their names, then its constant
abbrev pub form_text : List (List ℕ) → AffineForm → List ℕ
form_text names form = terms_text (nonzero (zip form.coefficients names ++ (form.constant, []) ∷ []))

-- a variable's power; the power 1 is the name alone
abbrev pub power_text : List ℕ × ℕ → List ℕ
power_text power = if power.1 == 1 then power.0 else power.0 ++ codes "^" ++ decimal power.1

-- a product of variables' powers, joined by `*`, without those of power 0
abbrev pub product_text : List (List ℕ) → List ℕ → List ℕ
product_text names exponents =
    join_by power_text (codes "*") (filter (λ power. not (power.1 == 0)) (zip names exponents))

-- A polynomial's terms as they stand, and its denominator if that is above 1. A polynomial that is to be printed
-- has its terms by falling total degree, ties by falling exponent of the first variable, then the second, and so on.
abbrev pub polynomial_text : List (List ℕ) → Polynomial → List ℕ
polynomial_text names polynomial =
    let sum = terms_text (map (λ (term : Term). (term.coefficient, product_text names term.exponents)) polynomial.terms)
    in if polynomial.denominator == 1 then sum else codes "(" ++ sum ++ codes ")/" ++ decimal polynomial.denominator

-- the numbers of stretches
abbrev pub stretch_text : StretchNumbers → List ℕ
stretch_text numbers =
    codes " T " ++ decimal numbers.a ++ codes "*S + " ++ decimal numbers.b ++ codes " U^" ++ decimal numbers.q ++ codes "*" ++ decimal numbers.den
    ++ codes " <= " ++ decimal numbers.num ++ codes "*(S + T)^" ++ decimal numbers.m

-- the counts and the numbers of a term over stretches
abbrev pub counted_text : List (List ℕ) → Polynomial → Polynomial → StretchNumbers → List ℕ
counted_text names count credits numbers =
    codes " count " ++ polynomial_text names count ++ codes " credits " ++ polynomial_text names credits ++ stretch_text numbers ++ codes "\n"

-- a term of a bound, on a line
abbrev pub bound_term_text : List (List ℕ) → BoundTerm → List ℕ
bound_term_text names (cold count) = codes "  cold " ++ polynomial_text names count ++ codes "\n"
bound_term_text names (wavefront pairs outer) =
    codes "  wavefront " ++ polynomial_text names pairs ++ codes " - S*(" ++ polynomial_text names outer ++ codes ")\n"
bound_term_text names (partition count credits numbers) = codes "  partition" ++ counted_text names count credits numbers
bound_term_text names (joint count credits numbers) = codes "  joint" ++ counted_text names count credits numbers

-- the branches from this number on: a line with the number, then the terms
abbrev pub branches_text : List (List ℕ) → ℕ → List (List BoundTerm) → List ℕ
branches_text names number [] = []
branches_text names number (terms ∷ branches) =
    codes "branch " ++ decimal number ++ codes "\n" ++ flat_map (bound_term_text names) terms ++ branches_text names (number + 1) branches

-- an assumption, on a line
abbrev pub assumption_text : List (List ℕ) → AffineForm → List ℕ
assumption_text names row = codes "assume " ++ form_text names row ++ codes " >= 0\n"

-- a bound: its assumptions, its branches, and how many branches there are
abbrev pub bound_text : List (List ℕ) → Bound → List ℕ
bound_text names bound =
    flat_map (assumption_text names) bound.assumptions ++ branches_text names 0 bound.branches
    ++ codes "branches " ++ decimal (length bound.branches) ++ codes "\n"
