-- The coefficient of a variable's power in a polynomial, by terms.
use Rattle.std.specs.Prelude.{ℕ, suc, ◌==◌, max, ℤ, List, [], ◌∷◌, ◌++◌, map, filter, replicate, slice_index_or, slice_set}
use Rattle.iolb_model.specs.Polynomial.{Term}

-- a term's exponent of a variable, 0 past the end
abbrev pub exponent_of : ℕ → Term → ℕ
exponent_of v term = slice_index_or term.exponents v 0

-- the term without a variable
abbrev pub without : ℕ → Term → Term
without v term = record { coefficient = term.coefficient; exponents = slice_set term.exponents v 0 }

-- the terms with a power of a variable, without it
abbrev pub coefficient_terms : ℕ → ℕ → List Term → List Term
coefficient_terms v e terms = map (without v) (filter (λ term. exponent_of v term == e) terms)

-- the greatest power of a variable
abbrev pub degree_of : ℕ → List Term → ℕ
degree_of v [] = 0
degree_of v (term ∷ terms) = max (exponent_of v term) (degree_of v terms)

-- coefficients of a variable's powers as terms, from a power on
abbrev pub power_terms : ℕ → ℕ → List ℤ → List Term
power_terms v e [] = []
power_terms v e (c ∷ cs) = record { coefficient = c; exponents = replicate v 0 ++ e ∷ [] } ∷ power_terms v (suc e) cs
