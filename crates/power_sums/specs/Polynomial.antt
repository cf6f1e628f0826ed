-- Polynomials with integer coefficients at the integers. A polynomial is the list of its coefficients, that of n^0 first.
use Rattle.std.specs.Prelude.{ℕ, ℤ, pos, ◌+ℤ◌, ◌*ℤ◌, List, [], ◌∷◌, slice_index_or}

-- the value at n, by Horner's rule
abbrev pub value : List ℤ → ℤ → ℤ
value [] n = pos 0
value (c ∷ cs) n = c +ℤ (n *ℤ value cs n)

-- the coefficient of n^e
abbrev pub coefficient : List ℤ → ℕ → ℤ
coefficient cs e = slice_index_or cs e (pos 0)
