-- The square of the parameter of matrix products, as a polynomial.
use Rattle.std.proofs.Common.{◌≡◌, refl, sym, ◌∙◌, ap, ℕ, zero, suc, List, [], ◌∷◌, length, get_or, replicate, arith}
use Rattle.std.proofs.Math.IntN.{ℤ, pos, ◌*ℤ◌}
use Rattle.poly_tree.specs.Expansion.{Expansion, at, none, number, over, part, size_at, value, zero_expansion}
use Rattle.poly_tree.specs.Poly.{IsLegal, Quotient, numerator_at}
use Rattle.poly_tree.proofs.SameLemmas.{same-polynomial}
use Rattle.projective.specs.Products.{IsProduct, product_of}
use Rattle.projective.proofs.Summed.{whole, whole-legal}
use Rattle.projective.proofs.Times.{product-value}
use Rattle.projective_bounds.specs.Loops.{parameters_of}

-- ---- the parameter of each loop

-- so many times the parameter
abbrev pub parameters : ℕ → List ℕ
parameters count = replicate count 0

parameter-at : (count place : ℕ) → get_or (parameters count) place 0 ≡ 0
parameter-at zero place = refl
parameter-at (suc count) zero = refl
parameter-at (suc count) (suc place) = parameter-at count place

-- those of two loops
pub two-parameters : (loops : List ℕ) (count : ℕ) → length loops ≡ 2 → parameters_of (parameters count) loops ≡ 0 ∷ 0 ∷ []
two-parameters [] count many = absurd (omega (arith, many))
two-parameters (x ∷ []) count many = absurd (omega (arith, many))
two-parameters (x ∷ y ∷ []) count many = ap (λ (n : ℕ). n ∷ get_or (parameters count) y 0 ∷ []) (parameter-at count x) ∙ ap (λ (n : ℕ). 0 ∷ n ∷ []) (parameter-at count y)
two-parameters (x ∷ y ∷ z ∷ loops) count many = absurd (omega (arith, many))

-- ---- their product

pub product-is : (total : Quotient) (ps : List ℕ) (t : Expansion) → IsLegal (whole t) → ((f : ℕ → ℤ) → value t f ≡ product_of ps f) → IsProduct ps total → total ≡ whole t
product-is total ps t legal value_of h = same-polynomial total (whole t) h.legal legal
    (λ point. over-one (numerator_at total point) (value t (at point)) total.denominator h.whole (h.value point ∙ sym (value_of (at point)))) where
      over-one : (a b : ℤ) (d : ℕ) → d ≡ 1 → a ≡ b → a *ℤ pos 1 ≡ b *ℤ pos d
      over-one a b d e same = ap (λ (z : ℤ). z *ℤ pos 1) same ∙ ap (λ (k : ℕ). b *ℤ pos k) (sym e)

abbrev pub square_tree : Expansion
square_tree = over 0 (part zero_expansion (part zero_expansion (part (number (pos 1)) none)))

square-legal : IsLegal (whole square_tree)
square-legal = whole-legal square_tree (omega arith, (tt, (tt, (tt, tt))), λ e. let same : pos 1 ≡ pos 0 = cc in absurd cc) (omega arith, (tt, (tt, (tt, tt))))

pub square-is : (total : Quotient) (ps : List ℕ) → ps ≡ 0 ∷ 0 ∷ [] → IsProduct ps total → total ≡ whole square_tree
square-is total ps are = product-is total ps square_tree square-legal (λ f. product-value (0 ∷ 0 ∷ []) f ∙ ap (λ (qs : List ℕ). product_of qs f) (sym are))

-- ---- at 64

-- the sum of the sizes of its terms
pub square-size : size_at square_tree (at (pos 64 ∷ [])) ≡ 4096
square-size = refl
