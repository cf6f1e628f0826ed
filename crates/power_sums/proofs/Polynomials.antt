-- Operations on lists of coefficients, and the values that they give.
use Rattle.std.specs.Prelude.{◌≡◌, ℕ, ℤ, pos, ◌+ℤ◌, ◌-ℤ◌, ◌*ℤ◌, neg_ℤ, Bool, true, List, [], ◌∷◌}
use Rattle.std.proofs.Common.{arith, ap, sym, refl, ◌∙◌, zero, suc}
use Rattle.std.specs.List.{list_all}
use Rattle.std.specs.Ordering.{int_eq}
use Rattle.std.proofs.lemmas.Bool.{and_parts}
use Rattle.std.proofs.lemmas.Bool.Decides.{Decides-int_eq}
use Rattle.std.proofs.lemmas.Int.{ints}
use Rattle.base_laws.proofs.Ring.{mul-sub, sub-mul, mul-swap}
use Rattle.iolb_model.specs.Polynomial.{int_power}
use Rattle.power_sums.specs.Polynomial.{value, coefficient}

abbrev pub difference : List ℤ → List ℤ → List ℤ
difference [] [] = []
difference [] (y ∷ ys) = neg_ℤ y ∷ difference [] ys
difference (x ∷ xs) [] = x ∷ xs
difference (x ∷ xs) (y ∷ ys) = (x -ℤ y) ∷ difference xs ys

-- the polynomial at n - 1
abbrev pub shift : List ℤ → List ℤ
shift [] = []
shift (c ∷ cs) = difference (c ∷ shift cs) (shift cs)

-- c n^d
abbrev pub monomial : ℕ → ℤ → List ℤ
monomial zero c = c ∷ []
monomial (suc d) c = pos 0 ∷ monomial d c

abbrev pub all_zero : List ℤ → Bool
all_zero cs = list_all (λ c. int_eq c (pos 0)) cs

difference_step : (x y n u v w : ℤ) → w ≡ u -ℤ v → (x -ℤ y) +ℤ (n *ℤ w) ≡ (x +ℤ (n *ℤ u)) -ℤ (y +ℤ (n *ℤ v))
difference_step x y n u v w is =
    ap (λ z. (x -ℤ y) +ℤ z) (ap (λ z. n *ℤ z) is ∙ mul-sub n u v) ∙ sorted x y (n *ℤ u) (n *ℤ v)
  where
    sorted : (x y p q : ℤ) → (x -ℤ y) +ℤ (p -ℤ q) ≡ (x +ℤ p) -ℤ (y +ℤ q)
    sorted x y p q = omega (arith, ints)

from_zero : (y n v w : ℤ) → w ≡ pos 0 -ℤ v → neg_ℤ y +ℤ (n *ℤ w) ≡ pos 0 -ℤ (y +ℤ (n *ℤ v))
from_zero y n v w is = ap (λ z. neg_ℤ y +ℤ z) (ap (λ z. n *ℤ z) is ∙ mul-sub n (pos 0) v) ∙ sorted y (n *ℤ v) (n *ℤ pos 0) (none n)
  where
    none : (n : ℤ) → n *ℤ pos 0 ≡ pos 0
    none n = omega (arith, ints)

    sorted : (y q r : ℤ) → r ≡ pos 0 → neg_ℤ y +ℤ (r -ℤ q) ≡ pos 0 -ℤ (y +ℤ q)
    sorted y q r is = omega (arith, ints)

minus_none : (a : ℤ) → a ≡ a -ℤ pos 0
minus_none a = omega (arith, ints)

pub value-difference : (xs ys : List ℤ) (n : ℤ) → value (difference xs ys) n ≡ value xs n -ℤ value ys n
value-difference [] [] n = refl
value-difference [] (y ∷ ys) n = from_zero y n (value ys n) (value (difference [] ys) n) (value-difference [] ys n)
value-difference (x ∷ xs) [] n = minus_none (value (x ∷ xs) n)
value-difference (x ∷ xs) (y ∷ ys) n = difference_step x y n (value xs n) (value ys n) (value (difference xs ys) n) (value-difference xs ys n)

shift_step : (c n t : ℤ) → (c +ℤ (n *ℤ t)) -ℤ t ≡ c +ℤ ((n -ℤ pos 1) *ℤ t)
shift_step c n t = sorted c (n *ℤ t) t (pos 1 *ℤ t) (once t) ∙ ap (λ z. c +ℤ z) (sym (sub-mul n (pos 1) t))
  where
    once : (t : ℤ) → pos 1 *ℤ t ≡ t
    once t = omega (arith, ints)

    sorted : (c p t s : ℤ) → s ≡ t → (c +ℤ p) -ℤ t ≡ c +ℤ (p -ℤ s)
    sorted c p t s is = omega (arith, ints)

pub value-shift : (cs : List ℤ) (n : ℤ) → value (shift cs) n ≡ value cs (n -ℤ pos 1)
value-shift [] n = refl
value-shift (c ∷ cs) n =
    value-difference (c ∷ shift cs) (shift cs) n
    ∙ shift_step c n (value (shift cs) n)
    ∙ ap (λ t. c +ℤ ((n -ℤ pos 1) *ℤ t)) (value-shift cs n)

pub value-monomial : (d : ℕ) (c n : ℤ) → value (monomial d c) n ≡ c *ℤ int_power n d
value-monomial zero c n = omega (arith, ints)
value-monomial (suc d) c n =
    ap (λ t. pos 0 +ℤ (n *ℤ t)) (value-monomial d c n) ∙ plain (n *ℤ (c *ℤ int_power n d)) ∙ mul-swap n c (int_power n d)
  where
    plain : (a : ℤ) → pos 0 +ℤ a ≡ a
    plain a = omega (arith, ints)

zero_step : (c n v : ℤ) → c ≡ pos 0 → v ≡ pos 0 → c +ℤ (n *ℤ v) ≡ pos 0
zero_step c n v is none = ap (λ z. z +ℤ (n *ℤ v)) is ∙ ap (λ z. pos 0 +ℤ (n *ℤ z)) none ∙ nothing n
  where
    nothing : (n : ℤ) → pos 0 +ℤ (n *ℤ pos 0) ≡ pos 0
    nothing n = omega (arith, ints)

pub value-all_zero : (cs : List ℤ) (n : ℤ) → all_zero cs ≡ true → value cs n ≡ pos 0
value-all_zero [] n h = refl
value-all_zero (c ∷ cs) n h =
    let parts : (int_eq c (pos 0) ≡ true) × (all_zero cs ≡ true) = and_parts (int_eq c (pos 0)) (all_zero cs) h in
    zero_step c n (value cs n) ((Decides-int_eq c (pos 0)).0 parts.0) (value-all_zero cs n parts.1)

pub coefficient-all_zero : (cs : List ℤ) (e : ℕ) → all_zero cs ≡ true → coefficient cs e ≡ pos 0
coefficient-all_zero [] e h = refl
coefficient-all_zero (c ∷ cs) e h =
    let parts : (int_eq c (pos 0) ≡ true) × (all_zero cs ≡ true) = and_parts (int_eq c (pos 0)) (all_zero cs) h in
    at c cs e ((Decides-int_eq c (pos 0)).0 parts.0) (λ i. coefficient-all_zero cs i parts.1)
  where
    at : (c : ℤ) (cs : List ℤ) (e : ℕ) → c ≡ pos 0 → ((i : ℕ) → coefficient cs i ≡ pos 0) → coefficient (c ∷ cs) e ≡ pos 0
    at c cs zero is rest = is
    at c cs (suc i) is rest = rest i

pub value_at_zero : (cs : List ℤ) → value cs (pos 0) ≡ coefficient cs 0
value_at_zero [] = refl
value_at_zero (c ∷ cs) = plain c (value cs (pos 0))
  where
    plain : (c v : ℤ) → c +ℤ (pos 0 *ℤ v) ≡ c
    plain c v = omega (arith, ints)
