-- Points with one value more, and points with another last value.
use Rattle.std.proofs.Common.{Bool, true, false, ◌≡◌, ◌≢◌, refl, sym, ◌∙◌, ap, ℕ, zero, suc, List, [], ◌∷◌, ◌++◌, length, get_or}
use Rattle.std.proofs.Math.IntN.{ℤ, pos}
use Rattle.std.specs.Prelude.{◌==◌, if◌then◌else◌}
use Rattle.std.proofs.lemmas.Bool.{eqb-true, eq-eqb}
use Rattle.std.proofs.lemmas.List.{get_or_at}
use Rattle.poly_tree.specs.Expansion.{at, put}

put-is : (p q : ℕ → ℤ) (v : ℕ) (y : ℤ) → q v ≡ y → ((w : ℕ) → w ≢ v → p w ≡ q w) → (w : ℕ) → put p v y w ≡ q w
unfolding put
put-is p q v y here there w = by (w == v) refl where
  by : (b : Bool) → b ≡ (w == v) → (if b then y else p w) ≡ q w
  by true e = sym (ap q (eqb-true w v (sym e)) ∙ here)
  by false e = there w (λ same. let h : (w == v) ≡ true = eq-eqb w v same in absurd cc)

other-last : (before : List ℤ) (x y : ℤ) (w : ℕ) → w ≢ length before → get_or (before ++ x ∷ []) w (pos 1) ≡ get_or (before ++ y ∷ []) w (pos 1)
other-last [] x y zero h = absurd (h refl)
other-last [] x y (suc w) h = refl
other-last (b ∷ before) x y zero h = refl
other-last (b ∷ before) x y (suc w) h = other-last before x y w (λ e. h (ap suc e))

no-last : (before : List ℤ) (y : ℤ) (w : ℕ) → w ≢ length before → get_or before w (pos 1) ≡ get_or (before ++ y ∷ []) w (pos 1)
no-last [] y zero h = absurd (h refl)
no-last [] y (suc w) h = refl
no-last (b ∷ before) y zero h = refl
no-last (b ∷ before) y (suc w) h = no-last before y w (λ e. h (ap suc e))

-- a value put in behind a point's values
pub put-behind : (before : List ℤ) (y : ℤ) → put (at before) (length before) y ≡ at (before ++ y ∷ [])
put-behind before y = λ i w. put-is (at before) (at (before ++ y ∷ [])) (length before) y (get_or_at before y [] (pos 1) (length before) refl) (λ u h. no-last before y u h) w i

-- a value put in for the last
pub put-last : (before : List ℤ) (x y : ℤ) → put (at (before ++ x ∷ [])) (length before) y ≡ at (before ++ y ∷ [])
put-last before x y = λ i w. put-is (at (before ++ x ∷ [])) (at (before ++ y ∷ [])) (length before) y (get_or_at before y [] (pos 1) (length before) refl) (λ u h. other-last before x y u h) w i

pub at-last : (before : List ℤ) (x : ℤ) → at (before ++ x ∷ []) (length before) ≡ x
at-last before x = get_or_at before x [] (pos 1) (length before) refl
