-- Products of powers, printed one after another.
use Rattle.std.proofs.Common.{◌≡◌, refl, sym, ◌∙◌, ap, ℕ, zero, suc, ◌+◌, ◌<◌, ◌≤◌, min, Bool, true, false, cond, not, List, [], ◌∷◌, ◌++◌, length, drop, get_or, append_assoc, arith}
use Rattle.std.specs.Prelude.{flat_map, filter, codes, zip, ◌==◌, pos}
use Rattle.std.specs.List.{join_by}
use Rattle.std.specs.Fmt.{digits}
use Rattle.std.proofs.lemmas.Bool.{ne_eqb}
use Rattle.iolb_model.specs.Printed.{power_text, terms_text}
use Rattle.poly_tree.specs.Powers.{powers_after}

zip-nil : {A B : Type 0} (xs : List A) → zip {K = A} {X = B} xs [] ≡ []
zip-nil [] = refl
zip-nil (x ∷ xs) = refl

-- past the end of one list there is no pair
pub zip_past : (xs : List (List ℕ)) (ys : List ℕ) (i : ℕ) → min (length xs) (length ys) ≤ i → zip (drop i xs) (drop i ys) ≡ []
zip_past [] ys zero h = refl
zip_past [] ys (suc i) h = refl
zip_past (x ∷ xs) [] zero h = refl
zip_past (x ∷ xs) [] (suc i) h = zip-nil (drop i xs)
zip_past (x ∷ xs) (y ∷ ys) zero h = absurd (omega (arith, h))
zip_past (x ∷ xs) (y ∷ ys) (suc i) h = zip_past xs ys i (omega (arith, h))

zip_at : (xs : List (List ℕ)) (ys : List ℕ) (i : ℕ) (x : List ℕ) → i < length xs → i < length ys → x ≡ get_or xs i x
    → zip (drop i xs) (drop i ys) ≡ (x, get_or ys i 0) ∷ zip (drop (suc i) xs) (drop (suc i) ys)
zip_at [] ys i x h k e = absurd (omega (arith, h))
zip_at (z ∷ xs) [] i x h k e = absurd (omega (arith, k))
zip_at (z ∷ xs) (y ∷ ys) zero x h k e = ap (λ (n : List ℕ). (n, y) ∷ zip xs ys) (sym e)
zip_at (z ∷ xs) (y ∷ ys) (suc i) x h k e = zip_at xs ys i x (omega (arith, h)) (omega (arith, k)) e

pub zip_step : (xs : List (List ℕ)) (ys : List ℕ) (i : ℕ) (x : List ℕ) → i < min (length xs) (length ys) → x ≡ get_or xs i x
    → zip (drop i xs) (drop i ys) ≡ (x, get_or ys i 0) ∷ zip (drop (i + 1) xs) (drop (i + 1) ys)
zip_step xs ys i x h e =
    let next : suc i ≡ i + 1 = omega arith in
    zip_at xs ys i x (omega (arith, h)) (omega (arith, h)) e
    ∙ ap (λ (j : ℕ). (x, get_or ys i 0) ∷ zip (drop j xs) (drop j ys)) next

shown_first : (p : List ℕ × ℕ) (rest : List (List ℕ × ℕ)) → (p.1 ≡ 0 → ⊥)
    → filter (λ (power : List ℕ × ℕ). not (power.1 == 0)) (p ∷ rest) ≡ p ∷ filter (λ (power : List ℕ × ℕ). not (power.1 == 0)) rest
shown_first p rest h = ap (λ (b : Bool). cond (not b) (p ∷ filter (λ (power : List ℕ × ℕ). not (power.1 == 0)) rest) (filter (λ (power : List ℕ × ℕ). not (power.1 == 0)) rest)) (ne_eqb p.1 0 h)

-- another is printed, after a `*` where one stands before it
pub printed : (started : Bool) (text name : List ℕ) (exponent : ℕ) (rest : List (List ℕ × ℕ)) → (exponent ≡ 0 → ⊥)
    → ((text ++ cond started (codes "*") []) ++ power_text (name, exponent)) ++ powers_after true rest ≡ text ++ powers_after started ((name, exponent) ∷ rest)
printed started text name exponent rest h =
    pieces started text (power_text (name, exponent)) (powers_after true rest) (powers_after started ((name, exponent) ∷ rest)) (first started (filter is_shown rest) (filter is_shown ((name, exponent) ∷ rest)) (shown_first (name, exponent) rest h)) where
      is_shown : List ℕ × ℕ → Bool
      is_shown power = not (power.1 == 0)

      after : Bool → List (List ℕ × ℕ) → List ℕ
      after b shown = cond b (flat_map (λ power. codes "*" ++ power_text power) shown) (join_by power_text (codes "*") shown)

      first : (b : Bool) (shown all : List (List ℕ × ℕ)) → all ≡ (name, exponent) ∷ shown
          → after b all ≡ cond b (codes "*") [] ++ (power_text (name, exponent) ++ after true shown)
      first true shown all e = ap (after true) e
      first false shown all e = ap (after false) e

      pieces : (b : Bool) (text power more whole : List ℕ) → whole ≡ cond b (codes "*") [] ++ (power ++ more) → ((text ++ cond b (codes "*") []) ++ power) ++ more ≡ text ++ whole
      pieces b text power more whole e = append_assoc (text ++ cond b (codes "*") []) power more ∙ append_assoc text (cond b (codes "*") []) (power ++ more) ∙ ap (λ (l : List ℕ). text ++ l) (sym e)
