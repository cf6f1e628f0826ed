-- Steps of the tests that parts make a program.
use Rattle.std.proofs.Common.{◌≡◌, sym, ◌∙◌, ap, subst, ℕ, zero, suc, ◌+◌, ◌<◌, List, [], ◌∷◌, ◌++◌, length, take, get_or, arith}
use Rattle.std.specs.List.{AllByRecursion, range_with_len, enumerate_from}
use Rattle.std.proofs.lemmas.List.{take_more}
use Rattle.base_laws.proofs.Ranges.{range-push}
use Rattle.affine_program.proofs.Bounds.{All-placed}

-- one number more that counts on
pub counted-more : (xs : List ℕ) (i : ℕ) → i < length xs → get_or xs i 0 ≡ i → take i xs ≡ range_with_len 0 i → take (i + 1) xs ≡ range_with_len 0 (i + 1)
counted-more xs i below e h =
    take_more xs i 0 below ∙ ap (λ (ys : List ℕ). ys ++ get_or xs i 0 ∷ []) h ∙ ap (λ (k : ℕ). range_with_len 0 i ++ k ∷ []) (e ∙ none) ∙ range-push 0 i
    ∙ ap (λ (k : ℕ). range_with_len 0 k) next where
      none : i ≡ 0 + i
      none = omega arith

      next : suc i ≡ i + 1
      next = omega arith

-- one placed member more
pub placed-more : {X : Type 0} (P : ℕ × X → Type 0) (first : ℕ) (xs : List X) (k : ℕ) (x : X) → k < length xs → x ≡ get_or xs k x
    → AllByRecursion P (enumerate_from first (take k xs)) → P (first + k, x) → AllByRecursion P (enumerate_from first (take (k + 1) xs))
placed-more P first [] k x below e h p = absurd (omega arith)
placed-more P first (y ∷ xs) zero x below e h p = (subst (λ z. P (first, z)) e (subst (λ (n : ℕ). P (n, x)) none p), tt) where
  none : first + 0 ≡ first
  none = omega arith
placed-more P first (y ∷ xs) (suc k) x below e h p =
    subst (λ (n : ℕ). AllByRecursion P (enumerate_from first (take n (y ∷ xs)))) next
    (h.0, placed-more P (first + 1) xs k x (omega arith) e h.1 (subst (λ (n : ℕ). P (n, x)) moved p)) where
      next : suc (k + 1) ≡ suc k + 1
      next = omega arith

      moved : first + suc k ≡ first + 1 + k
      moved = omega arith

-- what holds of each placed member holds of one that is read
pub placed-read : {X : Type 0} (P : ℕ × X → Type 0) (xs : List X) (k : ℕ) (x : X) → AllByRecursion P (enumerate_from 0 xs) → k < length xs → x ≡ get_or xs k x → P (k, x)
placed-read P xs k x h below e = subst (λ z. P (k, z)) (sym e) (subst (λ (n : ℕ). P (n, get_or xs k x)) none (All-placed P 0 xs k x h below)) where
  none : 0 + k ≡ k
  none = omega arith
