-- Numbers rounded up, and greatest numbers.
use Rattle.std.proofs.Common.{◌≡◌, refl, sym, ◌∙◌, ap, ℕ, ◌+◌, ◌-◌, ◌*◌, ◌/◌, ◌≤◌, max, List, [], ◌∷◌, arith}
use Rattle.std.specs.Prelude.{fold}
use Rattle.std.proofs.Math.Nat.{add-mul-div_left}
use Rattle.iolb_model.specs.Parallel.{ceiling}

-- a number of at least 1, rounded up without a sum that could be too large
pub ceiling-some : (number parts : ℕ) → 1 ≤ parts → 1 ≤ number → (number - 1) / parts + 1 ≡ ceiling number parts
ceiling-some number parts some more =
    sym (ap (λ (n : ℕ). n / parts) shifted ∙ add-mul-div_left (number - 1) 1 {y = parts} (omega (arith, some))) where
      shifted : number + (parts - 1) ≡ number - 1 + parts * 1
      shifted = omega (arith, some, more)

-- the greatest of two numbers and others
pub greatest-also : (a b : ℕ) (xs : List ℕ) → fold max (max a b) xs ≡ max a (fold max b xs)
greatest-also a b [] = refl
greatest-also a b (x ∷ xs) = ap (λ (n : ℕ). fold max n xs) (omega arith) ∙ greatest-also a (max b x) xs
