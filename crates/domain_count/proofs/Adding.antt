-- Sums that are added up part by part.
use Rattle.std.proofs.Common.{◌≡◌, subst, ℕ, zero, suc, ◌+◌, ◌<◌, ◌≤◌, List, arith, inl, inr}
use Rattle.std.proofs.lemmas.Bool.{cases_order}
use Rattle.iolb_model.specs.Polynomial.{Term}
use Rattle.poly_tree.specs.Poly.{Quotient}
use Rattle.domain_count.specs.Summing.{AddingPasses, AdditionPasses, AreAdded, IsAdded, IsPart, PartPasses}

-- an operation that passes its limit does so on the way to more
pub adding-later : (v : ℕ) (terms : List Term) (d e n : ℕ) → e ≤ n → AddingPasses v terms d e → AddingPasses v terms d n
adding-later v terms d zero zero le h = h
adding-later v terms d (suc e) zero le h = absurd (omega arith)
adding-later v terms d e (suc n) le h = elim (cases_order e (suc n)) [
  | inl same ↦ subst (AddingPasses v terms d) same h
  | inr (inl less) ↦ inl (adding-later v terms d e n (omega arith) h)
  | inr (inr more) ↦ absurd (omega arith)
]

-- one part more
pub one-more-part : (v : ℕ) (terms : List Term) (d e : ℕ) (before part sum : Quotient) → AreAdded v terms d e before → IsPart v e terms d part → IsAdded before part sum
    → AreAdded v terms d (e + 1) sum
one-more-part v terms d e before part sum h p a = subst (λ (n : ℕ). AreAdded v terms d n sum) (next e) (before, part, (h, p, a)) where
  next : (n : ℕ) → suc n ≡ n + 1
  next n = omega arith

-- the part passes the limit
pub part-passes : (v : ℕ) (terms : List Term) (d e n : ℕ) (before : Quotient) → e < n → AreAdded v terms d e before → PartPasses v e terms d → AddingPasses v terms d n
part-passes v terms d e n before less h p = adding-later v terms d (suc e) n less (inr (before, (h, inl p)))

-- the addition does
pub sum-passes : (v : ℕ) (terms : List Term) (d e n : ℕ) (before part : Quotient) → e < n → AreAdded v terms d e before → IsPart v e terms d part → AdditionPasses before part
    → AddingPasses v terms d n
sum-passes v terms d e n before part less h p a = adding-later v terms d (suc e) n less (inr (before, (h, inr (part, (p, a)))))
