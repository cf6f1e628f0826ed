-- The counts of credits, added one after another, are one polynomial.
use Rattle.std.specs.Prelude.{codes}
use Rattle.std.proofs.Common.{◌≡◌, refl, sym, ◌∙◌, ap, subst, inl, inr, ℕ, suc, ◌*◌, ◌<◌, ◌≤◌, List, [], ◌∷◌, ◌++◌, get_or, length, take, arith}
use Rattle.std.proofs.Math.IntN.{ℤ, pos, ◌+ℤ◌, ◌*ℤ◌}
use Rattle.std.proofs.Math.Seq.{take-suc}
use Rattle.std.proofs.lemmas.Nat.Gcd.{dvd_antisymm}
use Rattle.std.proofs.Math.Nat.{one-dvd}
use Rattle.iolb_model.specs.Program.{AffineProgram}
use Rattle.claims.specs.Claims.{Claim, AllHold, FirstFails, IsRefusal}
use Rattle.claims.specs.declared.place.Step.{Step}
use Rattle.claims.specs.declared.place.Step.TheVariants.{Key}
use Rattle.claims.specs.declared.refused.FailedCondition.{FailedCondition}
use Rattle.claims.specs.declared.refused.Refused.{Refused}
use Rattle.claims.specs.declared.refused.Refused.TheVariants.{Failed as not_so, Memory}
use Rattle.claims.proofs.Laws.{AllHold-append, AllHold-left}
use Rattle.poly_tree.specs.Poly.{Quotient, IsForm, IsLegal, numerator_at, size}
use Rattle.poly_tree.proofs.SameLemmas.{same-polynomial}
use Rattle.domain_count.specs.Count.{IsSumFrom}
use Rattle.domain_count.specs.CountClaims.{count_claims}
use Rattle.domain_count.proofs.Claimed.{sums-same}
use Rattle.domain_count.proofs.Counting.{positive-from}
use Rattle.domain_count.proofs.Determined.{crossed}
use Rattle.k_partition.specs.CreditSums.{next_claims, IsWithCredit, HasWithCredit}
use Rattle.k_partition.specs.PartitionClaims.{credit_claims, credit_place, no_points, IsAdded, IsCreditsTotal, HasCreditsTotal}
use Rattle.k_partition.specs.Term.{CreditTerm}
use Rattle.iolb_model.specs.declared.limits.TheConstants.{SUM_MEASURE}

-- ---- the polynomial 0

none-legal : IsLegal no_points
none-legal = record { canonical = tt; degrees = tt; positive = omega arith; primitive = λ k divides all. dvd_antisymm divides (one-dvd k) }

-- a legal polynomial that is the form 0 is it
pub none-is : (q : Quotient) → IsForm (record { coefficients = []; constant = pos 0 }) q → IsLegal q → q ≡ no_points
none-is q is legal =
    same-polynomial q no_points legal none-legal
    (λ p. ap (λ (z : ℤ). z *ℤ pos 1) (is.same p (omega arith)) ∙ sym (ap (λ (n : ℕ). pos 0 *ℤ pos n) is.whole))

-- ---- sums

pub product : (m n : ℕ) → 1 ≤ m → 1 ≤ n → 1 ≤ m * n
product m n x y = grind arith

-- two polynomials have one sum
added-same : (before count r s : Quotient) → 1 ≤ before.denominator → 1 ≤ count.denominator → IsAdded before count r → IsAdded before count s → r ≡ s
added-same before count r s p q h g =
    same-polynomial r s h.legal g.legal
    (λ at. crossed (before.denominator * count.denominator) r.denominator s.denominator (numerator_at r at) (numerator_at s at)
    ((numerator_at before at *ℤ pos count.denominator) +ℤ (numerator_at count at *ℤ pos before.denominator)) (product before.denominator count.denominator p q) (h.is at) (g.is at))

with-same : (parameters : ℕ) (before : Quotient) (credit : CreditTerm) (r s : Quotient) → 1 ≤ before.denominator → IsWithCredit parameters before credit r → IsWithCredit parameters before credit s → r ≡ s
with-same parameters before credit r s some h g =
    added-same before h.0 r s some (positive-from parameters credit.nest.nest credit.count.sums h.0 h.1.0) h.1.1
    (subst (λ (n : Quotient). IsAdded before n s) (sums-same parameters credit.nest.nest credit.count.sums g.0 h.0 g.1.0 h.1.0) g.1.1)

pub total-same : (parameters : ℕ) (before : Quotient) (credits : List CreditTerm) (r s : Quotient) → 1 ≤ before.denominator → IsCreditsTotal parameters before credits r → IsCreditsTotal parameters before credits s
    → r ≡ s
total-same parameters before [] r s some h g = h ∙ sym g
total-same parameters before (credit ∷ credits) r s some h g =
    total-same parameters h.1.1.0 credits r s h.1.1.1.0.legal.positive h.1.1.1.1
    (subst (λ (n : Quotient). IsCreditsTotal parameters n credits s) (with-same parameters before credit g.1.1.0 h.1.1.0 some (g.0, (g.1.0, g.1.1.1.0)) (h.0, (h.1.0, h.1.1.1.0))) g.1.1.1.1)

-- the total of credits and one more
total-with : (parameters : ℕ) (before : Quotient) (credits : List CreditTerm) (credit : CreditTerm) (total sum : Quotient) → IsCreditsTotal parameters before credits total
    → IsWithCredit parameters total credit sum → IsCreditsTotal parameters before (credits ++ credit ∷ []) sum
total-with parameters before [] credit total sum h next =
    let here = subst (λ (n : Quotient). IsWithCredit parameters n credit sum) h next in (here.0, (here.1.0, (sum, (here.1.1, refl))))
total-with parameters before (first ∷ credits) credit total sum h next =
    (h.0, (h.1.0, (h.1.1.0, (h.1.1.1.0, total-with parameters h.1.1.0 credits credit total sum h.1.1.1.1 next))))

total-parts : (parameters : ℕ) (before : Quotient) (credits : List CreditTerm) (credit : CreditTerm) (sum : Quotient) → IsCreditsTotal parameters before (credits ++ credit ∷ []) sum
    → (total : Quotient) × (IsCreditsTotal parameters before credits total × IsWithCredit parameters total credit sum)
total-parts parameters before [] credit sum h = (before, (refl, (h.0, (h.1.0, subst (λ (n : Quotient). IsAdded before h.0 n) (sym h.1.1.1.1) h.1.1.1.0))))
total-parts parameters before (first ∷ credits) credit sum h =
    let later = total-parts parameters h.1.1.0 credits credit sum h.1.1.1.1 in (later.0, ((h.0, (h.1.0, (h.1.1.0, (h.1.1.1.0, later.1.0)))), later.1.1))

-- ---- claims

-- the last claim said otherwise
last-fails : (claims : List Claim) (one other : Claim) (failed : FailedCondition) → one.condition ≡ other.condition → one.place ≡ other.place → (other.statement → one.statement)
    → FirstFails (claims ++ one ∷ []) failed → FirstFails (claims ++ other ∷ []) failed
last-fails [] one other failed e f to (inl h) = inl ((λ s. h.0 (to s)), sym e ∙ h.1, sym f ∙ h.2)
last-fails [] one other failed e f to (inr h) = absurd h.1
last-fails (claim ∷ claims) one other failed e f to (inl h) = inl h
last-fails (claim ∷ claims) one other failed e f to (inr h) = inr (h.0, last-fails claims one other failed e f to h.1)

-- no sum with a credit's count has its measures within the limits
pub added-refused : (parameters : ℕ) (before count : Quotient) (credit : CreditTerm) (place : List Step) (r : Refused) → IsSumFrom parameters credit.nest.nest credit.count.sums count
    → IsRefusal (record { condition = 2; place = place; statement = size before * size count < SUM_MEASURE } ∷ []) r
    → IsRefusal (record { condition = 2; place = place; statement = HasWithCredit parameters before credit } ∷ []) r
added-refused parameters before count credit place (not_so n) is h =
    last-fails [] (record { condition = 2; place = place; statement = size before * size count < SUM_MEASURE }) (record { condition = 2; place = place; statement = HasWithCredit parameters before credit })
    n refl refl
    (λ s. subst (λ (q : Quotient). size before * size q < SUM_MEASURE) (sums-same parameters credit.nest.nest credit.count.sums s.1.0 count s.1.1.0 is) s.1.1.1.small) h
added-refused parameters before count credit place Memory is h = tt

module _ (program : AffineProgram) (place : List Step) (credits : List CreditTerm) (i : ℕ) (credit : CreditTerm) (total : Quotient) (below : i < length credits) (is : credit ≡ get_or credits i credit)
    (before : IsCreditsTotal (length program.parameters) no_points (take i credits) total) where
  abbrev counts : List Claim
  counts = count_claims program credit.nest.nest credit.count (credit_place place i)

  abbrev last : Claim
  last = record { condition = 2; place = credit_place place i ++ Key (codes "sums") ∷ []; statement = HasCreditsTotal (length program.parameters) (take (suc i) credits) }

  taken : take (suc i) credits ≡ take i credits ++ credit ∷ []
  taken = take-suc credits i credit below ∙ ap (λ (x : CreditTerm). take i credits ++ x ∷ []) (sym is)

  -- the total of one credit more
  pub total-next : (sum : Quotient) → IsWithCredit (length program.parameters) total credit sum → IsCreditsTotal (length program.parameters) no_points (take (suc i) credits) sum
  total-next sum next =
      subst (λ (cs : List CreditTerm). IsCreditsTotal (length program.parameters) no_points cs sum) (sym taken)
      (total-with (length program.parameters) no_points (take i credits) credit total sum before next)

  pub has-next : HasCreditsTotal (length program.parameters) (take (suc i) credits) → HasWithCredit (length program.parameters) total credit
  has-next s =
      let parts = total-parts (length program.parameters) no_points (take i credits) credit s.0 (subst (λ (cs : List CreditTerm). IsCreditsTotal (length program.parameters) no_points cs s.0) taken s.1) in (
        s.0,
        subst (λ (q : Quotient). IsWithCredit (length program.parameters) q credit s.0)
            (total-same (length program.parameters) no_points (take i credits) parts.0 total (omega arith) parts.1.0 before) parts.1.1,
      )

  -- the claims of a credit, by those beside the sum of the credits before
  pub credit-refused : (r : Refused) → IsRefusal (next_claims program (credit_place place i) total credit) r → IsRefusal (credit_claims program place credits i credit) r
  credit-refused (not_so n) h =
      last-fails counts (record { condition = 2; place = credit_place place i ++ Key (codes "sums") ∷ []; statement = HasWithCredit (length program.parameters) total credit }) last n refl refl has-next h
  credit-refused Memory h = tt

  pub credit-holds : (sum : Quotient) → AllHold (next_claims program (credit_place place i) total credit) → IsWithCredit (length program.parameters) total credit sum
      → AllHold (credit_claims program place credits i credit)
  credit-holds sum h next =
      AllHold-append counts (last ∷ [])
      (AllHold-left counts (record { condition = 2; place = credit_place place i ++ Key (codes "sums") ∷ []; statement = HasWithCredit (length program.parameters) total credit } ∷ []) h)
      ((sum, total-next sum next), tt)
