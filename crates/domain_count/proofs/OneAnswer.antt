-- Each operation of a summation has one answer.
use Rattle.std.proofs.Common.{◌≡◌, sym, ◌∙◌, ap, subst, ℕ, zero, suc, ◌+◌, ◌*◌, ◌≤◌, List, [], ◌∷◌, arith, mul-pos}
use Rattle.std.specs.Prelude.{unsigned_abs}
use Rattle.std.proofs.Math.IntN.{ℤ, pos, ◌+ℤ◌, ◌*ℤ◌}
use Rattle.iolb_model.specs.Form.{AffineForm}
use Rattle.iolb_model.specs.Polynomial.{Term, terms_value}
use Rattle.power_sums.specs.Polynomial.{value as row_value}
use Rattle.poly_tree.specs.Expansion.{at}
use Rattle.poly_tree.specs.Poly.{Quotient, IsLegal, numerator_at}
use Rattle.poly_tree.specs.Printed.{written_terms}
use Rattle.poly_tree.proofs.SameLemmas.{same-polynomial}
use Rattle.domain_count.specs.Antidifference.{IsBetween}
use Rattle.domain_count.proofs.Determined.{between-same, crossed, same-long}
use Rattle.domain_count.specs.Coefficients.{coefficient_terms, degree_of}
use Rattle.domain_count.specs.Summing.{AreAdded, AreSummed, IsAdded, IsConstant, IsMade, IsMultiplied, IsPart, IsPowerRow, IsPowersSum}
use Rattle.domain_count.proofs.Exact.{added-is-legal, summed-legal}
use Rattle.domain_count.proofs.PowerRows.{rows-agree}
use Rattle.domain_count.proofs.Ratios.{crossed-over, positive-size}
use Rattle.domain_count.proofs.Values.{row-at}

-- what holds of two polynomials holds of two that are the same
pub of-same : (P : Quotient → Quotient → Type 0) (a b c d : Quotient) → a ≡ c → b ≡ d → P c d → P a b
of-same P a b c d first second h = subst (λ (x : Quotient). P x b) (sym first) (subst (P c) (sym second) h)

constant-same : (number : ℤ) (q r : Quotient) → IsConstant number q → IsConstant number r → q ≡ r
constant-same number q r h g =
    same-polynomial q r h.legal g.legal
    (λ p. ap (λ (z : ℤ). z *ℤ pos r.denominator) (h.form.same p (omega arith) ∙ sym (g.form.same p (omega arith)))
    ∙ ap (λ (n : ℕ). numerator_at r p *ℤ pos n) (g.form.whole ∙ sym h.form.whole))

pub made-same : (terms : List Term) (d : ℕ) (q r : Quotient) → 1 ≤ d → IsMade terms d q → IsMade terms d r → q ≡ r
made-same terms d q r some h g =
    same-polynomial q r h.legal g.legal
    (λ p. crossed d q.denominator r.denominator (numerator_at q p) (numerator_at r p) (terms_value terms p) some (h.value p) (g.value p))

multiplied-same : (a b q r : Quotient) → IsLegal a → IsLegal b → IsMultiplied a b q → IsMultiplied a b r → q ≡ r
multiplied-same a b q r first second h g =
    same-polynomial q r h.legal g.legal
    (λ p. crossed (a.denominator * b.denominator) q.denominator r.denominator (numerator_at q p) (numerator_at r p) (numerator_at a p *ℤ numerator_at b p)
    (mul-pos first.positive second.positive) (h.value p) (g.value p))

added-same : (a b q r : Quotient) → IsLegal a → IsLegal b → IsAdded a b q → IsAdded a b r → q ≡ r
added-same a b q r first second h g =
    same-polynomial q r h.legal g.legal
    (λ p. crossed (a.denominator * b.denominator) q.denominator r.denominator (numerator_at q p) (numerator_at r p)
    ((numerator_at a p *ℤ pos b.denominator) +ℤ (numerator_at b p *ℤ pos a.denominator)) (mul-pos first.positive second.positive) (h.value p) (g.value p))

pub row-same : (v e : ℕ) (q r : Quotient) → IsPowerRow v e q → IsPowerRow v e r → q ≡ r
row-same v e q r h g =
    let size = positive-size h.den h.sum.positive in
    let other = positive-size g.den g.sum.positive in
    same-polynomial q r h.made.legal g.made.legal
    (same-long (suc v) q r
    (λ p below. crossed-over (unsigned_abs h.den) (unsigned_abs g.den) q.denominator r.denominator (numerator_at q p) (numerator_at r p)
    (row_value h.num (at p v)) (row_value g.num (at p v)) size.0 other.0
    (h.made.value p ∙ ap (λ (z : ℤ). z *ℤ pos q.denominator) (row-at v h.num p below))
    (g.made.value p ∙ ap (λ (z : ℤ). z *ℤ pos r.denominator) (row-at v g.num p below))
    (ap (λ (z : ℤ). row_value h.num (at p v) *ℤ z) other.1 ∙ rows-agree e h.num g.num h.den g.den h.sum g.sum (at p v)
    ∙ ap (λ (z : ℤ). row_value g.num (at p v) *ℤ z) (sym size.1))))

pub part-same : (v e d : ℕ) (terms : List Term) (q r : Quotient) → 1 ≤ d → IsPart v e terms d q → IsPart v e terms d r → q ≡ r
part-same v e d terms q r some h g =
    multiplied-same h.coefficient h.row q r h.is_coefficient.legal h.is_row.made.legal h.product
    (of-same (λ a b. IsMultiplied a b r) h.coefficient h.row g.coefficient g.row
    (made-same (coefficient_terms v e terms) d h.coefficient g.coefficient some h.is_coefficient g.is_coefficient) (row-same v e h.row g.row h.is_row g.is_row) g.product)

pub parts-same : (v d : ℕ) (terms : List Term) (n : ℕ) (q r : Quotient) → 1 ≤ d → AreAdded v terms d n q → AreAdded v terms d n r → q ≡ r
parts-same v d terms zero q r some h g = constant-same (pos 0) q r h g
parts-same v d terms (suc e) q r some (before, part, (h, is, sum)) (other, piece, (g, its, total)) =
    added-same before part q r (added-is-legal v terms d e before h) is.product.legal sum
    (of-same (λ a b. IsAdded a b r) before part other piece (parts-same v d terms e before other some h g) (part-same v e d terms part piece some is its) total)

pub powers-same : (v : ℕ) (summand q r : Quotient) → IsLegal summand → IsPowersSum v summand q → IsPowersSum v summand r → q ≡ r
powers-same v summand q r legal h g =
    parts-same v summand.denominator (written_terms summand) (degree_of v (written_terms summand) + 1) q r legal.positive h.parts g.parts

pub powers-legal : (v : ℕ) (summand sum : Quotient) → IsPowersSum v summand sum → IsLegal sum
powers-legal v summand sum h = added-is-legal v (written_terms summand) summand.denominator (degree_of v (written_terms summand) + 1) sum h.parts

-- the polynomials of a nest's variables, and what these count
pub summed-one : (v : ℕ) (nest : List (AffineForm × AffineForm)) (sums others : List Quotient) (total other : Quotient) → AreSummed v nest sums total → AreSummed v nest others other
    → (sums ≡ others) × (total ≡ other)
summed-one v [] sums others total other h g = (h.0 ∙ sym g.0, constant-same (pos 1) total other h.1 g.1)
summed-one v (b ∷ nest) [] others total other h g = absurd h
summed-one v (b ∷ nest) (s ∷ sums) [] total other h g = absurd g
summed-one v (b ∷ nest) (s ∷ sums) (t ∷ others) total other (summand, (behind, sum, between)) (its, (later, powers, ends)) =
    let same = summed-one (suc v) nest sums others summand its behind later in
    let first : s ≡ t = powers-same v summand s t (summed-legal (suc v) nest sums summand behind) sum (subst (λ (q : Quotient). IsPowersSum v q t) (sym same.1) powers) in (
      ap (λ (q : Quotient). q ∷ sums) first ∙ ap (λ (qs : List Quotient). t ∷ qs) same.0,
      between-same v b s total other (powers-legal v summand s sum) between (subst (λ (q : Quotient). IsBetween v b q other) (sym first) ends),
    )
