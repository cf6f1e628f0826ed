-- The polynomials of a summation are antidifferences.
use Rattle.std.proofs.Common.{◌≡◌, refl, sym, subst, ◌∙◌, ap, ℕ, zero, suc, ◌+◌, ◌<◌, ◌≤◌, List, [], ◌∷◌, length, drop, arith, inl, inr}
use Rattle.std.specs.Prelude.{slice_set, unsigned_abs}
use Rattle.std.proofs.Math.IntN.{ℤ, pos, ◌+ℤ◌, ◌-ℤ◌, ◌*ℤ◌}
use Rattle.std.proofs.lemmas.Int.{ints}
use Rattle.std.proofs.lemmas.List.{get_or-set_same, length-set, drop_all}
use Rattle.std.proofs.Math.Nat.{add-suc}
use Rattle.base_laws.proofs.Ring.{zero-mul}
use Rattle.iolb_model.specs.Form.{AffineForm}
use Rattle.iolb_model.specs.Polynomial.{Term, int_power}
use Rattle.power_sums.specs.Polynomial.{value as row_value}
use Rattle.claims.specs.Claims.{FirstFails}
use Rattle.claims.specs.declared.place.Step.{Step}
use Rattle.claims.specs.declared.refused.FailedCondition.{FailedCondition}
use Rattle.poly_tree.specs.Expansion.{at, value}
use Rattle.poly_tree.specs.Poly.{Quotient, IsLegal, SameValues, numerator_at}
use Rattle.poly_tree.specs.Printed.{written_terms}
use Rattle.poly_tree.proofs.WrittenTerms.{are-written}
use Rattle.domain_count.specs.Antidifference.{IsBackwardDifference}
use Rattle.domain_count.specs.Count.{IsSumFrom, one}
use Rattle.domain_count.specs.CountClaims.{sum_at, sums_down}
use Rattle.domain_count.proofs.Determined.{between-same, same-long}
use Rattle.domain_count.proofs.Fractions.{cancelled}
use Rattle.domain_count.proofs.Ones.{one-is}
use Rattle.domain_count.specs.Coefficients.{coefficient_terms, degree_of}
use Rattle.domain_count.specs.Summing.{AreAdded, AreSummed, IsMade, IsPart, IsPowerRow, IsPowersSum}
use Rattle.domain_count.proofs.Ratios.{positive-size, row-difference, product-difference, sum-difference, backward-value}
use Rattle.domain_count.proofs.Values.{at-set, coefficient_at, coefficient-same, parts_sum, terms-total, row-at}

-- a sum of parts is legal
pub added-is-legal : (v : ℕ) (terms : List Term) (d n : ℕ) (q : Quotient) → AreAdded v terms d n q → IsLegal q
added-is-legal v terms d zero q g = g.legal
added-is-legal v terms d (suc n) q (b, r, (g, i, a)) = a.legal

module _ (v : ℕ) (p : List ℤ) (below : v < length p) where
  -- the point with the variable's value less 1
  abbrev less : List ℤ
  less = slice_set p v (at p v -ℤ pos 1)

  abbrev step : Quotient → ℤ
  step q = numerator_at q p -ℤ numerator_at q less

  at-less : at less v ≡ at p v -ℤ pos 1
  at-less = get_or-set_same p v (at p v -ℤ pos 1) (pos 1) below

  -- the step of a sum of powers
  row-step : (e : ℕ) (row : Quotient) → IsPowerRow v e row → step row ≡ int_power (at p v) e *ℤ pos row.denominator
  row-step e row r =
      let size = positive-size r.den r.sum.positive in
      row-difference (unsigned_abs r.den) row.denominator (numerator_at row p) (numerator_at row less) (row_value r.num (at p v)) (row_value r.num (at p v -ℤ pos 1)) (int_power (at p v) e) size.0
      (r.made.value p ∙ ap (λ (z : ℤ). z *ℤ pos row.denominator) (row-at v r.num p below))
      (r.made.value less ∙ ap (λ (z : ℤ). z *ℤ pos row.denominator) (row-at v r.num less inside ∙ ap (row_value r.num) at-less))
      (r.sum.difference (at p v) ∙ ap (λ (z : ℤ). z *ℤ int_power (at p v) e) (sym size.1)) where
        inside : v < length less
        inside = omega (arith, below, length-set p v (at p v -ℤ pos 1))

  -- a coefficient has no step
  coefficient-stays : (e d : ℕ) (terms : List Term) (c : Quotient) → 1 ≤ d → IsMade (coefficient_terms v e terms) d c → numerator_at c less ≡ numerator_at c p
  coefficient-stays e d terms c some made =
      cancelled d (numerator_at c less) (numerator_at c p) some
      (made.value less ∙ ap (λ (z : ℤ). z *ℤ pos c.denominator) (coefficient-same v e terms p (at p v -ℤ pos 1)) ∙ sym (made.value p))

  -- the step of a part
  part-step : (e d : ℕ) (terms : List Term) (part : Quotient) → 1 ≤ d → IsPart v e terms d part
      → step part *ℤ pos d ≡ (coefficient_at v e terms p *ℤ int_power (at p v) e) *ℤ pos part.denominator
  part-step e d terms part some is =
      product-difference is.coefficient.denominator is.row.denominator part.denominator (numerator_at part p) (numerator_at part less) (numerator_at is.coefficient p)
      (numerator_at is.row p) (numerator_at is.row less) (int_power (at p v) e) (coefficient_at v e terms p) (pos d) is.is_coefficient.legal.positive is.is_row.made.legal.positive
      (is.product.value p)
      (is.product.value less ∙ ap (λ (z : ℤ). (z *ℤ numerator_at is.row less) *ℤ pos part.denominator) (coefficient-stays e d terms is.coefficient some is.is_coefficient))
      (row-step e is.row is.is_row) (is.is_coefficient.value p)

  -- the step of the parts' sum
  added-step : (d : ℕ) (terms : List Term) (n : ℕ) (sum : Quotient) → 1 ≤ d → AreAdded v terms d n sum → step sum *ℤ pos d ≡ parts_sum v terms p n *ℤ pos sum.denominator
  added-step d terms zero sum some h =
      let here : numerator_at sum p ≡ pos 0 +ℤ pos 0 = h.form.same p (omega arith) in
      let there : numerator_at sum less ≡ pos 0 +ℤ pos 0 = h.form.same less (omega arith) in
      let none : step sum ≡ pos 0 = omega (arith, ints) in
      ap (λ (z : ℤ). z *ℤ pos d) none ∙ zero-mul (pos d) ∙ sym (zero-mul (pos sum.denominator))
  added-step d terms (suc e) sum some (before, part, (h, is, added)) =
      sum-difference before.denominator part.denominator sum.denominator (numerator_at sum p) (numerator_at sum less) (numerator_at before p) (numerator_at before less)
      (numerator_at part p) (numerator_at part less) (pos d) (parts_sum v terms p e) (coefficient_at v e terms p *ℤ int_power (at p v) e)
      (added-is-legal v terms d e before h).positive is.product.legal.positive
      (added.value p) (added.value less) (added-step d terms e before some h) (part-step e d terms part some is)

-- the polynomial of a variable is an antidifference at points that have the variable
long-same : (v : ℕ) (summand sum difference : Quotient) (p : List ℤ) → v < length p → IsLegal summand → IsPowersSum v summand sum → IsBackwardDifference v sum difference
    → (numerator_at difference p *ℤ pos summand.denominator) ≡ (numerator_at summand p *ℤ pos difference.denominator)
long-same v summand sum difference p below legal powers back =
    let terms = written_terms summand in
    let n = degree_of v terms + 1 in
    let total : parts_sum v terms p n ≡ numerator_at summand p = sym (terms-total v terms p n below (omega arith)) ∙ (are-written summand legal).value p in
    backward-value sum.denominator back.shifted.denominator difference.denominator summand.denominator
    (numerator_at sum p) (numerator_at sum (slice_set p v (at p v -ℤ pos 1))) (numerator_at back.shifted p) (numerator_at difference p) (numerator_at summand p)
    (added-is-legal v terms summand.denominator n sum powers.parts).positive back.shift.legal.positive
    (back.shift.value p ∙ ap (λ (f : ℕ → ℤ). value sum.tree f *ℤ pos back.shifted.denominator) (sym (at-set p v (at p v -ℤ pos 1) below)))
    (back.less.value p)
    (added-step v p below summand.denominator terms n sum legal.positive powers.parts ∙ ap (λ (z : ℤ). z *ℤ pos sum.denominator) total)

-- and so at all
pub antidifference : (v : ℕ) (summand sum difference : Quotient) → IsLegal summand → IsPowersSum v summand sum → IsBackwardDifference v sum difference → SameValues difference summand
antidifference v summand sum difference legal powers back = same-long (suc v) difference summand (λ p below. long-same v summand sum difference p below legal powers back)

-- what variables count by a summation is legal
pub summed-legal : (v : ℕ) (nest : List (AffineForm × AffineForm)) (sums : List Quotient) (total : Quotient) → AreSummed v nest sums total → IsLegal total
summed-legal v [] sums total h = h.1.legal
summed-legal v (b ∷ nest) [] total h = absurd h
summed-legal v (b ∷ nest) (s ∷ sums) total h = h.1.2.less.legal

-- where the claims give a polynomial for the variables from one on, it is what the summation gives
pub summed-same : (v : ℕ) (nest : List (AffineForm × AffineForm)) (sums : List Quotient) (first other : Quotient) → IsSumFrom v nest sums first → AreSummed v nest sums other
    → first ≡ other
summed-same v [] sums first other h g = h ∙ sym (one-is other g.1.form g.1.legal)
summed-same v (b ∷ nest) [] first other h g = absurd h
summed-same v (b ∷ nest) (s ∷ sums) first other h g = between-same v b s first other h.1.1.legal h.1.1.between g.1.2

-- a variable's polynomial in a summation
summed-at : (v w k : ℕ) (nest : List (AffineForm × AffineForm)) (sums : List Quotient) (total : Quotient) → w ≡ v + k → k < length nest → AreSummed v nest sums total
    → (summand : Quotient) × (AreSummed (suc w) (drop (suc k) nest) (drop (suc k) sums) summand × IsPowersSum w summand (sum_at sums k))
summed-at v w k [] sums total e below h = absurd (omega arith)
summed-at v w k (b ∷ nest) [] total e below h = absurd h
summed-at v w zero (b ∷ nest) (s ∷ sums) total e below h =
    (h.0, (subst (λ (n : ℕ). AreSummed (suc n) nest sums h.0) same h.1.0, subst (λ (n : ℕ). IsPowersSum n h.0 s) same h.1.1)) where
      same : v ≡ w
      same = omega (arith, e)
summed-at v w (suc k) (b ∷ nest) (s ∷ sums) total e below h = summed-at (suc v) w k nest sums h.0 (omega (arith, e)) (omega arith) h.1.0

-- the claim that fails first about a summation's polynomials is one of condition 2
pub wide-fails : (params : ℕ) (nest : List (AffineForm × AffineForm)) (sums : List Quotient) (place : List Step) (key : List ℕ) (failed : FailedCondition) (total : Quotient) → AreSummed params nest sums total
    → (k : ℕ) → k ≤ length nest → (behind : Quotient) → IsSumFrom (params + k) (drop k nest) (drop k sums) behind → FirstFails (sums_down params nest sums place key k) failed
    → failed.condition ≡ 2
wide-fails params nest sums place key failed total made zero le behind h fails = absurd fails
wide-fails params nest sums place key failed total made (suc k) le behind h (inl difference) = sym difference.1
wide-fails params nest sums place key failed total made (suc k) le behind h (inr (has, inl other)) =
    let here = summed-at params (params + k) k nest sums total refl (omega arith) made in
    let from : IsSumFrom (suc (params + k)) (drop (suc k) nest) (drop (suc k) sums) behind = subst (λ (n : ℕ). IsSumFrom n (drop (suc k) nest) (drop (suc k) sums) behind) (add-suc params k) h in
    let same : behind ≡ here.0 = summed-same (suc (params + k)) (drop (suc k) nest) (drop (suc k) sums) behind here.0 from here.1.0 in
    absurd (other.0 (
      behind,
      (
        from,
        record {
          difference = has.0;
          backward = has.1;
          same = subst (SameValues has.0) (sym same)
              (antidifference (params + k) here.0 (sum_at sums k) has.0 (summed-legal (suc (params + k)) (drop (suc k) nest) (drop (suc k) sums) here.0 here.1.0) here.1.1 has.1);
        },
      ),
    ))
wide-fails params nest sums place key failed total made (suc k) le behind h (inr (has, inr (right, inl wide))) = sym wide.1
wide-fails params nest sums place key failed total made (suc k) le behind h (inr (has, inr (right, inr (whole, later)))) =
    wide-fails params nest sums place key failed total made k (omega arith) whole.0 whole.1 later

-- from the last variable on
pub first-is-wide : (params : ℕ) (nest : List (AffineForm × AffineForm)) (sums : List Quotient) (place : List Step) (key : List ℕ) (failed : FailedCondition) (total : Quotient) → AreSummed params nest sums total
    → FirstFails (sums_down params nest sums place key (length nest)) failed → failed.condition ≡ 2
first-is-wide params nest sums place key failed total made fails =
    wide-fails params nest sums place key failed total made (length nest) (omega arith) one
    (subst (λ (rest : List (AffineForm × AffineForm)). IsSumFrom (params + length nest) rest (drop (length nest) sums) one) (sym (drop_all (length nest) nest (omega arith))) refl) fails
