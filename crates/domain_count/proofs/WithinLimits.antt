-- Where an operation of a summation has an answer, it passes no limit; nor does a summation whose count is right.
use Rattle.std.specs.Prelude.{codes}
use Rattle.std.proofs.Common.{◌≡◌, sym, subst, ◌∙◌, ap, inl, inr, ℕ, zero, suc, ◌+◌, ◌*◌, ◌≤◌, List, [], ◌∷◌, length, mul-pos, not-le_of_lt}
use Rattle.std.proofs.Math.IntN.{ℤ, pos, ◌*ℤ◌}
use Rattle.iolb_model.specs.Form.{AffineForm}
use Rattle.iolb_model.specs.Polynomial.{Term}
use Rattle.iolb_model.specs.Program.{AffineProgram}
use Rattle.claims.specs.Claims.{AllHold, numbered}
use Rattle.claims.proofs.Laws.{AllHold-right, accepted-stand}
use Rattle.poly_tree.specs.Poly.{Quotient, IsLegal}
use Rattle.poly_tree.specs.Printed.{written_terms}
use Rattle.domain_count.specs.Antidifference.{BetweenPasses}
use Rattle.domain_count.specs.Claims.{SumClaims}
use Rattle.domain_count.specs.Count.{IsCount}
use Rattle.domain_count.specs.CountClaims.{range_claim, sums_claims}
use Rattle.domain_count.proofs.Claimed.{count-claims}
use Rattle.domain_count.proofs.Determined.{between-stays, degrees-of}
use Rattle.domain_count.specs.Coefficients.{coefficient_terms, degree_of}
use Rattle.domain_count.specs.Made.{AreMade, CheckPasses}
use Rattle.domain_count.specs.Summing.{AddingPasses, AdditionPasses, AreAdded, AreSummed, IsMultiplied, IsPart, IsPowerRow, IsPowersSum, MultiplicationPasses, PartPasses, PowerRowPasses, PowersSumPasses, SummationPasses}
use Rattle.domain_count.proofs.Exact.{summed-legal}
use Rattle.domain_count.proofs.OneAnswer.{made-same, of-same, part-same, parts-same, powers-legal, powers-same, row-same, summed-one}
use Rattle.domain_count.proofs.PowerRows.{row-narrow}

multiplied-stays : (a b product : Quotient) → IsLegal a → IsLegal b → IsMultiplied a b product → MultiplicationPasses a b → ⊥
multiplied-stays a b product first second h (inl wide) = not-le_of_lt h.narrow wide
multiplied-stays a b product first second h (inr (t, (canonical, same, passes))) =
    passes (degrees-of 0 (a.denominator * b.denominator) t product (mul-pos first.positive second.positive) h.legal canonical
    (λ p long. h.value p ∙ ap (λ (z : ℤ). z *ℤ pos product.denominator) (sym (same p))))

row-stays : (v e : ℕ) (row : Quotient) → IsPowerRow v e row → PowerRowPasses v e → ⊥
row-stays v e row h (inl past) = not-le_of_lt h.in_table past
row-stays v e row h (inr (num, den, (sum, wide))) = not-le_of_lt (row-narrow v e num den sum h.in_table) wide

part-stays : (v e d : ℕ) (terms : List Term) (part : Quotient) → 1 ≤ d → IsPart v e terms d part → PartPasses v e terms d → ⊥
part-stays v e d terms part some h (inl wide) = not-le_of_lt h.is_coefficient.narrow wide
part-stays v e d terms part some h (inr (coefficient, (is, inl none))) = row-stays v e h.row h.is_row none
part-stays v e d terms part some h (inr (coefficient, (is, inr (row, (its, wide))))) =
    multiplied-stays h.coefficient h.row part h.is_coefficient.legal h.is_row.made.legal h.product
    (of-same MultiplicationPasses h.coefficient h.row coefficient row (made-same (coefficient_terms v e terms) d h.coefficient coefficient some h.is_coefficient is)
    (row-same v e h.row row h.is_row its) wide)

parts-stay : (v d : ℕ) (terms : List Term) (n : ℕ) (sum : Quotient) → 1 ≤ d → AreAdded v terms d n sum → AddingPasses v terms d n → ⊥
parts-stay v d terms zero sum some h passes = passes
parts-stay v d terms (suc e) sum some (before, part, (h, is, added)) (inl earlier) = parts-stay v d terms e before some h earlier
parts-stay v d terms (suc e) sum some (before, part, (h, is, added)) (inr (other, (g, inl wide))) = part-stays v e d terms part some is wide
parts-stay v d terms (suc e) sum some (before, part, (h, is, added)) (inr (other, (g, inr (piece, (its, wide))))) =
    not-le_of_lt added.narrow
    (of-same AdditionPasses before part other piece (parts-same v d terms e before other some h g) (part-same v e d terms part piece some is its) wide)

powers-stay : (v : ℕ) (summand sum : Quotient) → IsLegal summand → IsPowersSum v summand sum → PowersSumPasses v summand → ⊥
powers-stay v summand sum legal h (inl many) = many h.few_variables
powers-stay v summand sum legal h (inr wide) =
    parts-stay v summand.denominator (written_terms summand) (degree_of v (written_terms summand) + 1) sum legal.positive h.parts wide

summed-stays : (v : ℕ) (nest : List (AffineForm × AffineForm)) (sums : List Quotient) (total : Quotient) → AreSummed v nest sums total → SummationPasses v nest → ⊥
summed-stays v [] sums total h passes = passes
summed-stays v (b ∷ nest) [] total h passes = absurd h
summed-stays v (b ∷ nest) (s ∷ sums) total (summand, (behind, sum, between)) (inl later) = summed-stays (suc v) nest sums summand behind later
summed-stays v (b ∷ nest) (s ∷ sums) total (summand, (behind, sum, between)) (inr (others, other, (its, inl wide))) =
    powers-stay v summand s (summed-legal (suc v) nest sums summand behind) sum
    (subst (PowersSumPasses v) (sym (summed-one (suc v) nest sums others summand other behind its).1) wide)
summed-stays v (b ∷ nest) (s ∷ sums) total (summand, (behind, sum, between)) (inr (others, other, (its, inr (t, (powers, wide))))) =
    let same : summand ≡ other = (summed-one (suc v) nest sums others summand other behind its).1 in
    let first : s ≡ t = powers-same v summand s t (summed-legal (suc v) nest sums summand behind) sum (subst (λ (q : Quotient). IsPowersSum v q t) (sym same) powers) in
    between-stays v b s total (powers-legal v summand s sum) between (subst (BetweenPasses v b) (sym first) wide)

module _ (program : AffineProgram) (nest : List (AffineForm × AffineForm)) where
  abbrev params : ℕ
  params = length program.parameters

  -- the polynomials of a summation are one list
  pub made-one : (sums others : List Quotient) → AreMade params nest sums → AreMade params nest others → sums ≡ others
  made-one sums others h g = (summed-one params nest sums others h.0 g.0 h.1 g.1).0

  -- Where claims are right, and their polynomials those of the summation, no operation on these passes its limit.
  pub count-stays : (claims : SumClaims) (total : Quotient) → IsCount program nest claims total → AreMade params nest claims.sums → CheckPasses program nest → ⊥
  count-stays claims total right made (inl wide) = summed-stays params nest claims.sums made.0 made.1 wide
  count-stays claims total right made (inr (others, place, failed, (its, fails, wide))) =
      accepted-stand (sums_claims program nest others place (codes "sums")) failed
      (subst (λ (sums : List Quotient). AllHold (sums_claims program nest sums place (codes "sums"))) (made-one claims.sums others made its)
      (AllHold-right (numbered (range_claim program nest claims.shown place) 0 nest) (sums_claims program nest claims.sums place (codes "sums")) (count-claims program nest claims place total right)))
      fails
