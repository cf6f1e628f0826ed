-- The value of the sum of credits' counts, and the variables that it uses.
use Rattle.std.proofs.Common.{◌≡◌, refl, sym, ◌∙◌, ap, subst, ℕ, suc, ◌+◌, ◌*◌, ◌≤◌, List, [], ◌∷◌, length, map, arith, zero-add}
use Rattle.std.specs.Prelude.{sum_by}
use Rattle.std.specs.List.{AllByRecursion}
use Rattle.std.proofs.Math.IntN.{ℤ, pos, ◌+ℤ◌, ◌*ℤ◌}
use Rattle.std.proofs.lemmas.List.Sums.{sum_by-cons}
use Rattle.std.proofs.Math.Nat.{add-zero}
use Rattle.base_laws.proofs.Ring.{add-mul, mul_assoc_ℤ, mul_comm, mul-one}
use Rattle.iolb_model.specs.Form.{AffineForm}
use Rattle.iolb_model.specs.Program.{AffineProgram, IsWellFormed}
use Rattle.iolb_model.specs.Bound.{IsAdmitted}
use Rattle.affine_form.specs.Rows.{BoundsFit}
use Rattle.affine_program.specs.Parts.{ProgramParts}
use Rattle.claims.specs.Claims.{AllHold, numbered}
use Rattle.claims.specs.declared.place.Step.{Step}
use Rattle.claims.proofs.Laws.{AllHold-left, AllHold-right}
use Rattle.poly_tree.specs.Expansion.{IsCanonical, at}
use Rattle.poly_tree.specs.Poly.{Quotient, numerator_at}
use Rattle.poly_tree.proofs.Unique.{agree}
use Rattle.domain_count.specs.Count.{IsSumFrom, RightClaimsCount}
use Rattle.domain_count.specs.CountClaims.{count_claims}
use Rattle.domain_count.specs.Points.{count}
use Rattle.domain_count.proofs.Claimed.{claims-count, sums-same}
use Rattle.domain_count.proofs.Counting.{positive-from}
use Rattle.domain_count.proofs.Determined.{crossed}
use Rattle.domain_count.proofs.Fractions.{cancelled}
use Rattle.domain_count.proofs.Variables.{AgreeBelow, sums-use, uses-below}
use Rattle.reuse_paths.specs.declared.family.Credit.{Credit}
use Rattle.reuse_paths.specs.Families.{CreditedNest}
use Rattle.k_partition.specs.PartitionClaims.{credit_claims, credit_place, no_points, IsAdded, IsCreditsTotal}
use Rattle.k_partition.specs.Term.{CreditTerm}
use Rattle.k_partition.proofs.CreditSums.{product}
use Rattle.k_partition.specs.View.{credit_term_of, FitsCredit}
use Rattle.iolb_model.specs.declared.limits.TheConstants.{NEST_VARIABLES}

-- ---- the sum of two

-- two whole numbers over denominators, added
over-both : (x y b c : ℕ) → pos (x + y) *ℤ pos (b * c) ≡ (((pos x *ℤ pos b) *ℤ pos c) +ℤ ((pos y *ℤ pos c) *ℤ pos b)) *ℤ pos 1
over-both x y b c =
    add-mul (pos x) (pos y) (pos b *ℤ pos c)
    ∙ ap (λ (z : ℤ). z +ℤ (pos y *ℤ (pos b *ℤ pos c))) (sym (mul_assoc_ℤ (pos x) (pos b) (pos c)))
    ∙ ap (λ (z : ℤ). ((pos x *ℤ pos b) *ℤ pos c) +ℤ z) (ap (λ (z : ℤ). pos y *ℤ z) (mul_comm (pos b) (pos c)) ∙ sym (mul_assoc_ℤ (pos y) (pos c) (pos b)))
    ∙ sym (mul-one (((pos x *ℤ pos b) *ℤ pos c) +ℤ ((pos y *ℤ pos c) *ℤ pos b)))

added-value : (before count sum : Quotient) (values : List ℤ) (x y : ℕ) → 1 ≤ before.denominator → 1 ≤ count.denominator → IsAdded before count sum
    → numerator_at before values ≡ pos x *ℤ pos before.denominator → numerator_at count values ≡ pos y *ℤ pos count.denominator → numerator_at sum values ≡ pos (x + y) *ℤ pos sum.denominator
added-value before count sum values x y some more is e f =
    let both : ℤ = (numerator_at before values *ℤ pos count.denominator) +ℤ (numerator_at count values *ℤ pos before.denominator) in
    let given : both ≡ ((pos x *ℤ pos before.denominator) *ℤ pos count.denominator) +ℤ ((pos y *ℤ pos count.denominator) *ℤ pos before.denominator) =
    ap (λ (z : ℤ). (z *ℤ pos count.denominator) +ℤ (numerator_at count values *ℤ pos before.denominator)) e
    ∙ ap (λ (z : ℤ). ((pos x *ℤ pos before.denominator) *ℤ pos count.denominator) +ℤ (z *ℤ pos before.denominator)) f in
    sym (mul-one (numerator_at sum values))
    ∙ crossed (before.denominator * count.denominator) sum.denominator 1 (numerator_at sum values) (pos (x + y)) both (product before.denominator count.denominator some more) (is.is values)
    (over-both x y before.denominator count.denominator ∙ ap (λ (z : ℤ). z *ℤ pos 1) (sym given))

added-uses : (bound : ℕ) (before count sum : Quotient) → 1 ≤ before.denominator → 1 ≤ count.denominator → IsAdded before count sum → IsCanonical bound before.tree → IsCanonical bound count.tree
    → IsCanonical bound sum.tree
added-uses bound before count sum some more is one other =
    uses-below bound sum.tree is.legal.canonical
    (λ p q same. cancelled (before.denominator * count.denominator) (numerator_at sum p) (numerator_at sum q) (product before.denominator count.denominator some more)
    (is.is p ∙ ap (λ (z : ℤ). z *ℤ pos sum.denominator) (both p q same) ∙ sym (is.is q))) where
      both : (p q : List ℤ) → AgreeBelow bound p q → (numerator_at before p *ℤ pos count.denominator) +ℤ (numerator_at count p *ℤ pos before.denominator)
          ≡ (numerator_at before q *ℤ pos count.denominator) +ℤ (numerator_at count q *ℤ pos before.denominator)
      both p q same =
          ap (λ (z : ℤ). (z *ℤ pos count.denominator) +ℤ (numerator_at count p *ℤ pos before.denominator)) (agree bound before.tree (at p) (at q) one same)
          ∙ ap (λ (z : ℤ). (numerator_at before q *ℤ pos count.denominator) +ℤ (z *ℤ pos before.denominator)) (agree bound count.tree (at p) (at q) other same)

-- ---- the sum of credits' counts

-- a credit has few variables, and its bounds fit
abbrev Fits : ℕ → CreditTerm → Type 0
Fits parameters credit = (length credit.nest.nest ≤ NEST_VARIABLES) × BoundsFit parameters credit.nest.nest

count-uses : (parameters : ℕ) (credit : CreditTerm) (count : Quotient) → parameters ≤ 6 → Fits parameters credit → IsSumFrom parameters credit.nest.nest credit.count.sums count
    → IsCanonical parameters count.tree
count-uses parameters credit count few fits is = by credit.nest.nest credit.count.sums fits is where
  by : (nest : List (AffineForm × AffineForm)) (sums : List Quotient) → (length nest ≤ NEST_VARIABLES) × BoundsFit parameters nest → IsSumFrom parameters nest sums count → IsCanonical parameters count.tree
  by [] sums fits is = subst (λ (q : Quotient). IsCanonical parameters q.tree) (sym is) tt
  by (bounds ∷ nest) [] fits is = absurd is
  by (bounds ∷ nest) (sum ∷ sums) fits is = sums-use parameters (bounds ∷ nest) (sum ∷ sums) count is.1.1.between.less.legal (omega (arith, few, fits.0)) fits.1 is

pub total-uses : (parameters : ℕ) (before : Quotient) (credits : List CreditTerm) (total : Quotient) → parameters ≤ 6 → 1 ≤ before.denominator → IsCanonical parameters before.tree
    → AllByRecursion (Fits parameters) credits → IsCreditsTotal parameters before credits total → IsCanonical parameters total.tree
total-uses parameters before [] total few some uses fits is = subst (λ (q : Quotient). IsCanonical parameters q.tree) (sym is) uses
total-uses parameters before (credit ∷ credits) total few some uses fits is =
    let count : Quotient = is.0 in
    let sum : Quotient = is.1.1.0 in
    let added : IsAdded before count sum = is.1.1.1.0 in
    total-uses parameters sum credits total few added.legal.positive
    (added-uses parameters before count sum some (positive-from parameters credit.nest.nest credit.count.sums count is.1.0) added uses (count-uses parameters credit count few fits.0 is.1.0)) fits.1 is.1.1.1.1

-- what the counts of credits are
abbrev Counts : ℕ → List ℤ → CreditTerm → Type 0
Counts parameters values credit = (poly : Quotient) → IsSumFrom parameters credit.nest.nest credit.count.sums poly → numerator_at poly values ≡ pos (count credit.nest.nest values) *ℤ pos poly.denominator

total-value : (parameters : ℕ) (before : Quotient) (credits : List CreditTerm) (total : Quotient) (values : List ℤ) (x : ℕ) → 1 ≤ before.denominator
    → numerator_at before values ≡ pos x *ℤ pos before.denominator → AllByRecursion (Counts parameters values) credits → IsCreditsTotal parameters before credits total
    → numerator_at total values ≡ pos (x + sum_by (λ (credit : CreditedNest). count credit.nest values) (map (λ (credit : CreditTerm). credit.nest) credits)) *ℤ pos total.denominator
total-value parameters before [] total values x some e counts is =
    subst (λ (q : Quotient). numerator_at q values ≡ pos (x + 0) *ℤ pos q.denominator) (sym is) (subst (λ (n : ℕ). numerator_at before values ≡ pos n *ℤ pos before.denominator) (sym (add-zero x)) e)
total-value parameters before (credit ∷ credits) total values x some e counts is =
    let poly : Quotient = is.0 in
    let sum : Quotient = is.1.1.0 in
    let added : IsAdded before poly sum = is.1.1.1.0 in
    let here : ℕ = count credit.nest.nest values in
    let later : List CreditedNest = map (λ (c : CreditTerm). c.nest) credits in
    subst (λ (n : ℕ). numerator_at total values ≡ pos n *ℤ pos total.denominator)
    (joined x here (sum_by points-of later) (sum_by points-of (credit.nest ∷ later)) (sum_by-cons points-of credit.nest later))
    (total-value parameters sum credits total values (x + here) added.legal.positive
    (added-value before poly sum values x here some (positive-from parameters credit.nest.nest credit.count.sums poly is.1.0) added e (counts.0 poly is.1.0)) counts.1 is.1.1.1.1) where
      points-of : CreditedNest → ℕ
      points-of nest = count nest.nest values

      joined : (a b c d : ℕ) → d ≡ b + c → (a + b) + c ≡ a + d
      joined a b c d e = omega (arith, e)

-- claims of credits give their counts
counts-from : (program : AffineProgram) (place : List Step) (all : List CreditTerm) (index : ℕ) (credits : List CreditTerm) (values : List ℤ) → IsWellFormed program → IsAdmitted program values
    → RightClaimsCount → AllByRecursion (Fits (length program.parameters)) credits → AllHold (numbered (credit_claims program place all) index credits)
    → AllByRecursion (Counts (length program.parameters) values) credits
counts-from program place all index [] values formed admitted law fits h = tt
counts-from program place all index (credit ∷ credits) values formed admitted law fits h = (
  λ poly is.
      let given = claims-count program credit.nest.nest credit.count (credit_place place index) (AllHold-left (count_claims program credit.nest.nest credit.count (credit_place place index)) _
      (AllHold-left (credit_claims program place all index credit) (numbered (credit_claims program place all) (suc index) credits) h)) in
      subst (λ (q : Quotient). numerator_at q values ≡ pos (count credit.nest.nest values) *ℤ pos q.denominator)
      (sums-same (length program.parameters) credit.nest.nest credit.count.sums given.0 poly given.1.sums is)
      (law program credit.nest.nest credit.count given.0 formed fits.0.1 given.1 values admitted),
  counts-from program place all (suc index) credits values formed admitted law fits.1
      (AllHold-right (credit_claims program place all index credit) (numbered (credit_claims program place all) (suc index) credits) h),
)

-- credits that the code holds fit
pub credits-fit : (program : ProgramParts) (credits : List Credit) → AllByRecursion (FitsCredit program) credits → AllByRecursion (Fits (length program.params)) (map credit_term_of credits)
credits-fit program [] h = tt
credits-fit program (credit ∷ credits) h = ((h.0.few, h.0.bounds), credits-fit program credits h.1)

pub credits-value : (program : AffineProgram) (place : List Step) (credits : List CreditTerm) (total : Quotient) (values : List ℤ) → IsWellFormed program → IsAdmitted program values → RightClaimsCount
    → AllByRecursion (Fits (length program.parameters)) credits → AllHold (numbered (credit_claims program place credits) 0 credits) → IsCreditsTotal (length program.parameters) no_points credits total
    → numerator_at total values ≡ pos (sum_by (λ (credit : CreditedNest). count credit.nest values) (map (λ (credit : CreditTerm). credit.nest) credits)) *ℤ pos total.denominator
credits-value program place credits total values formed admitted law fits h is =
    subst (λ (n : ℕ). numerator_at total values ≡ pos n *ℤ pos total.denominator) (zero-add (sum_by (λ (credit : CreditedNest). count credit.nest values) (map (λ (credit : CreditTerm). credit.nest) credits)))
    (total-value (length program.parameters) no_points credits total values 0 (omega arith) refl (counts-from program place credits 0 credits values formed admitted law fits h) is)
