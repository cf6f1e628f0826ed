-- The order of a summation, operation by operation, from a nest's last variable to its first. (The finite calculus: Boole 1860;
-- Graham, Knuth and Patashnik, Concrete Mathematics, section 2.6; sums of powers: Faulhaber 1631.) The polynomial of a variable
-- is the sum over e, from 0 on and added to zero, of the coefficient of the variable's power e in what the variables behind it
-- count, times the sum of the e-th powers at the variable. What the variables from this one on count is that polynomial at the
-- upper form, minus it at the lower form less 1. Each operation has the measure that polynomials have for it, and no result past
-- its limit.
use Rattle.std.specs.Prelude.{◌≡◌, ◌⊎◌, ℕ, zero, suc, ◌+◌, ◌*◌, ◌<◌, ◌≤◌, ℤ, pos, unsigned_abs, List, [], ◌∷◌}
use Rattle.iolb_model.specs.Form.{AffineForm}
use Rattle.iolb_model.specs.Polynomial.{Term}
use Rattle.power_sums.specs.PowerSum.{IsPowerSum}
use Rattle.poly_tree.specs.Expansion.{IsCanonical}
use Rattle.poly_tree.specs.Poly.{Quotient, IsForm, IsLegal, IsProductOf, IsSumOf, ProductPassesDegree, size}
use Rattle.poly_tree.specs.Printed.{written_terms}
use Rattle.poly_tree.specs.Terms.{IsTermsOver, terms_size}
use Rattle.domain_count.specs.Antidifference.{BetweenPasses, IsBetween}
use Rattle.domain_count.specs.Coefficients.{coefficient_terms, degree_of, power_terms}
use Rattle.iolb_model.specs.declared.limits.TheConstants.{MEASURE, SUM_MEASURE, VARIABLES}
use Rattle.power_sums.specs.declared.row.TheConstants.{ROW_COUNT}

-- a polynomial that is a number
pub record IsConstant (number : ℤ) (q : Quotient) : Type 0 where
  pub form : IsForm (record { coefficients = []; constant = number }) q
  pub legal : IsLegal q

-- a polynomial made of terms over a denominator
pub record IsMade (terms : List Term) (denominator : ℕ) (q : Quotient) : Type 0 where
  pub narrow : terms_size terms denominator < MEASURE
  pub legal : IsLegal q
  pub value : IsTermsOver terms denominator q

abbrev pub MakingPasses : List Term → ℕ → Type 0
MakingPasses terms denominator = MEASURE ≤ terms_size terms denominator

-- a product
pub record IsMultiplied (a b product : Quotient) : Type 0 where
  pub narrow : size a * size b < MEASURE
  pub legal : IsLegal product
  pub value : IsProductOf a b product

abbrev pub MultiplicationPasses : Quotient → Quotient → Type 0
MultiplicationPasses a b = (MEASURE ≤ size a * size b) ⊎ ProductPassesDegree a b

-- a sum
pub record IsAdded (a b total : Quotient) : Type 0 where
  pub narrow : size a * size b < SUM_MEASURE
  pub legal : IsLegal total
  pub value : IsSumOf a b total

abbrev pub AdditionPasses : Quotient → Quotient → Type 0
AdditionPasses a b = SUM_MEASURE ≤ size a * size b

-- the sum of the e-th powers up to a variable, by the table of power sums
pub record IsPowerRow (v e : ℕ) (row : Quotient) : Type 0 where
  pub in_table : e < ROW_COUNT
  pub num : List ℤ
  pub den : ℤ
  pub sum : IsPowerSum e num den
  pub made : IsMade (power_terms v 0 num) (unsigned_abs den) row

-- there is none, for a power past the table, or it passes the limit
abbrev pub PowerRowPasses : ℕ → ℕ → Type 0
PowerRowPasses v e = (ROW_COUNT ≤ e) ⊎ ((num : List ℤ) × (den : ℤ) × (IsPowerSum e num den × MakingPasses (power_terms v 0 num) (unsigned_abs den)))

-- the coefficient of a variable's power e, times the sum of the e-th powers
pub record IsPart (v e : ℕ) (terms : List Term) (denominator : ℕ) (part : Quotient) : Type 0 where
  pub coefficient : Quotient
  pub row : Quotient
  pub is_coefficient : IsMade (coefficient_terms v e terms) denominator coefficient
  pub is_row : IsPowerRow v e row
  pub product : IsMultiplied coefficient row part

abbrev pub PartPasses : ℕ → ℕ → List Term → ℕ → Type 0
PartPasses v e terms denominator =
    MakingPasses (coefficient_terms v e terms) denominator
    ⊎ ((coefficient : Quotient) × (IsMade (coefficient_terms v e terms) denominator coefficient
    × (PowerRowPasses v e ⊎ ((row : Quotient) × (IsPowerRow v e row × MultiplicationPasses coefficient row)))))

-- so many of these parts, from the power 0 on, added to zero
abbrev pub AreAdded : ℕ → List Term → ℕ → ℕ → Quotient → Type 0
AreAdded v terms denominator zero sum = IsConstant (pos 0) sum
AreAdded v terms denominator (suc e) sum =
    (before : Quotient) × (part : Quotient) × (AreAdded v terms denominator e before × IsPart v e terms denominator part × IsAdded before part sum)

-- an operation passes its limit, those before it not
abbrev pub AddingPasses : ℕ → List Term → ℕ → ℕ → Type 0
AddingPasses v terms denominator zero = ⊥
AddingPasses v terms denominator (suc e) =
    AddingPasses v terms denominator e ⊎ ((before : Quotient) × (AreAdded v terms denominator e before
    × (PartPasses v e terms denominator ⊎ ((part : Quotient) × (IsPart v e terms denominator part × AdditionPasses before part)))))

-- the polynomial of a variable, for what the variables behind it count, which has few enough variables to be made of terms
pub record IsPowersSum (v : ℕ) (summand sum : Quotient) : Type 0 where
  pub few_variables : IsCanonical VARIABLES summand.tree
  pub parts : AreAdded v (written_terms summand) summand.denominator (degree_of v (written_terms summand) + 1) sum

-- an operation on the way there passes its limit, or the polynomial has too many variables to be made of terms
abbrev pub PowersSumPasses : ℕ → Quotient → Type 0
PowersSumPasses v summand =
    (¬ IsCanonical VARIABLES summand.tree) ⊎ AddingPasses v (written_terms summand) summand.denominator (degree_of v (written_terms summand) + 1)

-- the polynomials of the variables from one on, which has this number, and what these variables count
abbrev pub AreSummed : ℕ → List (AffineForm × AffineForm) → List Quotient → Quotient → Type 0
AreSummed v [] sums total = (sums ≡ []) × IsConstant (pos 1) total
AreSummed v (bounds ∷ nest) [] total = ⊥
AreSummed v (bounds ∷ nest) (sum ∷ sums) total =
    (summand : Quotient) × (AreSummed (suc v) nest sums summand × IsPowersSum v summand sum × IsBetween v bounds sum total)

-- an operation of the summation passes its limit, those before it not
abbrev pub SummationPasses : ℕ → List (AffineForm × AffineForm) → Type 0
SummationPasses v [] = ⊥
SummationPasses v (bounds ∷ nest) =
    SummationPasses (suc v) nest ⊎ ((sums : List Quotient) × (summand : Quotient) × (AreSummed (suc v) nest sums summand
    × (PowersSumPasses v summand ⊎ ((sum : Quotient) × (IsPowersSum v summand sum × BetweenPasses v bounds sum)))))
