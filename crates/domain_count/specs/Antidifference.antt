-- Sums of polynomials over a variable, by antidifferences. (The finite calculus: Boole 1860; Graham, Knuth and
-- Patashnik, Concrete Mathematics, section 2.6.) Each operation has a measure of how large its answer may be, and has no
-- answer past its limit.
use Rattle.std.specs.Prelude.{◌⊎◌, ℕ, ◌*◌, ◌<◌, ◌≤◌, pos, ◌-ℤ◌, ⊤}
use Rattle.iolb_model.specs.Form.{AffineForm}
use Rattle.poly_tree.specs.Poly.{Quotient, IsLegal, IsShiftOf, IsDifferenceOf, IsSubstitutionOf, SameValues, ShiftPassesDegree, SubstitutionPassesDegree, form_size, put_size, size}
use Rattle.domain_count.specs.declared.summation.SumFault.{SumFault}
use Rattle.domain_count.specs.declared.summation.SumFault.TheVariants.{Wide, Differs, Memory}
use Rattle.iolb_model.specs.declared.limits.TheConstants.{MEASURE, SUM_MEASURE}

-- a form less 1
abbrev pub less_one : AffineForm → AffineForm
less_one form = record form { constant = form.constant -ℤ pos 1 }

-- a polynomial with x - 1 for a variable x
pub record IsShifted (var : ℕ) (sum shifted : Quotient) : Type 0 where
  pub narrow : put_size sum var 2 < MEASURE
  pub legal : IsLegal shifted
  pub value : IsShiftOf sum var shifted

abbrev pub ShiftPasses : ℕ → Quotient → Type 0
ShiftPasses var sum = (MEASURE ≤ put_size sum var 2) ⊎ ShiftPassesDegree sum var

-- a polynomial minus another
pub record IsSubtracted (a b less : Quotient) : Type 0 where
  pub narrow : size a * size b < SUM_MEASURE
  pub legal : IsLegal less
  pub value : IsDifferenceOf a b less

abbrev pub SubtractionPasses : Quotient → Quotient → Type 0
SubtractionPasses a b = SUM_MEASURE ≤ size a * size b

-- a polynomial with a form for a variable
pub record IsSubstituted (var : ℕ) (form : AffineForm) (sum at_form : Quotient) : Type 0 where
  pub narrow : put_size sum var (form_size form) < MEASURE
  pub legal : IsLegal at_form
  pub value : IsSubstitutionOf sum var form at_form

abbrev pub SubstitutionPasses : ℕ → AffineForm → Quotient → Type 0
SubstitutionPasses var form sum = (MEASURE ≤ put_size sum var (form_size form)) ⊎ SubstitutionPassesDegree sum var form

-- the backward difference of a polynomial in a variable: the polynomial minus its shift
pub record IsBackwardDifference (var : ℕ) (sum difference : Quotient) : Type 0 where
  pub shifted : Quotient
  pub shift : IsShifted var sum shifted
  pub less : IsSubtracted sum shifted difference

-- one of the two operations passes its limit
abbrev pub DifferencePasses : ℕ → Quotient → Type 0
DifferencePasses var sum = ShiftPasses var sum ⊎ ((shifted : Quotient) × (IsShifted var sum shifted × SubtractionPasses sum shifted))

-- an antidifference of a polynomial in a variable: its backward difference is that polynomial
pub record IsAntidifference (var : ℕ) (summand sum : Quotient) : Type 0 where
  pub difference : Quotient
  pub backward : IsBackwardDifference var sum difference
  pub same : SameValues difference summand

-- it isn't one: its backward difference is another polynomial
pub record IsNoAntidifference (var : ℕ) (summand sum : Quotient) : Type 0 where
  pub difference : Quotient
  pub backward : IsBackwardDifference var sum difference
  pub other : ¬ SameValues difference summand

-- a sum between bounds, by an antidifference: its value at the upper form, minus its value at the lower form less 1
pub record IsBetween (var : ℕ) (bounds : AffineForm × AffineForm) (sum total : Quotient) : Type 0 where
  pub upper : Quotient
  pub lower : Quotient
  pub at_upper : IsSubstituted var bounds.1 sum upper
  pub at_lower : IsSubstituted var (less_one bounds.0) sum lower
  pub less : IsSubtracted upper lower total

-- one of the three operations passes its limit, those before it not
abbrev pub BetweenPasses : ℕ → AffineForm × AffineForm → Quotient → Type 0
BetweenPasses var bounds sum =
    SubstitutionPasses var bounds.1 sum ⊎ ((upper : Quotient) × (IsSubstituted var bounds.1 sum upper
    × (SubstitutionPasses var (less_one bounds.0) sum ⊎ ((lower : Quotient) × (IsSubstituted var (less_one bounds.0) sum lower
    × SubtractionPasses upper lower)))))

-- the sum of a summand over a variable between bounds, by an antidifference of it
pub record IsSummed (var : ℕ) (bounds : AffineForm × AffineForm) (summand sum total : Quotient) : Type 0 where
  pub legal : IsLegal sum
  pub antidifference : IsAntidifference var summand sum
  pub between : IsBetween var bounds sum total

-- the summation fails in this way: an operation passes its limit, or the sum is no antidifference, which is seen before
-- the bounds are put in
abbrev pub FailsAs : ℕ → AffineForm × AffineForm → Quotient → Quotient → SumFault → Type 0
FailsAs var bounds summand sum Wide = DifferencePasses var sum ⊎ (IsAntidifference var summand sum × BetweenPasses var bounds sum)
FailsAs var bounds summand sum Differs = IsNoAntidifference var summand sum
FailsAs var bounds summand sum Memory = ⊤
