-- Counting the points of a nest by summation, variable by variable from the last. (Graham, Knuth and Patashnik, Concrete
-- Mathematics, section 2.6.) A range is whole where its upper end is at least its lower end less 1, so that it has
-- `upper - lower + 1` values; sums by antidifferences are right over whole ranges alone.
use Rattle.std.specs.Prelude.{◌≡◌, ℕ, suc, ◌+◌, ◌<◌, ◌≤◌, ℤ, pos, ◌*ℤ◌, List, [], ◌∷◌, ◌++◌, map, length, take, slice_index_or}
use Rattle.iolb_model.specs.Form.{AffineForm}
use Rattle.iolb_model.specs.Program.{AffineProgram, IsWellFormed}
use Rattle.iolb_model.specs.Bound.{IsAdmitted}
use Rattle.affine_form.specs.Multipliers.{FarkasMultipliers}
use Rattle.affine_form.specs.Shown.{Shows}
use Rattle.affine_form.specs.System.{AffineSystem}
use Rattle.affine_form.specs.Rows.{BoundsFit, widened, variables_from, difference, within_rows}
use Rattle.poly_tree.specs.Expansion.{number}
use Rattle.poly_tree.specs.Poly.{Quotient, numerator_at}
use Rattle.domain_count.specs.Points.{count}
use Rattle.domain_count.specs.Claims.{SumClaims}
use Rattle.domain_count.specs.Antidifference.{IsSummed}

-- The rows that hold where a variable begins, over the parameters and the variables before it: the assumptions, and
-- `x - lower` and `upper - x` for each variable before.
abbrev pub rows_before : AffineProgram → List (AffineForm × AffineForm) → AffineSystem
rows_before program before =
    let params = length program.parameters in let vars = params + length before in record {
      vars = vars;
      rows = map (widened vars) program.assumptions
          ++ within_rows vars before (variables_from vars 0 params) (variables_from vars params (length before));
    }

-- the goal that a variable's range is whole: `upper - lower + 1`
abbrev pub range_goal : ℕ → AffineForm × AffineForm → AffineForm
range_goal vars bounds = difference vars bounds.1 bounds.0 (pos 1)

-- what stands at a place; a place that isn't there isn't asked for
abbrev pub bounds_at : List (AffineForm × AffineForm) → ℕ → AffineForm × AffineForm
bounds_at nest k = slice_index_or nest k (record { coefficients = []; constant = pos 0 }, record { coefficients = []; constant = pos 0 })

abbrev pub multipliers_at : List FarkasMultipliers → ℕ → FarkasMultipliers
multipliers_at shown k = slice_index_or shown k (record { scale = 1; rest = 0; weights = [] })

-- multipliers show that the range of a variable behind others is whole
abbrev pub ShowsRange : AffineProgram → List (AffineForm × AffineForm) → AffineForm × AffineForm → FarkasMultipliers → Type 0
ShowsRange program before bounds shown =
    (1 ≤ shown.scale) × Shows (rows_before program before) (range_goal (length program.parameters + length before) bounds) shown

-- those of the variable with this number do
abbrev pub IsShown : AffineProgram → List (AffineForm × AffineForm) → List FarkasMultipliers → ℕ → Type 0
IsShown program nest shown k = ShowsRange program (take k nest) (bounds_at nest k) (multipliers_at shown k)

-- those of the variables before this one do
abbrev pub AreShownBelow : AffineProgram → List (AffineForm × AffineForm) → List FarkasMultipliers → ℕ → Type 0
AreShownBelow program nest shown bound = (k : ℕ) → k < bound → IsShown program nest shown k

-- the polynomial 1
abbrev pub one : Quotient
one = record { tree = number (pos 1); denominator = 1 }

-- The polynomial that the sums give for the variables from one on, which has this number: 1 where there is none; else
-- the sum over the first of them of what they give for those behind it.
abbrev pub IsSumFrom : ℕ → List (AffineForm × AffineForm) → List Quotient → Quotient → Type 0
IsSumFrom var [] sums total = total ≡ one
IsSumFrom var (bounds ∷ nest) [] total = ⊥
IsSumFrom var (bounds ∷ nest) (sum ∷ sums) total =
    (summand : Quotient) × (IsSumFrom (suc var) nest sums summand × IsSummed var bounds summand sum total)

-- the claims are right, and this is the polynomial that they give
pub record IsCount (program : AffineProgram) (nest : List (AffineForm × AffineForm)) (claims : SumClaims) (total : Quotient) : Type 0 where
  pub shown : AreShownBelow program nest claims.shown (length nest)
  pub sums : IsSumFrom (length program.parameters) nest claims.sums total

-- A polynomial counts the points of a nest: at all parameter values that meet the program's assumptions, of any size, its
-- value is how many points the nest has, stated without fractions.
abbrev pub CountsPoints : AffineProgram → List (AffineForm × AffineForm) → Quotient → Type 0
CountsPoints program nest poly = (values : List ℤ) → IsAdmitted program values
    → numerator_at poly values ≡ pos (count nest values) *ℤ pos poly.denominator

-- What right claims give counts the points of a nest whose forms are over the parameters and the variables before.
abbrev pub RightClaimsCount : Type 0
RightClaimsCount = (program : AffineProgram) (nest : List (AffineForm × AffineForm)) (claims : SumClaims) (total : Quotient)
    → IsWellFormed program → BoundsFit (length program.parameters) nest → IsCount program nest claims total → CountsPoints program nest total

-- So does what polynomials of their own sum over a nest's first variables, so many of them, where the nest's ranges are whole.
abbrev pub FirstVariablesAreCounted : Type 0
FirstVariablesAreCounted = (program : AffineProgram) (outer : ℕ) (nest : List (AffineForm × AffineForm)) (shown : List FarkasMultipliers) (sums : List Quotient) (total : Quotient)
    → IsWellFormed program → BoundsFit (length program.parameters) nest → outer ≤ length nest → AreShownBelow program nest shown (length nest)
    → IsSumFrom (length program.parameters) (take outer nest) sums total → CountsPoints program (take outer nest) total
