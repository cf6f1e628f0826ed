-- What is claimed of a nest's number of points, as it is found.
use Rattle.std.specs.Prelude.{◌≡◌, ℕ, ◌<◌, List, length, take, Option, Some, None, Vec}
use Rattle.std.specs.Global.{Global}
use Rattle.std.specs.List.{AllByRecursion}
use Rattle.iolb_model.specs.Form.{AffineForm}
use Rattle.iolb_model.specs.Program.{AffineProgram}
use Rattle.affine_form.specs.declared.multipliers.Multipliers.{Multipliers}
use Rattle.affine_form.specs.Multipliers.{FarkasMultipliers}
use Rattle.flow_deps.specs.declared.wanted.Wanted.{Wanted}
use Rattle.flow_deps.specs.declared.wanted.Wanted.TheVariants.{Short}
use Rattle.flow_deps.specs.Answers.{IsAsShort}
use Rattle.int_sets.specs.ShortList.{HasShortList}
use Rattle.projective_bounds.specs.HeldColds.{ArePolynomials}
use Rattle.domain_count.specs.Made.{AreMade}
use Rattle.domain_count.specs.Claims.{SumClaims}
use Rattle.domain_count.specs.Count.{AreShownBelow, IsCount, bounds_at, range_goal, rows_before}
use Rattle.poly_tree.specs.Poly.{Quotient}
use Rattle.certificate_fit.specs.Limits.{NameRows}

-- ---- ranges

-- the range of a variable has a short list that shows it to be whole
abbrev pub HasShortRange : AffineProgram → List (AffineForm × AffineForm) → ℕ → Type 0
HasShortRange program nest k = HasShortList (rows_before program (take k nest)) (range_goal (rows_before program (take k nest)).vars (bounds_at nest k))

-- multipliers, one for each of so many variables, show that their ranges are whole, from rows below 128 and as short
-- as is wanted
pub record AreRanges (wanted : Wanted) (program : AffineProgram) (nest : List (AffineForm × AffineForm)) (count : ℕ) (shown : List FarkasMultipliers) : Type 0 where
  pub each : length shown ≡ count
  pub shown_below : AreShownBelow program nest shown count
  pub names : NameRows shown
  pub as_short : AllByRecursion (IsAsShort wanted) shown

-- what a search for them finds: those of all variables; or nothing, and then some range has no short list
abbrev pub FindsRanges : Wanted → AffineProgram → List (AffineForm × AffineForm) → Option (Vec Multipliers Global) → Type 0
FindsRanges wanted program nest None = (k : ℕ) × (k < length nest) × (¬ HasShortRange program nest k)
FindsRanges wanted program nest (Some shown) = AreRanges wanted program nest (length nest) shown.items

-- ---- counts

-- Claims of a nest's number of points: they are right, their polynomials are those of the summation, and their multipliers name
-- rows below 128 and are as short as is wanted.
pub record AreCounted (wanted : Wanted) (program : AffineProgram) (nest : List (AffineForm × AffineForm)) (claims : SumClaims) : Type 0 where
  pub total : Quotient
  pub right : IsCount program nest claims total
  pub each : length claims.shown ≡ length nest
  pub polynomials : ArePolynomials (length program.parameters) nest claims.sums
  pub made : AreMade (length program.parameters) nest claims.sums
  pub names : NameRows claims.shown
  pub as_short : AllByRecursion (IsAsShort wanted) claims.shown

-- what a search for them finds: them; or nothing, and then there are none with short lists
abbrev pub FindsCount : Wanted → AffineProgram → List (AffineForm × AffineForm) → Option SumClaims → Type 0
FindsCount wanted program nest None = (claims : SumClaims) → ¬ AreCounted Short program nest claims
FindsCount wanted program nest (Some claims) = AreCounted wanted program nest claims
