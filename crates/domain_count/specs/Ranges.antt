-- Which ranges of a nest are shown to be whole.
use Rattle.std.specs.Prelude.{ℕ, ◌<◌, List, length, take}
use Rattle.iolb_model.specs.Form.{AffineForm}
use Rattle.iolb_model.specs.Program.{AffineProgram}
use Rattle.affine_form.specs.Multipliers.{FarkasMultipliers}
use Rattle.poly_tree.specs.Poly.{Quotient}
use Rattle.int_sets.specs.ShortList.{HasShortList}
use Rattle.domain_count.specs.Claims.{SumClaims}
use Rattle.domain_count.specs.Count.{IsCount, ShowsRange, bounds_at, range_goal, rows_before}

-- some multipliers show that the range of the variable with this number is whole, from the assumptions and the rows of the
-- variables before it
abbrev pub IsShownSomehow : AffineProgram → List (AffineForm × AffineForm) → ℕ → Type 0
IsShownSomehow program nest k = (shown : FarkasMultipliers) × ShowsRange program (take k nest) (bounds_at nest k) shown

-- The range of the variable with this number is the first that isn't shown: those before it are, and no short list of
-- multipliers shows this one.
pub record IsFirstNotShown (program : AffineProgram) (nest : List (AffineForm × AffineForm)) (k : ℕ) : Type 0 where
  pub there : k < length nest
  pub before : (j : ℕ) → j < k → IsShownSomehow program nest j
  pub no_list : ¬ HasShortList (rows_before program (take k nest)) (range_goal (rows_before program (take k nest)).vars (bounds_at nest k))

-- all ranges are shown
abbrev pub AreAllShown : AffineProgram → List (AffineForm × AffineForm) → Type 0
AreAllShown program nest = (k : ℕ) → k < length nest → IsShownSomehow program nest k

-- The claims of a nest's number of points are right: they give a polynomial, which counts the points.
abbrev pub AreRight : AffineProgram → List (AffineForm × AffineForm) → SumClaims → Type 0
AreRight program nest claims = (total : Quotient) × IsCount program nest claims total
