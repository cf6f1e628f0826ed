-- What is claimed of systems, and shown by multipliers: that goals follow from their rows, and that no point meets them all.
use Rattle.std.specs.Prelude.{ℕ, suc, ◌≤◌, List, [], ◌∷◌, ◌++◌, length}
use Rattle.iolb_model.specs.Form.{AffineForm}
use Rattle.iolb_model.specs.declared.limits.TheConstants.{ROWS}
use Rattle.affine_form.specs.Multipliers.{FarkasMultipliers}
use Rattle.affine_form.specs.Shown.{Shows, minus_one}
use Rattle.affine_form.specs.System.{AffineSystem}
use Rattle.claims.specs.Claims.{Claim}
use Rattle.claims.specs.declared.place.Step.{Step}
use Rattle.claims.specs.declared.place.Step.TheVariants.{Index}

-- the rows of a system are few
abbrev pub IsFew : ℕ → Type 0
IsFew rows = rows ≤ ROWS

-- multipliers show that a goal follows from a system
abbrev pub Follows : AffineSystem → AffineForm → FarkasMultipliers → Type 0
Follows system goal shown = (1 ≤ shown.scale) × Shows system goal shown

-- they show that no point meets all its rows
abbrev pub IsPointless : AffineSystem → FarkasMultipliers → Type 0
IsPointless system shown = (1 ≤ shown.scale) × Shows system (minus_one system.vars) shown

-- that the goals follow, each by its multipliers, which stand in a list at this place
abbrev pub follow_claims : ℕ → List Step → AffineSystem → ℕ → List AffineForm → List FarkasMultipliers → List Claim
follow_claims condition place system index [] shown = []
follow_claims condition place system index (goal ∷ goals) [] = []
follow_claims condition place system index (goal ∷ goals) (m ∷ shown) =
    record { condition = condition; place = place ++ Index index ∷ []; statement = Follows system goal m }
    ∷ follow_claims condition place system (suc index) goals shown

-- that the systems have few rows (condition 2) and no point, each by its multipliers, which stand in a list at this place
abbrev pub pointless_claims : ℕ → List Step → ℕ → List AffineSystem → List FarkasMultipliers → List Claim
pointless_claims condition place index [] shown = []
pointless_claims condition place index (system ∷ systems) [] = []
pointless_claims condition place index (system ∷ systems) (m ∷ shown) =
    record { condition = 2; place = place ++ Index index ∷ []; statement = IsFew (length system.rows) }
    ∷ record { condition = condition; place = place ++ Index index ∷ []; statement = IsPointless system m }
    ∷ pointless_claims condition place (suc index) systems shown
