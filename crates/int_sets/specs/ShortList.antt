-- Short lists of Farkas multipliers. (Farkas 1902; Schrijver 1986, Theory of Linear and Integer Programming. Only the sound
-- direction is used: what multipliers show holds.)
use Rattle.std.specs.Prelude.{◌≡◌, ◌≢◌, ℕ, ◌≤◌, ◌<◌, ⊤, List, [], ◌∷◌, length}
use Rattle.std.specs.List.{AllByRecursion}
use Rattle.iolb_model.specs.Form.{AffineForm}
use Rattle.affine_form.specs.Multipliers.{FarkasMultipliers}
use Rattle.affine_form.specs.Shown.{Shows}
use Rattle.affine_form.specs.System.{AffineSystem}
use Rattle.iolb_model.specs.declared.limits.TheConstants.{MULTIPLIER_SIZE}

-- a row is taken once or twice
abbrev pub IsOnceOrTwice : ℕ × ℕ → Type 0
IsOnceOrTwice weight = (1 ≤ weight.1) × (weight.1 ≤ 2)

-- no two weights name the same row; in which order they stand doesn't matter
abbrev pub RowsDiffer : List (ℕ × ℕ) → Type 0
RowsDiffer [] = ⊤
RowsDiffer (weight ∷ weights) = AllByRecursion (λ (other : ℕ × ℕ). weight.0 ≢ other.0) weights × RowsDiffer weights

-- A short list: the goal itself is to be a number from 0 below 2^48, and at most four different rows, each once or twice.
pub record IsShort (list : FarkasMultipliers) : Type 0 where
  pub scale : list.scale ≡ 1
  pub rest : list.rest < MULTIPLIER_SIZE
  pub few : length list.weights ≤ 4
  pub taken : AllByRecursion IsOnceOrTwice list.weights
  pub different : RowsDiffer list.weights

-- some short list shows the goal from the system's rows
abbrev pub HasShortList : AffineSystem → AffineForm → Type 0
HasShortList system goal = (list : FarkasMultipliers) × IsShort list × Shows system goal list
