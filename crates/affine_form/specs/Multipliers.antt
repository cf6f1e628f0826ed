-- Farkas multipliers. (Farkas 1902; Schrijver 1986, Theory of Linear and Integer Programming.)
use Rattle.std.specs.Prelude.{ℕ, ◌≤◌, ◌<◌, List, [], ◌∷◌}
use Rattle.std.specs.List.{AllByRecursion}
use Rattle.iolb_model.specs.declared.limits.TheConstants.{MULTIPLIER_SIZE}

-- Multipliers: `scale` times a goal is to be `rest` plus each named row times its weight. A weight is a row's number
-- and the row's multiplier.
pub record FarkasMultipliers : Type 0 where
  pub scale : ℕ
  pub rest : ℕ
  pub weights : List (ℕ × ℕ)

-- each weight names a later row than those before it
abbrev pub RowsRise : List (ℕ × ℕ) → Type 0
RowsRise [] = Unit {0}
RowsRise (weight ∷ weights) = AllByRecursion (λ (later : ℕ × ℕ). weight.0 < later.0) weights × RowsRise weights

-- a multiplier of a row is at least 1 and below 2^48
abbrev pub IsWeight : ℕ × ℕ → Type 0
IsWeight weight = (1 ≤ weight.1) × (weight.1 < MULTIPLIER_SIZE)
