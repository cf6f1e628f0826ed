-- Halves of short lists: at most two rows, each once or twice.
use Rattle.std.specs.Prelude.{◌≡◌, ℕ, ◌*◌, ◌≤◌, ◌<◌, pos, unsigned_abs, List, [], ◌∷◌, ◌++◌, ◌⊎◌, length, take}
use Rattle.std.specs.List.{AllByRecursion}
use Rattle.iolb_model.specs.Form.{AffineForm}
use Rattle.affine_form.specs.Combination.{combination, constant_form}
use Rattle.affine_form.specs.Multipliers.{RowsRise}
use Rattle.affine_form.specs.Shown.{weighted_rows, NamesRows, Shows}
use Rattle.affine_form.specs.System.{AffineSystem}
use Rattle.int_sets.specs.ShortList.{IsOnceOrTwice}
use Rattle.int_sets.specs.Fingerprint.{value_at_point, VALUE_LIMIT}
use Rattle.int_sets.specs.declared.half.Half.{Half}
use Rattle.iolb_model.specs.declared.limits.TheConstants.{COEFFICIENT_SIZE, MULTIPLIER_SIZE}

-- the rows of a half, each with its multiplier
abbrev pub weights_of : Half → List (ℕ × ℕ)
weights_of half = take half.count half.rows

-- the sum of rows, each times its multiplier
abbrev pub sum_of : List AffineForm → List (ℕ × ℕ) → AffineForm
sum_of rows weights = combination (weighted_rows rows weights) (constant_form 0 (pos 0))

-- At most two rows, each once or twice, with the fingerprint and the constant of their sum.
pub record IsHalf (rows : List AffineForm) (half : Half) : Type 0 where
  pub two : length half.rows ≡ 2
  pub few : half.count ≤ 2
  pub taken : AllByRecursion IsOnceOrTwice (weights_of half)
  pub value : half.value ≡ value_at_point (sum_of rows (weights_of half))
  pub constant : half.constant ≡ (sum_of rows (weights_of half)).constant
  pub small_value : unsigned_abs half.value ≤ half.count * (2 * VALUE_LIMIT)
  pub small_constant : unsigned_abs half.constant ≤ half.count * (2 * COEFFICIENT_SIZE)

-- some half has these weights
abbrev pub Holds : List Half → List (ℕ × ℕ) → Type 0
Holds [] weights = ⊥
Holds (half ∷ halves) weights = (weights_of half ≡ weights) ⊎ Holds halves weights

-- each list of at most so many of these rows, rising, each once or twice, is a half's
abbrev pub HoldUpTo : ℕ → List AffineForm → List Half → Type 0
HoldUpTo count rows halves = (weights : List (ℕ × ℕ)) → length weights ≤ count → NamesRows rows weights
    → AllByRecursion IsOnceOrTwice weights → RowsRise weights → Holds halves weights

-- the goal is shown by the rows of a half, those of a later one behind them, and some number below 2^48
pub record Joins (system : AffineSystem) (goal : AffineForm) (first second : Half) (rest : ℕ) : Type 0 where
  pub small : rest < MULTIPLIER_SIZE
  pub rising : RowsRise (weights_of first ++ weights_of second)
  pub shows : Shows system goal (record { scale = 1; rest = rest; weights = weights_of first ++ weights_of second })

-- no number makes it so
abbrev pub NeverJoins : AffineSystem → AffineForm → Half → Half → Type 0
NeverJoins system goal first second = (rest : ℕ) → Joins system goal first second rest → ⊥

-- a half's row, with each row behind it that is the only one of some other half, is held
abbrev pub PairsWith : Half → List Half → List Half → Type 0
PairsWith first small halves = (v w : ℕ × ℕ) → weights_of first ≡ v ∷ [] → v.0 < w.0 → Holds small (w ∷ []) → Holds halves (v ∷ w ∷ [])
