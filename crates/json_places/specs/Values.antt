-- Where the values of JSON texts stand, by what stands before them.
use Rattle.std.specs.Prelude.{◌≡◌, ◌≤◌, ◌<◌, ℕ, zero, suc, Bool, ◌==◌, ◌||◌, IsTrue, List, [], ◌∷◌, slice_index}
use Rattle.claims.specs.declared.place.Step.{Step}
use Rattle.claims.specs.declared.place.Step.TheVariants.{Key, Index}

-- whether a byte stands between the parts of a text
abbrev pub is_blank : ℕ → Bool
is_blank byte = (byte == 32) || (byte == 9) || (byte == 10) || (byte == 13)

-- the bytes from one place of a text to another are blank
abbrev pub AreBlank : List ℕ → ℕ → ℕ → Type 0
AreBlank text from to = (k : ℕ) → from ≤ k → k < to → IsTrue (is_blank (slice_index text k))

-- what begins at a place stands behind this byte, with nothing but blanks between
pub record StandsBehind (text : List ℕ) (byte place : ℕ) : Type 0 where
  pub front : ℕ
  pub before : front < place
  pub byte_is : slice_index text front ≡ byte
  pub blank : AreBlank text (suc front) place

-- The byte behind which the value of a step stands: a key's behind a colon, the first of a list behind a bracket, and another
-- behind a comma.
abbrev pub opener : Step → ℕ
opener (Key key) = 58
opener (Index zero) = 91
opener (Index (suc index)) = 44

-- what begins at a place stands where the value at the end of these steps does: behind what the last step calls for, or, where there
-- is no step, first of all
abbrev pub StandsAt : List ℕ → List Step → ℕ → Type 0
StandsAt text [] place = AreBlank text 0 place
StandsAt text (step ∷ []) place = StandsBehind text (opener step) place
StandsAt text (step ∷ next ∷ steps) place = StandsAt text (next ∷ steps) place
