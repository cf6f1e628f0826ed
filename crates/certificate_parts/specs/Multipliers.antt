-- The texts of multipliers: the scale, the number beside the rows, then each row's number and multiplier.
use Rattle.std.specs.Prelude.{ℕ, ◌+◌, ◌-◌, ◌%◌, ◌<◌, ◌≤◌, ◌==◌, ◌&&◌, List, [], ◌∷◌, length, Bool, true, false, nat_le, if◌then◌else◌, Ok, IfOk}
use Rattle.std.proofs.Common.{arith}
use Rattle.std.specs.List.{AllByRecursion}
use Rattle.iolb_model.specs.declared.limits.TheConstants.{MULTIPLIER_SIZE}
use Rattle.affine_form.specs.Multipliers.{FarkasMultipliers}
use Rattle.claims.specs.declared.place.Step.TheVariants.{Index}
use Rattle.certificate_fit.specs.Limits.{NamesRows}
use Rattle.serde_json.specs.Data.{Data}
use Rattle.json_parts.specs.Given.{given_natural, given_then, given_behind, given_under, given_if}
use Rattle.json_parts.specs.Json.{reads_list, reads_natural}
use Rattle.json_parts.specs.Outcome.{Outcome, ◌>>=◌, fault, under}
use Rattle.json_parts.specs.Shape.{Shape, list_shape}
use Rattle.json_parts.specs.Truths.{never}
use Rattle.json_parts.specs.Written.{list, natural}

-- Each weight is that of a row behind the one before it; the first row has at least this number.
abbrev pub rise_from : ℕ → List (ℕ × ℕ) → Bool
rise_from least [] = true
rise_from least (weight ∷ weights) = nat_le least weight.0 && rise_from (weight.0 + 1) weights

-- Weights from this index on: a row's number below 128, then its multiplier, at least 1 and below 2^48.
unfoldable pub reads_weights : ℕ → List Data → Outcome (List (ℕ × ℕ))
reads_weights i [] = Ok []
reads_weights i (d ∷ []) = fault 2
reads_weights i (d ∷ e ∷ more) = do
  row ← under (Index i) (reads_natural 0 127 d)
  multiplier ← under (Index (i + 1)) (reads_natural 1 (MULTIPLIER_SIZE - 1) e)
  weights ← reads_weights (i + 2) more
  Ok ((row, multiplier) ∷ weights)

-- A scale of at least 1, a number beside the rows, and weights whose rows rise; all numbers are below 2^48.
unfoldable pub multipliers_of : Data → Data → List Data → Outcome FarkasMultipliers
multipliers_of d e more = do
  scale ← under (Index 0) (reads_natural 1 (MULTIPLIER_SIZE - 1) d)
  rest ← under (Index 1) (reads_natural 0 (MULTIPLIER_SIZE - 1) e)
  weights ← reads_weights 2 more
  if rise_from 0 weights then Ok (record { scale = scale; rest = rest; weights = weights }) else fault 2

-- There are two members at least, and an even number of them.
unfoldable pub multipliers_in : List Data → Outcome FarkasMultipliers
multipliers_in [] = fault 2
multipliers_in (d ∷ []) = fault 2
multipliers_in (d ∷ e ∷ more) = if length more % 2 == 0 then multipliers_of d e more else fault 2

unfoldable pub reads_multipliers : Data → Outcome FarkasMultipliers
reads_multipliers d = reads_list d >>= multipliers_in

abbrev pub weights_data : List (ℕ × ℕ) → List Data
weights_data [] = []
weights_data (weight ∷ weights) = natural weight.0 ∷ natural weight.1 ∷ weights_data weights

abbrev pub multipliers_data : FarkasMultipliers → Data
multipliers_data shown = list (natural shown.scale ∷ natural shown.rest ∷ weights_data shown.weights)

-- ---- what is read is within the limits

abbrev AreRows : List (ℕ × ℕ) → Type 0
AreRows weights = AllByRecursion (λ (weight : ℕ × ℕ). weight.0 < 128) weights

weights_small : (i : ℕ) (ds : List Data) → IfOk (reads_weights i ds) AreRows
unfolding reads_weights
weights_small i [] = tt
weights_small i (d ∷ []) = tt
weights_small i (d ∷ e ∷ more) =
    given_then (under (Index i) (reads_natural 0 127 d)) _ (λ (n : ℕ). (0 ≤ n) × (n ≤ 127)) AreRows (given_under (Index i) (reads_natural 0 127 d) (λ (n : ℕ). (0 ≤ n) × (n ≤ 127)) (given_natural 0 127 d))
    (λ row small. given_behind (under (Index (i + 1)) (reads_natural 1 (MULTIPLIER_SIZE - 1) e)) _ AreRows
    (λ multiplier. given_then (reads_weights (i + 2) more) _ AreRows AreRows (weights_small (i + 2) more) (λ weights rest. (omega (arith, small.1), rest))))

multipliers_of-small : (d e : Data) (more : List Data) → IfOk (multipliers_of d e more) NamesRows
unfolding multipliers_of
multipliers_of-small d e more =
    given_behind (under (Index 0) (reads_natural 1 (MULTIPLIER_SIZE - 1) d)) _ NamesRows
    (λ scale. given_behind (under (Index 1) (reads_natural 0 (MULTIPLIER_SIZE - 1) e)) _ NamesRows
    (λ rest. given_then (reads_weights 2 more) _ AreRows NamesRows (weights_small 2 more)
    (λ weights small. given_if (rise_from 0 weights) (Ok (record { scale = scale; rest = rest; weights = weights })) (fault 2) NamesRows (λ rise. small) tt)))

multipliers_in-small : (ds : List Data) → IfOk (multipliers_in ds) NamesRows
unfolding multipliers_in
multipliers_in-small [] = tt
multipliers_in-small (d ∷ []) = tt
multipliers_in-small (d ∷ e ∷ more) = given_if (length more % 2 == 0) (multipliers_of d e more) (fault 2) NamesRows (λ even. multipliers_of-small d e more) tt

pub multipliers_small : (d : Data) → IfOk (reads_multipliers d) NamesRows
unfolding reads_multipliers
multipliers_small d = given_behind (reads_list d) multipliers_in NamesRows multipliers_in-small

abbrev pub multipliers_shape : Shape FarkasMultipliers
multipliers_shape = record { reads = reads_multipliers; data_of = multipliers_data; IsWithin = NamesRows; kept = multipliers_small; is_present = false; present = never }

abbrev pub all_multipliers_shape : Shape (List FarkasMultipliers)
all_multipliers_shape = list_shape multipliers_shape
