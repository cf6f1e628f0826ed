-- What is written.
use Rattle.std.specs.Prelude.{ℕ, ℤ, List, Option, Some, None}
use Rattle.serde_json.specs.Data.{Data, number, unsigned, array, null}
use Rattle.serde_json.specs.Find.{of_integer}
use Rattle.serde_json.specs.View.{items_of}

-- an array
abbrev pub list : List Data → Data
list ds = array (items_of ds)

-- a whole number
abbrev pub whole : ℤ → Data
whole z = number (of_integer z)

-- a whole number that isn't below 0
abbrev pub natural : ℕ → Data
natural n = number (unsigned n)

-- null where there is none
abbrev pub or_null : {A : Type 0} → (A → Data) → Option A → Data
or_null data_of None = null
or_null data_of (Some a) = data_of a
