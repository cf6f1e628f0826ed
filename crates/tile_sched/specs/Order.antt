-- The order of a schedule: instances by what their keys say, then by their places in the execution.
use Rattle.std.specs.Prelude.{ℕ, ◌/◌, ℤ, pos, negsuc, List, [], ◌++◌, map, length, slice_index_or}
use Rattle.std.specs.Cmp.Lexicographic.{slice_cmp}
use Rattle.std.specs.List.{range_with_len}
use Rattle.std.specs.List.Sorted.{IsPermutation, IsSorted}
use Rattle.std.specs.declared.cmp.Ordering.{Ordering}
use Rattle.std.specs.Ordering.{ordering_then, int_cmp, nat_cmp}
use Rattle.iolb_model.specs.Form.{form_value}
use Rattle.iolb_model.specs.Program.{AffineProgram}
use Rattle.iolb_model.specs.Execution.{Instance, execution}
use Rattle.tile_sched.specs.declared.schedule.Key.{Key}

-- a number over a divisor, rounded down
abbrev pub floor : ℤ → ℕ → ℤ
floor (pos n) divisor = pos (n / divisor)
floor (negsuc n) divisor = negsuc (n / divisor)

-- what keys say at a point
abbrev pub said_by : List Key → List ℤ → List ℤ
said_by keys point = map (λ key. floor (form_value key.form point) key.divisor) keys

-- the keys of a statement
abbrev pub keys_of : List (List Key) → ℕ → List Key
keys_of schedule statement = slice_index_or schedule statement []

-- what the keys of its statement say of an instance
abbrev pub said_of : List (List Key) → List ℤ → Instance → List ℤ
said_of schedule parameters instance = said_by (keys_of schedule instance.statement) (parameters ++ instance.values)

-- what is said of each instance, in the order of execution
abbrev pub said : AffineProgram → List ℤ → List (List Key) → List (List ℤ)
said program parameters schedule = map (said_of schedule parameters) (execution program parameters)

-- how two instances compare, by what is said of each: number by number, and then by their places
abbrev pub compare : List (List ℤ) → ℕ → ℕ → Ordering
compare all v w = ordering_then (slice_cmp int_cmp (slice_index_or all v []) (slice_index_or all w [])) (nat_cmp v w)

-- the order has each instance once, and they ascend
pub record IsOrder (all : List (List ℤ)) (order : List ℕ) : Type 0 where
  pub each : IsPermutation (range_with_len 0 (length all)) order
  pub ascends : IsSorted (compare all) order
