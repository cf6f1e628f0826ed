-- References: an array's name with its subscripts.
use Rattle.std.specs.Prelude.{ℕ, zero, suc, ◌+◌, ◌-◌, ◌==◌, not, ◌&&◌, nat_le, nat_lt, if◌then◌else◌, ℤ, List, [], ◌∷◌, ◌++◌, length, slice_set, Option, Some, None, Ok, codes}
use Rattle.c_reading.specs.declared.named.Kind.{Kind}
use Rattle.c_reading.specs.declared.named.Kind.TheVariants as kind
use Rattle.c_reading.specs.declared.refs.Seen.{Seen}
use Rattle.c_reading.specs.Access.{Access}
use Rattle.c_reading.specs.Input.{Input, Rule, ◌>>=◌, ◌>>◌, pure, fault, fault_at, pass, refuse, sees, spelling, place, next, left}
use Rattle.c_reading.specs.Affine.{affine, closed_by, kind_of, with_name, is_short}
use Rattle.iolb_model.specs.declared.limits.TheConstants.{ARRAYS, SUBSCRIPTS}

-- how many arrays, and how many subscripts there may be
abbrev pub most_arrays : ℕ
most_arrays = ARRAYS

abbrev pub most_subscripts : ℕ
most_subscripts = SUBSCRIPTS

-- a new name, which becomes an array, where it has 1 to 64 bytes and there aren't too many
unfoldable pub new_array : Rule Seen
new_array i =
    if is_short (spelling i) && nat_lt i.arrays most_arrays
    then Ok (record { array = i.arrays; subscripts = None }, next (record (with_name (spelling i) (kind.Array i.arrays 0) i) { arrays = i.arrays + 1 }))
    else fault 10 i

-- an array's name, by its kind
abbrev pub array_by : Option Kind → Rule Seen
array_by None = new_array
array_by (Some (kind.Parameter k)) = fault 6
array_by (Some (kind.OpenLoop depth)) = fault 6
array_by (Some kind.ClosedLoop) = fault 6
array_by (Some (kind.Array number subscripts)) = pass >> pure (record { array = number; subscripts = Some subscripts })

unfoldable pub array : Rule Seen
array i = array_by (kind_of (spelling i) i) i

-- a subscript with its brackets, in which so many more may be opened
unfoldable pub subscript : ℕ → Rule (List ℤ)
subscript brackets = pass >> affine brackets None >>= (λ a. closed_by (codes "]") a >>= (λ b. pure b.numbers))

-- Subscripts behind these, where so many brackets may still be opened.
unfoldable pub subscripts : ℕ → ℕ → List (List ℤ) → Rule (List (List ℤ))
subscripts brackets zero rows i = refuse i
subscripts brackets (suc turns) rows i =
    if not (sees (codes "[") i) then Ok (rows, i)
    else (if brackets == 0 then fault 9 i
    else (if nat_le most_subscripts (length rows) then fault 10 i
    else (subscript (brackets - 1) >>= (λ row. subscripts brackets turns (rows ++ row ∷ []))) i))

unfoldable pub all_subscripts : ℕ → Rule (List (List ℤ))
all_subscripts brackets i = subscripts brackets (left i) [] i

-- the array at this place among the names has this kind
unfoldable pub with_kind : ℕ → Kind → Input → Input
with_kind at k i = record i { kinds = slice_set i.kinds at k }

-- a reference has as many subscripts as its array, which the first reference to it decides
unfoldable pub access_by : ℕ → ℕ → Seen → List (List ℤ) → Rule Access
access_by there at seen rows i = elim seen.subscripts [
  | None ↦ Ok (record { array = seen.array; subscripts = rows }, with_kind at (kind.Array seen.array (length rows)) i)
  | Some count ↦ if length rows == count then Ok (record { array = seen.array; subscripts = rows }, i) else fault_at 8 there i
]

-- a reference, whose name stands at this place, and is the name of this number where it is new
unfoldable pub access_from : ℕ → ℕ → ℕ → Rule Access
access_from brackets there at = do
  seen ← array
  rows ← all_subscripts brackets
  access_by there at seen rows

unfoldable pub access : ℕ → Rule Access
access brackets i = access_from brackets (place i) (length i.names) i
