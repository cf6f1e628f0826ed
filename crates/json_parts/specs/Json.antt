-- Looking into JSON values.
use Rattle.std.specs.Prelude.{ℕ, suc, ◌&&◌, ℤ, pos, negsuc, unsigned_abs, List, [], ◌∷◌, length, Bool, true, false, ◌==◌, is_some, nat_lt, nat_le, if◌then◌else◌, Option, Some, None, option_map, option_and_then, Ok}
use Rattle.claims.specs.declared.place.Step.{Step}
use Rattle.claims.specs.declared.place.Step.TheVariants.{Key, Index}
use Rattle.serde_json.specs.Data.{Data, Items, no_items, item, Members, no_members, member}
use Rattle.serde_json.specs.Find.{get, as_null, as_array, as_object, as_number, as_integer}
use Rattle.json_parts.specs.Outcome.{Outcome, ◌>>=◌, fault, under}

-- ---- objects

abbrev pub count_of : Members → ℕ
count_of no_members = 0
count_of (member k d ms) = suc (count_of ms)

abbrev pub has_so_many : ℕ → Option Members → Bool
has_so_many n None = false
has_so_many n (Some ms) = count_of ms == n

abbrev pub has_all : List (List ℕ) → Data → Bool
has_all [] d = true
has_all (name ∷ names) d = is_some (get name d) && has_all names d

-- Whether a value is an object with exactly these different keys: it has as many members, and each key is there. (An
-- object has each key once.)
unfoldable pub has_keys : List (List ℕ) → Data → Bool
has_keys names d = has_so_many (length names) (as_object d) && has_all names d

-- an object with exactly these different keys
unfoldable pub with_keys : List (List ℕ) → Data → Outcome Data
with_keys names d = if has_keys names d then Ok d else fault 2

-- what a reader gives of a member, if it is there
abbrev pub read_member : {A : Type 0} → Step → (Data → Outcome A) → Option Data → Outcome A
read_member step reader None = fault 2
read_member step reader (Some d) = under step (reader d)

-- what a reader gives of the member with this name
abbrev pub part : {A : Type 0} → List ℕ → (Data → Outcome A) → Data → Outcome A
part name reader d = read_member (Key name) reader (get name d)

-- ---- arrays

abbrev pub list_of : Items → List Data
list_of no_items = []
list_of (item d ds) = d ∷ list_of ds

-- the members of an array
abbrev pub elements_of : Data → Option (List Data)
elements_of d = option_map list_of (as_array d)

abbrev pub given_list : Option (List Data) → Outcome (List Data)
given_list None = fault 2
given_list (Some ds) = Ok ds

-- an array of any length
unfoldable pub reads_list : Data → Outcome (List Data)
reads_list d = given_list (elements_of d)

-- an array of at most so many members
unfoldable pub reads_short_list : ℕ → Data → Outcome (List Data)
reads_short_list most d = reads_list d >>= λ ds. if nat_le (length ds) most then Ok ds else fault 3

-- what a reader gives of each member of an array, from this index on
unfoldable pub each : {A : Type 0} → (Data → Outcome A) → ℕ → List Data → Outcome (List A)
each reader i [] = Ok []
each reader i (d ∷ ds) = do
  a ← under (Index i) (reader d)
  more ← each reader (suc i) ds
  Ok (a ∷ more)

-- an array of any length, each of whose members is read so
unfoldable pub reads_all : {A : Type 0} → (Data → Outcome A) → Data → Outcome (List A)
reads_all reader d = reads_list d >>= each reader 0

-- an array of at most so many members, each of which is read so
unfoldable pub reads_few : {A : Type 0} → ℕ → (Data → Outcome A) → Data → Outcome (List A)
reads_few most reader d = reads_short_list most d >>= each reader 0

-- ---- null or a value

unfoldable pub reads_or_null : {A : Type 0} → (Data → Outcome A) → Data → Outcome (Option A)
reads_or_null reader d = if is_some (as_null d) then Ok None else (reader d >>= λ a. Ok (Some a))

-- ---- whole numbers

-- a number that is written as a whole number of 64 bits
abbrev pub integer_of : Data → Option ℤ
integer_of d = option_and_then as_integer (as_number d)

abbrev pub small_integer : ℕ → Option ℤ → Outcome ℤ
small_integer limit None = fault 2
small_integer limit (Some z) = if nat_lt (unsigned_abs z) limit then Ok z else fault 3

-- a whole number of size below a limit
unfoldable pub reads_integer : ℕ → Data → Outcome ℤ
reads_integer limit d = small_integer limit (integer_of d)

abbrev pub natural_within : ℕ → ℕ → Option ℤ → Outcome ℕ
natural_within least most None = fault 2
natural_within least most (Some (pos n)) = if nat_le least n && nat_le n most then Ok n else fault 3
natural_within least most (Some (negsuc n)) = fault 3

-- a whole number from a least one to a greatest one, neither below 0
unfoldable pub reads_natural : ℕ → ℕ → Data → Outcome ℕ
reads_natural least most d = natural_within least most (integer_of d)

abbrev pub is_exactly : ℕ → Option ℤ → Bool
is_exactly n None = false
is_exactly n (Some (pos m)) = m == n
is_exactly n (Some (negsuc m)) = false

-- this whole number alone
unfoldable pub reads_exactly : ℕ → Data → Outcome (Unit {0})
reads_exactly n d = if is_exactly n (integer_of d) then Ok tt else fault 2
