-- Numbers on the command line: decimal digits, the bytes 48 to 57 alone.
use Rattle.std.specs.Prelude.{ℕ, ◌+◌, ◌-◌, ◌*◌, ◌^◌, ◌==◌, ◌&&◌, nat_le, sum, if◌then◌else◌, ℤ, pos, ◌-ℤ◌, List, [], ◌∷◌, length, Option, None, Some, option_map, option_and_then}
use Rattle.std.specs.Char.{is_ascii_digit}
use Rattle.std.specs.List.{list_all, slice_split}
use Rattle.iolb_model.specs.declared.limits.TheConstants.{LEVELS, PROCESSORS, STATEMENTS, VALUE_SIZE}

-- a number with these digits behind it
abbrev pub with_digits : ℕ → List ℕ → ℕ
with_digits n [] = n
with_digits n (byte ∷ bytes) = with_digits (n * 10 + (byte - 48)) bytes

-- the number of a word of 1 to so many digits
abbrev pub natural_in : ℕ → List ℕ → Option ℕ
natural_in most word =
    if nat_le 1 (length word) && nat_le (length word) most && list_all is_ascii_digit word then Some (with_digits 0 word) else None

abbrev pub if_within : ℕ → ℕ → ℕ → Option ℕ
if_within least most n = if nat_le least n && nat_le n most then Some n else None

-- how many red pebbles a word says: 1 to 19 digits, from 1 to 2^63 - 1
abbrev pub memory_in : List ℕ → Option ℕ
memory_in word = option_and_then (if_within 1 (2 ^ 63 - 1)) (natural_in 19 word)

-- how many processors a word says: 1 to 7 digits, from 1 to 2^20
abbrev pub processors_in : List ℕ → Option ℕ
processors_in word = option_and_then (if_within 1 PROCESSORS) (natural_in 7 word)

-- how many matrix products a word says: digits, as many as there are, from 1 to 32, as many as a program has statements
abbrev pub products_in : List ℕ → Option ℕ
products_in word = option_and_then (if_within 1 STATEMENTS) (natural_in (length word) word)

-- the numbers of red pebbles that words say
abbrev pub memories_in : List (List ℕ) → Option (List ℕ)
memories_in [] = Some []
memories_in (word ∷ words) = option_and_then (λ s. option_map (λ others. s ∷ others) (memories_in words)) (memory_in word)

-- the capacities of fast levels: at most so many levels, which together hold at most 2^63 - 1 words
abbrev pub if_levels : List ℕ → Option (List ℕ)
if_levels capacities = if nat_le (length capacities) LEVELS && nat_le (sum capacities) (2 ^ 63 - 1) then Some capacities else None

-- those that a word says, as numbers of red pebbles joined by commas
abbrev pub capacities_in : List ℕ → Option (List ℕ)
capacities_in word = option_and_then if_levels (memories_in (slice_split (λ byte. byte == 44) word))

-- a size below 2^40 of 1 to 13 digits
abbrev pub small_in : List ℕ → Option ℕ
small_in word = option_and_then (if_within 0 (VALUE_SIZE - 1)) (natural_in 13 word)

-- a whole number: it may have `-` in front
abbrev pub whole_in : List ℕ → Option ℤ
whole_in [] = None
whole_in (byte ∷ bytes) = if byte == 45 then option_map (λ n. pos 0 -ℤ pos n) (small_in bytes) else option_map pos (small_in (byte ∷ bytes))
