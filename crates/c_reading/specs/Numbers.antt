-- The numbers of affine expressions over all variables that a text may have: the constant, the coefficients of the
-- parameters, and those of the loops around, outermost first.
use Rattle.std.specs.Prelude.{◌≡◌, ◌++◌, ℕ, ◌+◌, ◌*◌, ◌-◌, ◌==◌, ◌&&◌, nat_lt, Bool, true, false, not, if◌then◌else◌, ℤ, pos, ◌+ℤ◌, ◌-ℤ◌, ◌*ℤ◌, unsigned_abs, List, [], ◌∷◌, replicate, slice_set, min, Option, Some, None, option_map}
use Rattle.std.specs.List.{list_all}
use Rattle.c_tokens.specs.Bytes.{is_digit}
use Rattle.iolb_model.specs.declared.limits.TheConstants.{LOOPS, GUARDS, PARAMETERS, NUMBER_SIZE}

-- how many parameters there may be, and how many loops and how many rows of guards around a statement
abbrev pub most_parameters : ℕ
most_parameters = PARAMETERS

abbrev pub most_loops : ℕ
most_loops = LOOPS

abbrev pub most_guards : ℕ
most_guards = GUARDS

abbrev pub width : ℕ
width = 1 + PARAMETERS + LOOPS

-- numbers of texts are of size below 2^20
abbrev pub is_small : ℤ → Bool
is_small n = nat_lt (unsigned_abs n) NUMBER_SIZE

-- the numbers of one variable, or of a constant
abbrev pub single : ℕ → ℤ → List ℤ
single slot n = slice_set (replicate width (pos 0)) slot n

-- the place of a parameter, and of a loop
abbrev pub parameter_slot : ℕ → ℕ
parameter_slot k = 1 + k

abbrev pub loop_slot : ℕ → ℕ
loop_slot depth = 1 + PARAMETERS + depth

abbrev pub if_small : ℤ → Option ℤ
if_small n = if is_small n then Some n else None

-- x + k*y less this much, where it is small
unfoldable pub small_number : ℤ → ℤ → ℤ → ℤ → Option ℤ
small_number k less x y = if_small ((x +ℤ (k *ℤ y)) -ℤ less)

abbrev pub number_before : Option ℤ → Option (List ℤ) → Option (List ℤ)
number_before None zs = None
number_before (Some n) zs = option_map (λ ns. n ∷ ns) zs

-- a + k*b, where all its numbers are small
abbrev pub plus_times : ℤ → List ℤ → List ℤ → Option (List ℤ)
plus_times k [] ys = Some []
plus_times k (x ∷ xs) [] = Some []
plus_times k (x ∷ xs) (y ∷ ys) = number_before (small_number k (pos 0) x y) (plus_times k xs ys)

-- the same, less this much on the first number
abbrev pub combined : ℤ → ℤ → List ℤ → List ℤ → Option (List ℤ)
combined k less [] ys = Some []
combined k less (x ∷ xs) [] = Some []
combined k less (x ∷ xs) (y ∷ ys) = number_before (small_number k less x y) (plus_times k xs ys)

-- the numbers behind these, or none
abbrev pub numbers_behind : List ℤ → Option (List ℤ) → Option (List ℤ)
numbers_behind numbers more = option_map (λ ns. numbers ++ ns) more

-- that all of these numbers were added, or that they aren't all small
abbrev pub pushed : Bool → List ℤ → List ℤ → Option (List ℤ) → Type 0
pushed true old new more = numbers_behind old more ≡ Some new
pushed false old new more = numbers_behind old more ≡ None

abbrev pub zeros : List ℤ
zeros = replicate width (pos 0)

-- the constant
abbrev pub constant_of : List ℤ → ℤ
constant_of [] = pos 0
constant_of (x ∷ xs) = x

-- the value of digits behind this one, up to the first that isn't small
abbrev pub value_from : ℕ → List ℕ → ℕ
value_from n [] = n
value_from n (b ∷ bytes) = value_from (min (10 * n + (b - 48)) NUMBER_SIZE) bytes

-- digits alone, without a leading 0 unless it is 0
abbrev pub is_integer : List ℕ → Bool
is_integer [] = false
is_integer (b ∷ []) = is_digit b
is_integer (b ∷ c ∷ bytes) = not (b == 48) && list_all is_digit (b ∷ c ∷ bytes)
