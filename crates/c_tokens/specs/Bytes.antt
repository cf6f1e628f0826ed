-- Kinds of bytes (the C standard, ISO/IEC 9899, 5.2.1 and 6.4).
use Rattle.std.specs.Prelude.{ℕ, ◌==◌, ◌||◌, ◌&&◌, nat_le, Bool, not, List, take}
use Rattle.std.specs.List.{prefix_len}

-- a space or a tab
abbrev pub is_blank : ℕ → Bool
is_blank b = b == 32 || b == 9

-- a space, a tab or a carriage return
abbrev pub is_space : ℕ → Bool
is_space b = is_blank b || b == 13

-- no newline
abbrev pub is_in_line : ℕ → Bool
is_in_line b = not (b == 10)

abbrev pub is_letter : ℕ → Bool
is_letter b = (nat_le 97 b && nat_le b 122) || (nat_le 65 b && nat_le b 90)

abbrev pub is_digit : ℕ → Bool
is_digit b = nat_le 48 b && nat_le b 57

-- a byte that begins a name: a letter or `_`
abbrev pub is_name_start : ℕ → Bool
is_name_start b = is_letter b || b == 95

-- a byte of a name: a letter, a digit or `_`
abbrev pub is_name_byte : ℕ → Bool
is_name_byte b = is_name_start b || is_digit b

-- `e` or `E`
abbrev pub is_exponent : ℕ → Bool
is_exponent b = b == 101 || b == 69

-- `+` or `-`
abbrev pub is_sign : ℕ → Bool
is_sign b = b == 43 || b == 45

-- a byte that goes on with a number whose last byte is `before`: a letter, a digit, `.`, or a sign behind `e` or `E`
abbrev pub is_number_byte : ℕ → ℕ → Bool
is_number_byte before b = is_letter b || is_digit b || b == 46 || (is_sign b && is_exponent before)

-- the line in front
abbrev pub first_line : List ℕ → List ℕ
first_line bytes = take (prefix_len is_in_line bytes) bytes
