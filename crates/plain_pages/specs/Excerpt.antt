-- The part of a line round a place.
use Rattle.std.specs.Prelude.{ℕ, Bool, ◌==◌, ◌-◌, List, length, take, drop}
use Rattle.std.specs.List.{after_last, before_first}
use Rattle.plain_pages.specs.declared.excerpt.TheConstants.{EXCERPT_BYTES}

abbrev pub is_newline : ℕ → Bool
is_newline byte = byte == 10

-- the last bytes of a text, so many where there are more
abbrev pub take_last : ℕ → List ℕ → List ℕ
take_last count bytes = drop (length bytes - count) bytes

-- what stands before a place on its line
abbrev pub excerpt_before : List ℕ → ℕ → List ℕ
excerpt_before text place = take_last EXCERPT_BYTES (after_last is_newline (take place text))

-- what stands on its line from a place on
abbrev pub excerpt_after : List ℕ → ℕ → List ℕ
excerpt_after text place = take EXCERPT_BYTES (before_first is_newline (drop place text))
