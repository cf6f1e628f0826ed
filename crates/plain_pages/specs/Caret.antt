-- A source line, and a caret under a place of it.
use Rattle.std.specs.Prelude.{ℕ, ◌==◌, ◌&&◌, ◌||◌, not, nat_lt, bit_and, if◌then◌else◌, List, ◌++◌, Option, Some, None, codes}
use Rattle.std.specs.List.{filter_map}
use Rattle.plain_pages.specs.Excerpt.{excerpt_after, excerpt_before}

-- control characters but tabs are written as `?`, and carriage returns not at all
abbrev pub printable : ℕ → Option ℕ
printable byte = if byte == 13 then None else (if (nat_lt byte 32 && not (byte == 9)) || (byte == 127) then Some 63 else Some byte)

-- what takes as much room as a byte: a tab as a tab, and the later bytes of a character none
abbrev pub room_of : ℕ → Option ℕ
room_of byte = if byte == 9 then Some 9 else (if (byte == 13) || (bit_and byte 192 == 128) then None else Some 32)

-- the line of a place, and under it a caret at the place
abbrev pub caret_lines : List ℕ → ℕ → List ℕ
caret_lines text place =
    codes "    " ++ filter_map printable (excerpt_before text place) ++ filter_map printable (excerpt_after text place)
    ++ codes "\n    " ++ filter_map room_of (excerpt_before text place) ++ codes "^\n"
