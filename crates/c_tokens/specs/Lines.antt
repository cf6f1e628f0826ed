-- The lines of a text.
use Rattle.std.specs.Prelude.{ℕ, ◌+◌, ◌==◌, if◌then◌else◌, List, [], ◌∷◌, length, drop}
use Rattle.c_tokens.specs.declared.lines.Span.{Span}

-- a line: the place of its first byte in the text, and its bytes without the newline
pub record Line : Type 0 where
  pub place : ℕ
  pub bytes : List ℕ

-- a byte in front of the first of these lines
abbrev pub in_front : ℕ → ℕ → List Line → List Line
in_front place b [] = []
in_front place b (l ∷ ls) = record { place = place; bytes = b ∷ l.bytes } ∷ ls

-- the lines of a text that stands at this place: a newline ends a line and begins the next
abbrev pub lines : ℕ → List ℕ → List Line
lines place [] = record { place = place; bytes = [] } ∷ []
lines place (b ∷ bytes) =
    if b == 10 then record { place = place; bytes = [] } ∷ lines (place + 1) bytes
    else in_front place b (lines (place + 1) bytes)

-- the lines of a text from this place on
abbrev pub lines_from : List ℕ → ℕ → List Line
lines_from bytes place = lines place (drop place bytes)

-- the place behind a line's last byte
abbrev pub line_end : Line → ℕ
line_end l = l.place + length l.bytes

-- where a line stands
abbrev pub span_of : Line → Span
span_of l = record { start = l.place; end = line_end l }
