-- The words at the head of a line.
use Rattle.std.specs.Prelude.{ℕ, ◌==◌, Bool, false, if◌then◌else◌, List, [], ◌∷◌, drop, Option, Some, None, is_some, option_and_then, codes}
use Rattle.std.specs.List.{prefix_len, list_all}
use Rattle.c_tokens.specs.Bytes.{is_blank, is_space}

-- what follows the blanks, or the spaces, in front
abbrev pub past_blanks : List ℕ → List ℕ
past_blanks bytes = drop (prefix_len is_blank bytes) bytes

abbrev pub past_spaces : List ℕ → List ℕ
past_spaces bytes = drop (prefix_len is_space bytes) bytes

-- what follows this byte in front, where a blank stands for one or more
abbrev pub past_byte : ℕ → List ℕ → Option (List ℕ)
past_byte w [] = None
past_byte w (b ∷ bytes) =
    if is_blank w then (if is_blank b then Some (past_blanks bytes) else None) else (if b == w then Some bytes else None)

-- what follows these words, where they stand in front
abbrev pub past_words : List ℕ → List ℕ → Option (List ℕ)
past_words [] bytes = Some bytes
past_words (w ∷ words) bytes = option_and_then (past_words words) (past_byte w bytes)

-- what follows these words at the head of a line, behind any spaces
abbrev pub past_head : List ℕ → List ℕ → Option (List ℕ)
past_head words line = past_words words (past_spaces line)

-- whether a line begins with these words
abbrev pub begins_with : List ℕ → List ℕ → Bool
begins_with words line = is_some (past_head words line)

-- whether only spaces are left, where something is
abbrev pub is_spaces : Option (List ℕ) → Bool
is_spaces None = false
is_spaces (Some rest) = list_all is_space rest

-- whether a line reads as these words, but for spaces at its ends
abbrev pub reads_as : List ℕ → List ℕ → Bool
reads_as words line = is_spaces (past_head words line)

abbrev pub opening_words : List ℕ
opening_words = codes "#pragma scop"

abbrev pub closing_words : List ℕ
closing_words = codes "#pragma endscop"

abbrev pub pragma_words : List ℕ
pragma_words = codes "#pragma"

abbrev pub directive_words : List ℕ
directive_words = codes "#pragma iolb"

abbrev pub parameters_words : List ℕ
parameters_words = codes "#pragma iolb param"

abbrev pub assumptions_words : List ℕ
assumptions_words = codes "#pragma iolb assume"
