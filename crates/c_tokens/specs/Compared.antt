-- The form in which a line is compared: spaces, tabs and carriage returns at its ends are taken off, and a run of spaces
-- and tabs inside it counts as one space.
use Rattle.std.specs.Prelude.{◌≡◌, ℕ, ◌==◌, ◌&&◌, Bool, true, false, not, if◌then◌else◌, List, [], ◌∷◌}
use Rattle.c_tokens.specs.Bytes.{is_blank, is_space}
use Rattle.c_tokens.specs.Words.{past_spaces, begins_with, reads_as}

abbrev pub is_empty : List ℕ → Bool
is_empty [] = true
is_empty (b ∷ bytes) = false

-- a byte in front of bytes of which the spaces at the end were taken off
abbrev pub before_end : ℕ → List ℕ → List ℕ
before_end b bytes = if is_space b && is_empty bytes then [] else b ∷ bytes

-- without the spaces at the end
abbrev pub without_end : List ℕ → List ℕ
without_end [] = []
without_end (b ∷ bytes) = before_end b (without_end bytes)

abbrev pub has_space : List ℕ → Bool
has_space [] = false
has_space (b ∷ bytes) = b == 32

-- a byte in front of bytes in which a run of blanks is one space
abbrev pub before_run : ℕ → List ℕ → List ℕ
before_run b bytes = if is_blank b then (if has_space bytes then bytes else 32 ∷ bytes) else b ∷ bytes

-- with one space for each run of blanks
abbrev pub squeezed : List ℕ → List ℕ
squeezed [] = []
squeezed (b ∷ bytes) = before_run b (squeezed bytes)

-- the form in which a line is compared
abbrev pub compared : List ℕ → List ℕ
compared line = squeezed (without_end (past_spaces line))

-- whether bytes begin with these, and this holds of what follows
abbrev pub begins_so : (List ℕ → Bool) → List ℕ → List ℕ → Bool
begins_so passes [] bytes = passes bytes
begins_so passes (w ∷ words) [] = false
begins_so passes (w ∷ words) (b ∷ bytes) = b == w && begins_so passes words bytes

-- whether bytes begin with these
abbrev pub is_prefix : List ℕ → List ℕ → Bool
is_prefix words bytes = begins_so (λ _. true) words bytes

-- whether bytes are these
abbrev pub is_same : List ℕ → List ℕ → Bool
is_same words bytes = begins_so is_empty words bytes

-- words with single spaces between them: no byte but these is a space
abbrev pub are_words : List ℕ → Bool
are_words [] = true
are_words (w ∷ []) = not (is_space w)
are_words (w ∷ v ∷ words) = if w == 32 then not (is_space v) && are_words (v ∷ words) else not (is_space w) && are_words (v ∷ words)

-- A line begins with words exactly where its compared form does, and reads as words exactly where its compared form is these.
abbrev pub ComparesLines : Type 0
ComparesLines = (words line : List ℕ) → are_words words ≡ true
    → (begins_with words line ≡ is_prefix words (compared line)) × (reads_as words line ≡ is_same words (compared line))
