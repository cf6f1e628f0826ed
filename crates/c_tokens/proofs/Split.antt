-- The lines of a text: the first, then those behind its newline.
use Rattle.std.proofs.Common.{⊎_elim, append-nil, length-drop, ◌≡◌, ℕ, suc, ◌+◌, ◌<◌, ◌≤◌, List, [], ◌∷◌, length, take, drop, refl, ap, sym, ◌∙◌, true, false, arith}
use Rattle.std.specs.Prelude.{◌==◌, find, Option, Some, None, option_map, ◌++◌}
use Rattle.std.proofs.str.Laws.{order}
use Rattle.std.specs.List.{prefix_len}
use Rattle.c_tokens.specs.Bytes.{is_in_line, first_line}
use Rattle.c_tokens.specs.Words.{reads_as, opening_words}
use Rattle.c_tokens.specs.Text.{line_tokens, head_tokens}
use Rattle.std.proofs.lemmas.List.Folds.{length-prefix_len}
use Rattle.std.proofs.lemmas.List.{drop-drop}
use Rattle.c_tokens.specs.Lines.{Line, in_front, lines, lines_from, span_of}

-- the first line of bytes that stand at this place
abbrev pub first_at : ℕ → List ℕ → Line
first_at place bytes = record { place = place; bytes = take (prefix_len is_in_line bytes) bytes }

-- what the lines are where the first byte is no newline
lines-byte : (place b : ℕ) (bytes : List ℕ) → (b == 10) ≡ false → lines place (b ∷ bytes) ≡ in_front place b (lines (place + 1) bytes)
lines-byte place b bytes other = rw other refl

lines-newline : (place b : ℕ) (bytes : List ℕ) → (b == 10) ≡ true → lines place (b ∷ bytes) ≡ record { place = place; bytes = [] } ∷ lines (place + 1) bytes
lines-newline place b bytes is = rw is refl

first-byte : (b : ℕ) (bytes : List ℕ) → (b == 10) ≡ false → prefix_len is_in_line (b ∷ bytes) ≡ suc (prefix_len is_in_line bytes)
first-byte b bytes other = rw other (omega arith)

first-newline : (b : ℕ) (bytes : List ℕ) → (b == 10) ≡ true → prefix_len is_in_line (b ∷ bytes) ≡ 0
first-newline b bytes is = rw is refl

-- a text that has no newline is one line
pub lines-last : (place : ℕ) (bytes : List ℕ) → prefix_len is_in_line bytes ≡ length bytes → lines place bytes ≡ first_at place bytes ∷ []
lines-last place [] all = refl
lines-last place (b ∷ bytes) all =
    elim (b == 10) as (λ v. (b == 10) ≡ v → lines place (b ∷ bytes) ≡ first_at place (b ∷ bytes) ∷ []) [
      | true ↦ λ is. absurd (omega (arith, first-newline b bytes is))
      | false ↦ λ other.
          let longer = first-byte b bytes other in
          let rest : prefix_len is_in_line bytes ≡ length bytes = omega arith in
          lines-byte place b bytes other ∙ ap (in_front place b) (lines-last (place + 1) bytes rest) ∙ ap (λ n. record { place = place; bytes = take n (b ∷ bytes) } ∷ []) (sym longer)
    ] refl

more-place : (place b k : ℕ) (bytes : List ℕ) → record { place = place; bytes = b ∷ take k bytes } ∷ lines (place + 1 + k + 1) (drop (k + 1) bytes) ≡ record { place = place; bytes = take (suc k) (b ∷ bytes) } ∷ lines (place + suc k + 1) (drop (suc k + 1) (b ∷ bytes))
more-place place b k bytes =
    let places : place + 1 + k + 1 ≡ place + suc k + 1 = omega arith in
    let counts : suc (k + 1) ≡ suc k + 1 = omega arith in
    ap (λ p. record { place = place; bytes = b ∷ take k bytes } ∷ lines p (drop (k + 1) bytes)) places
    ∙ ap (λ m. record { place = place; bytes = b ∷ take k bytes } ∷ lines (place + suc k + 1) (drop m (b ∷ bytes))) counts

-- behind the first line's newline stand the others
pub lines-more : (place : ℕ) (bytes : List ℕ) → prefix_len is_in_line bytes < length bytes → lines place bytes ≡ first_at place bytes ∷ lines (place + prefix_len is_in_line bytes + 1) (drop (prefix_len is_in_line bytes + 1) bytes)
lines-more place [] some = absurd (omega arith)
lines-more place (b ∷ bytes) some =
    elim (b == 10) as (λ v. (b == 10) ≡ v → lines place (b ∷ bytes) ≡ first_at place (b ∷ bytes) ∷ lines (place + prefix_len is_in_line (b ∷ bytes) + 1) (drop (prefix_len is_in_line (b ∷ bytes) + 1) (b ∷ bytes))) [
      | true ↦ λ is.
          let none = first-newline b bytes is in
          lines-newline place b bytes is ∙ rw none (ap (λ p. record { place = place; bytes = [] } ∷ lines p bytes) (omega arith))
      | false ↦ λ other.
          let longer = first-byte b bytes other in
          let rest : prefix_len is_in_line bytes < length bytes = omega arith in
          lines-byte place b bytes other ∙ ap (in_front place b) (lines-more (place + 1) bytes rest)
          ∙ more-place place b (prefix_len is_in_line bytes) bytes
          ∙ ap (λ n. record { place = place; bytes = take n (b ∷ bytes) } ∷ lines (place + n + 1) (drop (n + 1) (b ∷ bytes))) (sym longer)
    ] refl

-- A line that begins at `start`, where `rest` stands, and the lines behind it.
module _ (bytes rest line : List ℕ) (start : ℕ) (rest_is : rest ≡ drop start bytes) (line_is : line ≡ first_line rest) (within : start ≤ length bytes) where
  here : line ≡ first_line (drop start bytes)
  here = line_is ∙ ap first_line rest_is

  count : length line ≡ prefix_len is_in_line (drop start bytes)
  count = ap length here ∙ length-prefix_len is_in_line (drop start bytes)

  first_is : first_at start (drop start bytes) ≡ record { place = start; bytes = line }
  first_is = ap (λ l. record { place = start; bytes = l }) (sym here)

  pub lines_from-last : start + length line ≡ length bytes → lines_from bytes start ≡ record { place = start; bytes = line } ∷ []
  lines_from-last all =
      let none : prefix_len is_in_line (drop start bytes) ≡ length (drop start bytes) = omega (arith, count, length-drop start bytes) in
      lines-last start (drop start bytes) none ∙ ap (λ l. l ∷ []) first_is

  pub lines_from-more : start + length line < length bytes → lines_from bytes start ≡ record { place = start; bytes = line } ∷ lines_from bytes (start + length line + 1)
  lines_from-more some =
      let more : prefix_len is_in_line (drop start bytes) < length (drop start bytes) = omega (arith, count, length-drop start bytes) in
      let skipped : start + (prefix_len is_in_line (drop start bytes) + 1) ≡ start + length line + 1 = omega (arith, count) in
      let placed : start + prefix_len is_in_line (drop start bytes) + 1 ≡ start + length line + 1 = omega (arith, count) in
      lines-more start (drop start bytes) more
      ∙ ap (λ l. l ∷ lines (start + prefix_len is_in_line (drop start bytes) + 1) (drop (prefix_len is_in_line (drop start bytes) + 1) (drop start bytes))) first_is
      ∙ ap (λ b. record { place = start; bytes = line } ∷ lines (start + prefix_len is_in_line (drop start bytes) + 1) b) (drop-drop (prefix_len is_in_line (drop start bytes) + 1) start bytes ∙ ap (λ n. drop n bytes) skipped)
      ∙ ap (λ p. record { place = start; bytes = line } ∷ lines p (drop (start + length line + 1) bytes)) placed

  -- some lines follow, or none
  pub lines_from-some : length line ≤ length rest → (ls : List Line) × (lines_from bytes start ≡ record { place = start; bytes = line } ∷ ls)
  lines_from-some few =
      ⊎_elim
      (λ some. (lines_from bytes (start + length line + 1), lines_from-more some))
      (λ all. ([], lines_from-last (omega (arith, few, ap length rest_is, length-drop start bytes))))
      (order (start + length line) (length bytes))

-- the first line that reads as these words
abbrev reading : List ℕ → List Line → Option Line
reading words ls = find (λ l. reads_as words l.bytes) ls

-- it is the first line
pub reading-here : (words bytes rest line : List ℕ) (start from : ℕ) → rest ≡ drop start bytes → line ≡ first_line rest → start ≤ length bytes → length line ≤ length rest → reads_as words line ≡ true → reading words (lines_from bytes start) ≡ reading words (lines_from bytes from) → Some (record { start = start; end = start + length line }) ≡ option_map span_of (reading words (lines_from bytes from))
reading-here words bytes rest line start from rest_is line_is within few reads same =
    let ls = lines_from-some bytes rest line start rest_is line_is within few in
    let found : reading words (lines_from bytes start) ≡ Some (record { place = start; bytes = line }) = ap (reading words) ls.1 ∙ rw reads refl in
    ap (option_map span_of) (sym found ∙ same)

-- no line is left
pub reading-none : (words bytes rest line : List ℕ) (start from : ℕ) → rest ≡ drop start bytes → line ≡ first_line rest → start ≤ length bytes → start + length line ≡ length bytes → reads_as words line ≡ false → reading words (lines_from bytes start) ≡ reading words (lines_from bytes from) → None ≡ option_map span_of (reading words (lines_from bytes from))
reading-none words bytes rest line start from rest_is line_is within all reads same =
    let found : reading words (lines_from bytes start) ≡ None = ap (reading words) (lines_from-last bytes rest line start rest_is line_is within all) ∙ rw reads refl in
    ap (option_map span_of) (sym found ∙ same)

-- it isn't the first line
pub reading-next : (words bytes rest line : List ℕ) (start from : ℕ) → rest ≡ drop start bytes → line ≡ first_line rest → start ≤ length bytes → start + length line < length bytes → reads_as words line ≡ false → reading words (lines_from bytes start) ≡ reading words (lines_from bytes from) → reading words (lines_from bytes (start + length line + 1)) ≡ reading words (lines_from bytes from)
reading-next words bytes rest line start from rest_is line_is within some reads same =
    let passed : reading words (lines_from bytes start) ≡ reading words (lines_from bytes (start + length line + 1)) = ap (reading words) (lines_from-more bytes rest line start rest_is line_is within some) ∙ rw reads refl in
    sym passed ∙ same

-- the opening line gives no tokens, and ends them
pub head_tokens-here : (bytes rest line : List ℕ) (start : ℕ) → rest ≡ drop start bytes → line ≡ first_line rest → start ≤ length bytes → length line ≤ length rest → reads_as opening_words line ≡ true → head_tokens (lines_from bytes start) ≡ []
head_tokens-here bytes rest line start rest_is line_is within few reads =
    let ls = lines_from-some bytes rest line start rest_is line_is within few in
    ap head_tokens ls.1 ∙ rw reads refl

pub head_tokens-last : (bytes rest line : List ℕ) (start : ℕ) → rest ≡ drop start bytes → line ≡ first_line rest → start ≤ length bytes → start + length line ≡ length bytes → reads_as opening_words line ≡ false → head_tokens (lines_from bytes start) ≡ line_tokens (record { place = start; bytes = line })
head_tokens-last bytes rest line start rest_is line_is within all reads =
    ap head_tokens (lines_from-last bytes rest line start rest_is line_is within all) ∙ rw reads (append-nil (line_tokens (record { place = start; bytes = line })))

pub head_tokens-next : (bytes rest line : List ℕ) (start : ℕ) → rest ≡ drop start bytes → line ≡ first_line rest → start ≤ length bytes → start + length line < length bytes → reads_as opening_words line ≡ false → head_tokens (lines_from bytes start) ≡ line_tokens (record { place = start; bytes = line }) ++ head_tokens (lines_from bytes (start + length line + 1))
head_tokens-next bytes rest line start rest_is line_is within some reads =
    ap head_tokens (lines_from-more bytes rest line start rest_is line_is within some) ∙ rw reads refl
