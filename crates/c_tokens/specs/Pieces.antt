-- The piece in front of a text: a token as long as can be (ISO/IEC 9899, 6.4), or bytes that give none.
use Rattle.std.specs.Prelude.{ℕ, ◌+◌, ◌≤◌, ◌==◌, ◌&&◌, ◌||◌, Bool, true, false, if◌then◌else◌, List, [], ◌∷◌, length, take, Option, Some, None, codes, bytes_eq}
use Rattle.std.specs.List.{prefix_len, list_any}
use Rattle.c_tokens.specs.Bytes.{is_space, is_in_line, is_name_start, is_name_byte, is_digit, is_number_byte, first_line}
use Rattle.c_tokens.specs.Words.{begins_with, pragma_words, directive_words}
use Rattle.c_tokens.specs.declared.token.TokenKind.{TokenKind}
use Rattle.c_tokens.specs.declared.token.TokenKind.TheVariants.{Name, Word, Number, Symbol, Directive, Bad}
use Rattle.c_tokens.specs.declared.piece.Piece.{Piece}
use Rattle.c_tokens.specs.declared.piece.Piece.TheVariants.{Blank, Whole, Last}
use Rattle.c_tokens.specs.declared.piece.Region.{Region}
use Rattle.c_tokens.specs.declared.piece.Region.TheVariants.{Line, Scop}

-- whether a byte is one of these
abbrev pub is_among : List ℕ → ℕ → Bool
is_among set b = list_any (λ c. c == b) set

-- the words of C that are no names
abbrev pub keywords : List (List ℕ)
keywords = codes "for" ∷ codes "if" ∷ codes "else" ∷ codes "int" ∷ codes "while" ∷ codes "do" ∷ codes "return" ∷ codes "goto" ∷ codes "break" ∷ codes "continue" ∷ codes "switch" ∷ []

abbrev pub is_keyword : List ℕ → Bool
is_keyword word = list_any (bytes_eq word) keywords

-- a name, or a word that C keeps for itself
abbrev pub name_kind : List ℕ → TokenKind
name_kind word = if is_keyword word then Word else Name

-- the longest name in front
abbrev pub name_at : List ℕ → Piece
name_at bytes = Whole (name_kind (take (prefix_len is_name_byte bytes) bytes)) (prefix_len is_name_byte bytes)

-- whether this byte stands in front
abbrev pub has_first : ℕ → List ℕ → Bool
has_first c [] = false
has_first c (b ∷ bytes) = b == c

-- whether a digit stands in front
abbrev pub has_digit : List ℕ → Bool
has_digit [] = false
has_digit (b ∷ bytes) = is_digit b

-- a number begins with a digit, or with `.` and a digit
abbrev pub begins_number : ℕ → List ℕ → Bool
begins_number b rest = is_digit b || (b == 46 && has_digit rest)

-- how many bytes go on with a number whose last byte is `before`
abbrev pub number_rest : ℕ → List ℕ → ℕ
number_rest before [] = 0
number_rest before (b ∷ bytes) = if is_number_byte before b then 1 + number_rest b bytes else 0

-- two bytes that are one symbol
abbrev pub is_pair : ℕ → ℕ → Bool
is_pair b c = (c == 61 && is_among (codes "+-*/<>=!") b) || (c == b && is_among (codes "+-&|") b)

-- whether the second byte makes a symbol of two
abbrev pub begins_pair : ℕ → List ℕ → Bool
begins_pair b [] = false
begins_pair b (c ∷ rest) = is_pair b c

-- a symbol as long as can be, or a byte that begins no token
abbrev pub symbol_at : ℕ → List ℕ → Piece
symbol_at b rest =
    if begins_pair b rest then Whole Symbol 2
    else (if is_among (codes "()[]{};,=+-*/%<>!&|?:.") b then Whole Symbol 1 else Last Bad 0)

-- whether this byte and those behind it begin with `*/`
abbrev pub ends_comment : ℕ → List ℕ → Bool
ends_comment b rest = b == 42 && has_first 47 rest

-- the place behind the first `*/` of bytes that stand at this place
abbrev pub comment_end : ℕ → List ℕ → Option ℕ
comment_end place [] = None
comment_end place (b ∷ bytes) = if ends_comment b bytes then Some (place + 2) else comment_end (place + 1) bytes

-- a comment that `/*` opens
abbrev pub block_comment : Option ℕ → Piece
block_comment None = Last Bad 0
block_comment (Some n) = Blank (2 + n)

-- what a `/` begins between the opening and the closing line: a comment up to the line's end, one up to `*/`, or a symbol
abbrev pub slash_at : List ℕ → Piece
slash_at [] = symbol_at 47 []
slash_at (b ∷ bytes) =
    if b == 47 then Blank (2 + prefix_len is_in_line bytes)
    else (if b == 42 then block_comment (comment_end 0 bytes) else symbol_at 47 (b ∷ bytes))

-- the line behind a newline: a directive isn't taken there, a line of another pragma is passed over, and no other
-- line begins with `#`
abbrev pub hash_line : List ℕ → Piece
hash_line line =
    if begins_with directive_words line then Last Directive (1 + prefix_len is_space line)
    else (if begins_with pragma_words line then Blank (1 + length line) else Last Bad (1 + prefix_len is_space line))

-- a newline, and what it decides about the line behind it
abbrev pub newline_at : List ℕ → Piece
newline_at bytes = if begins_with (codes "#") (first_line bytes) then hash_line (first_line bytes) else Blank 1

-- whether comments may stand there
abbrev pub has_comments : Region → Bool
has_comments Line = false
has_comments Scop = true

-- the piece that this byte begins
abbrev pub piece_from : Region → ℕ → List ℕ → Piece
piece_from region b rest =
    if is_space b then Blank 1
    else (if b == 10 then newline_at rest
    else (if is_name_start b then name_at (b ∷ rest)
    else (if begins_number b rest then Whole Number (1 + number_rest b rest)
    else (if b == 47 && has_comments region then slash_at rest
    else symbol_at b rest))))

-- the piece in front of a text that isn't empty
abbrev pub piece_of : Region → List ℕ → Piece
piece_of region [] = Blank 0
piece_of region (b ∷ rest) = piece_from region b rest

-- the bytes that a piece passes, or those before the last token
abbrev pub reach : Piece → ℕ
reach (Blank n) = n
reach (Whole kind n) = n
reach (Last kind n) = n

-- how many bytes a piece has, where it isn't the last
abbrev pub piece_length : Piece → Option ℕ
piece_length (Blank n) = Some n
piece_length (Whole kind n) = Some n
piece_length (Last kind n) = None

-- that a piece that isn't the last has a byte, and that no piece passes so many bytes
abbrev pub IsWithin : Piece → ℕ → Type 0
IsWithin (Blank n) len = (1 ≤ n) × (n ≤ len)
IsWithin (Whole kind n) len = (1 ≤ n) × (n ≤ len)
IsWithin (Last kind n) len = n ≤ len
