-- The tokens of a whole text: those of its directives, then those between its opening and its closing line.
use Rattle.std.specs.Prelude.{ℕ, ◌+◌, ◌-◌, Bool, if◌then◌else◌, List, [], ◌∷◌, ◌++◌, length, take, drop, Option, Some, None, option_map, option_and_then, find, ⊤}
use Rattle.c_tokens.specs.Words.{reads_as, past_head, opening_words, closing_words, parameters_words, assumptions_words}
use Rattle.c_tokens.specs.Lines.{Line, lines_from, line_end}
use Rattle.c_tokens.specs.Tokens.{tokens_in, token_at}
use Rattle.c_tokens.specs.declared.token.Token.{Token}
use Rattle.c_tokens.specs.declared.token.TokenKind.{TokenKind}
use Rattle.c_tokens.specs.declared.token.TokenKind.TheVariants.{Parameters, Assumptions}
use Rattle.c_tokens.specs.declared.piece.Region.TheVariants as region
use Rattle.c_tokens.specs.declared.error.TokensError.{TokensError}
use Rattle.c_tokens.specs.declared.error.TokensError.TheVariants.{NoScop, Memory}

-- whether a line opens the program, and whether it closes it
abbrev pub opens : Line → Bool
opens l = reads_as opening_words l.bytes

abbrev pub closes : Line → Bool
closes l = reads_as closing_words l.bytes

-- the tokens of a directive of which this stands behind its head
abbrev pub directive_of : TokenKind → Line → List ℕ → List Token
directive_of kind l rest =
    token_at kind l.place (length l.bytes - length rest)
    ∷ tokens_in region.Line 0 (l.place + (length l.bytes - length rest)) rest

-- the tokens of a line that assumes, or of another line
abbrev pub assumption_tokens : Line → List Token
assumption_tokens l = elim (past_head assumptions_words l.bytes) [ None ↦ [] | Some rest ↦ directive_of Assumptions l rest ]

-- the tokens of a line before the opening one
abbrev pub line_tokens : Line → List Token
line_tokens l = elim (past_head parameters_words l.bytes) [ None ↦ assumption_tokens l | Some rest ↦ directive_of Parameters l rest ]

-- the tokens of the lines before the opening one
abbrev pub head_tokens : List Line → List Token
head_tokens [] = []
head_tokens (l ∷ ls) = if opens l then [] else line_tokens l ++ head_tokens ls

-- the bytes from one place to another
abbrev pub part : ℕ → ℕ → List ℕ → List ℕ
part from to bytes = take (to - from) (drop from bytes)

-- the tokens from the opening line's newline to the closing line
abbrev pub scop_tokens : List ℕ → ℕ → Line → List Token
scop_tokens bytes from closing = tokens_in region.Scop 0 from (part from closing.place bytes)

-- the tokens of a text whose opening line ends there, where a later line closes it
abbrev pub tokens_behind : List ℕ → ℕ → Option (List Token)
tokens_behind bytes from =
    option_map (λ closing. head_tokens (lines_from bytes 0) ++ scop_tokens bytes from closing) (find closes (lines_from bytes (from + 1)))

-- the tokens of a text, where a line opens the program and a later one closes it
abbrev pub tokens_of : List ℕ → Option (List Token)
tokens_of bytes = option_and_then (λ opening. tokens_behind bytes (line_end opening)) (find opens (lines_from bytes 0))

-- where the error isn't want of memory, this holds
abbrev pub IfNoScop : TokensError → Type 0 → Type 0
IfNoScop NoScop holds = holds
IfNoScop Memory holds = ⊤
