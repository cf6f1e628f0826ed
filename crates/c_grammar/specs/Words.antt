-- The words of a C text: its tokens, without their places.
use Rattle.std.specs.Prelude.{ℕ, List, [], take, drop, map, Option, option_map}
use Rattle.c_tokens.specs.declared.token.Token.{Token}
use Rattle.c_tokens.specs.declared.token.TokenKind.{TokenKind}
use Rattle.c_tokens.specs.declared.token.TokenKind.TheVariants as token
use Rattle.c_tokens.specs.Text.{tokens_of}

-- a token's kind, and its bytes
pub record Word : Type 0 where
  pub kind : TokenKind
  pub bytes : List ℕ

-- the word that a token of this text is
abbrev pub word_of : List ℕ → Token → Word
word_of text t = record { kind = t.kind; bytes = take t.length (drop t.place text) }

-- the words of a text, where a line opens the program and a later one closes it
abbrev pub words_of : List ℕ → Option (List Word)
words_of bytes = option_map (map (word_of bytes)) (tokens_of bytes)

-- a name, a number, a symbol, and a word that C keeps for itself
abbrev pub a_name : List ℕ → Word
a_name bytes = record { kind = token.Name; bytes = bytes }

abbrev pub a_number : List ℕ → Word
a_number bytes = record { kind = token.Number; bytes = bytes }

abbrev pub a_symbol : List ℕ → Word
a_symbol bytes = record { kind = token.Symbol; bytes = bytes }

abbrev pub a_keyword : List ℕ → Word
a_keyword bytes = record { kind = token.Word; bytes = bytes }

-- the end of a directive's line, and the end of the program
abbrev pub line_end : Word
line_end = record { kind = token.LineEnd; bytes = [] }

abbrev pub program_end : Word
program_end = record { kind = token.End; bytes = [] }
