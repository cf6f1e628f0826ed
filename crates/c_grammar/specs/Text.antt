-- Whole texts of the grammar, and the words that they spell.
use Rattle.std.specs.Prelude.{ℕ, List, [], ◌∷◌, ◌++◌, map}
use Rattle.c_tokens.specs.declared.token.TokenKind.TheVariants as token
use Rattle.c_grammar.specs.Words.{Word, a_name, line_end, program_end}
use Rattle.c_grammar.specs.Affine.{Compares, compares_words}
use Rattle.c_grammar.specs.Item.{Items, items_words}

-- The lines in front of a program that name parameters or assume, each with the bytes of its head, which may have any
-- blanks between its words.
-- paramline  := '#pragma iolb param' name*
-- assumeline := '#pragma iolb assume' compare ('&&' compare)*
pub data Lines : Type 0 where
  line_none : Lines
  parameters : List ℕ → List (List ℕ) → Lines → Lines
  assumptions : List ℕ → Compares → Lines → Lines

-- their words
abbrev pub lines_words : Lines → List Word
lines_words line_none = []
lines_words (parameters head names ls) =
    record { kind = token.Parameters; bytes = head } ∷ (map a_name names ++ (line_end ∷ lines_words ls))
lines_words (assumptions head cs ls) =
    record { kind = token.Assumptions; bytes = head } ∷ (compares_words cs ++ (line_end ∷ lines_words ls))

-- a text: its lines in front of the program, and the program
pub record Text : Type 0 where
  pub lines : Lines
  pub items : Items

-- its words
abbrev pub text_words : Text → List Word
text_words t = lines_words t.lines ++ (items_words t.items ++ (program_end ∷ []))
