-- The tokens of a part of a text.
use Rattle.std.specs.Prelude.{ℕ, zero, suc, ◌+◌, ◌-◌, List, [], ◌∷◌, ◌++◌, Some, None}
use Rattle.c_tokens.specs.Pieces.{piece_of, piece_length}
use Rattle.c_tokens.specs.declared.token.Token.{Token}
use Rattle.c_tokens.specs.declared.token.TokenKind.{TokenKind}
use Rattle.c_tokens.specs.declared.token.TokenKind.TheVariants.{LineEnd, End}
use Rattle.c_tokens.specs.declared.piece.Piece.{Piece}
use Rattle.c_tokens.specs.declared.piece.Piece.TheVariants.{Blank, Whole, Last}
use Rattle.c_tokens.specs.declared.piece.Region.{Region}
use Rattle.c_tokens.specs.declared.piece.Region.TheVariants.{Line, Scop}

-- the token that stands at the end: a directive's newline, or the closing line
abbrev pub end_kind : Region → TokenKind
end_kind Line = LineEnd
end_kind Scop = End

abbrev pub token_at : TokenKind → ℕ → ℕ → Token
token_at kind place n = record { kind = kind; place = place; length = n }

-- the token of a piece at this place, where it gives one
abbrev pub piece_tokens : ℕ → Piece → List Token
piece_tokens place (Blank n) = []
piece_tokens place (Whole kind n) = token_at kind place n ∷ []
piece_tokens place (Last kind n) = token_at kind (place + n) 0 ∷ []

-- The tokens of bytes that stand at this place, behind the first `skip` of them: piece by piece, up to the last token,
-- which is a piece's own or the end's.
abbrev pub tokens_in : Region → ℕ → ℕ → List ℕ → List Token
tokens_in region skip place [] = token_at (end_kind region) place 0 ∷ []
tokens_in region (suc skip) place (b ∷ bytes) = tokens_in region skip (place + 1) bytes
tokens_in region zero place (b ∷ bytes) =
    piece_tokens place (piece_of region (b ∷ bytes))
    ++ (elim (piece_length (piece_of region (b ∷ bytes))) [ None ↦ [] | Some n ↦ tokens_in region (n - 1) (place + 1) bytes ])
