-- The tokens of a part, piece by piece, and of a whole text, from where its opening and its closing line stand.
use Rattle.std.proofs.Common.{◌≡◌, ℕ, zero, suc, ◌+◌, ◌-◌, ◌≤◌, List, [], ◌∷◌, ◌++◌, length, drop, ap, sym, ◌∙◌, arith, Some, None, append-nil, append_assoc, refl}
use Rattle.c_tokens.specs.Pieces.{piece_of, piece_length, reach, IsWithin}
use Rattle.c_tokens.specs.Tokens.{tokens_in, piece_tokens}
use Rattle.c_tokens.specs.declared.token.Token.{Token}
use Rattle.c_tokens.specs.declared.piece.Piece.{Piece}
use Rattle.c_tokens.specs.declared.piece.Piece.TheVariants.{Blank, Whole, Last}
use Rattle.c_tokens.specs.declared.piece.Region.{Region}
use Rattle.std.specs.Prelude.{Option, option_map, option_and_then, find}
use Rattle.c_tokens.specs.Lines.{Line, lines_from, line_end, span_of}
use Rattle.c_tokens.specs.Text.{opens, closes, head_tokens, part, tokens_behind, tokens_of}
use Rattle.c_tokens.specs.declared.lines.Span.{Span}
use Rattle.c_tokens.specs.declared.piece.Region.TheVariants.{Scop}

-- behind the first bytes
pub tokens_in-skip : (region : Region) (skip place : ℕ) (bytes : List ℕ) → skip ≤ length bytes → tokens_in region skip place bytes ≡ tokens_in region 0 (place + skip) (drop skip bytes)
tokens_in-skip region zero place bytes few = ap (λ p. tokens_in region 0 p bytes) (omega arith)
tokens_in-skip region (suc skip) place [] few = absurd (omega arith)
tokens_in-skip region (suc skip) place (b ∷ bytes) few =
    tokens_in-skip region skip (place + 1) bytes (omega arith) ∙ ap (λ p. tokens_in region 0 p (drop skip bytes)) (omega arith)

-- a piece that isn't the last gives its token, and those behind its bytes follow
pub tokens_in-more : (region : Region) (place n : ℕ) (bytes : List ℕ) → 1 ≤ n → n ≤ length bytes → piece_length (piece_of region bytes) ≡ Some n → tokens_in region 0 place bytes ≡ piece_tokens place (piece_of region bytes) ++ tokens_in region 0 (place + n) (drop n bytes)
tokens_in-more region place (suc n) (b ∷ bytes) some few is =
    let less : suc n - 1 ≡ n = omega arith in
    let after : place + 1 + n ≡ place + suc n = omega arith in
    rw is (ap (λ ts. piece_tokens place (piece_of region (b ∷ bytes)) ++ ts) (ap (λ k. tokens_in region k (place + 1) bytes) less ∙ tokens_in-skip region n (place + 1) bytes (omega arith) ∙ ap (λ p. tokens_in region 0 p (drop n bytes)) after))
tokens_in-more region place _ _ some few is = absurd (omega arith)

-- the last piece gives the last token
pub tokens_in-last : (region : Region) (place : ℕ) (bytes : List ℕ) → 1 ≤ length bytes → piece_length (piece_of region bytes) ≡ None → tokens_in region 0 place bytes ≡ piece_tokens place (piece_of region bytes)
tokens_in-last region place [] some is = absurd (omega arith)
tokens_in-last region place (b ∷ bytes) some is = rw is (append-nil (piece_tokens place (piece_of region (b ∷ bytes))))

-- a piece within so many bytes reaches no further
pub reach-within : (p : Piece) (len : ℕ) → IsWithin p len → reach p ≤ len
reach-within (Blank n) len h = h.1
reach-within (Whole kind n) len h = h.1
reach-within (Last kind n) len h = h

-- a piece that isn't the last has a byte, and is within
pub piece_length-within : (p : Piece) (len n : ℕ) → IsWithin p len → piece_length p ≡ Some n → (1 ≤ n) × (n ≤ len)
piece_length-within (Blank m) len n h is = let same : m ≡ n = cc in (omega arith, omega arith)
piece_length-within (Whole kind m) len n h is = let same : m ≡ n = cc in (omega arith, omega arith)
piece_length-within (Last kind m) len n h is = cc

-- one piece more is taken
pub kept : (region : Region) (place n : ℕ) (tokens after whole : List Token) (rest : List ℕ) (p : Piece) → p ≡ piece_of region rest → IsWithin p (length rest) → piece_length p ≡ Some n → after ≡ tokens ++ piece_tokens place p → tokens ++ tokens_in region 0 place rest ≡ whole → after ++ tokens_in region 0 (place + n) (drop n rest) ≡ whole
kept region place n tokens after whole rest p is within length_is grown same =
    let bounds = piece_length-within p (length rest) n within length_is in
    let more = tokens_in-more region place n rest bounds.0 bounds.1 (ap piece_length (sym is) ∙ length_is) in
    ap (λ ts. ts ++ tokens_in region 0 (place + n) (drop n rest)) (grown ∙ ap (λ q. tokens ++ piece_tokens place q) is)
    ∙ append_assoc tokens (piece_tokens place (piece_of region rest)) (tokens_in region 0 (place + n) (drop n rest))
    ∙ ap (λ ts. tokens ++ ts) (sym more) ∙ same

pub ruleset steps = (tokens_in-more, tokens_in-last, reach-within, piece_length-within, kept)

-- ---- the tokens of a whole text

behind-found : (bytes : List ℕ) (from : ℕ) (closing : Span) (found : Option Line) → find closes (lines_from bytes (from + 1)) ≡ found → Some closing ≡ option_map span_of found → tokens_behind bytes from ≡ Some (head_tokens (lines_from bytes 0) ++ tokens_in Scop 0 from (part from closing.start bytes))
behind-found bytes from closing None found is = cc
behind-found bytes from closing (Some l) found is =
    let same : span_of l ≡ closing = cc in
    rw found (ap (λ (s : Span). Some (head_tokens (lines_from bytes 0) ++ tokens_in Scop 0 from (part from s.start bytes))) same)

text-found : (bytes : List ℕ) (opening closing : Span) (found : Option Line) → find opens (lines_from bytes 0) ≡ found → Some opening ≡ option_map span_of found → Some closing ≡ option_map span_of (find closes (lines_from bytes (opening.end + 1))) → tokens_of bytes ≡ Some (head_tokens (lines_from bytes 0) ++ tokens_in Scop 0 opening.end (part opening.end closing.start bytes))
text-found bytes opening closing None found is close = cc
text-found bytes opening closing (Some l) found is close =
    let ends : line_end l ≡ opening.end = (let same : span_of l ≡ opening = cc in ap (λ (s : Span). s.end) same) in
    ap (option_and_then (λ opening. tokens_behind bytes (line_end opening))) found ∙ ap (tokens_behind bytes) ends ∙ behind-found bytes opening.end closing _ refl close

-- the tokens of a text whose opening and closing line were found
pub tokens_of-found : (bytes : List ℕ) (opening closing : Span) (opened closed : Option Span) (tokens after : List Token) → opened ≡ Some opening → opened ≡ option_map span_of (find opens (lines_from bytes 0)) → closed ≡ Some closing → closed ≡ option_map span_of (find closes (lines_from bytes (opening.end + 1))) → tokens ≡ head_tokens (lines_from bytes 0) → after ≡ tokens ++ tokens_in Scop 0 opening.end (part opening.end closing.start bytes) → tokens_of bytes ≡ Some after
tokens_of-found bytes opening closing opened closed tokens after opening_is opening_found closing_is closing_found head all =
    text-found bytes opening closing _ refl (sym opening_is ∙ opening_found) (sym closing_is ∙ closing_found)
    ∙ ap Some (sym (all ∙ ap (λ ts. ts ++ tokens_in Scop 0 opening.end (part opening.end closing.start bytes)) head))
