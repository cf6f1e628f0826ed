-- Pieces of a text that lex as they are written: each word is the longest token in front of what follows it, as names, numbers and symbols are.
use Rattle.std.proofs.Common.{◌≡◌, ℕ, Bool, true, false, not, List, [], ◌∷◌, arith, refl, sym, ap, ◌∙◌, ◌+◌, ◌≤◌, ◌++◌, append_assoc, length, take, drop, map, length-append, ◌-◌, ◌*◌, ◌/◌, ◌%◌, ◌<◌}
use Rattle.std.specs.Prelude.{◌==◌, ◌||◌, codes, Some, ◌&&◌, min, decimal}
use Rattle.std.proofs.lemmas.Bool.Decides.{nat_tests}
use Rattle.c_tokens.specs.Bytes.{is_space, is_in_line, is_sign, is_name_byte, first_line, is_letter, is_name_start, is_number_byte, is_digit}
use Rattle.std.specs.List.{list_all, prefix_len}
use Rattle.std.proofs.lemmas.List.{drop-drop}
use Rattle.std.proofs.Math.Numerals.{one-add}
use Rattle.std.proofs.Math.Seq.{drop-append_seam, take-append_seam}
use Rattle.c_tokens.specs.Words.{begins_with}
use Rattle.c_tokens.specs.Pieces.{piece_of, piece_length, name_at, name_kind, is_keyword, number_rest, begins_pair, is_among}
use Rattle.c_tokens.specs.Tokens.{tokens_in, end_kind, token_at, piece_tokens}
use Rattle.c_tokens.specs.declared.token.TokenKind.{TokenKind}
use Rattle.c_tokens.specs.declared.token.TokenKind.TheVariants.{End, Name, Number, Symbol}
use Rattle.c_tokens.proofs.Scanned.{tokens_in-more}
use Rattle.c_grammar.specs.Words.{Word, word_of}
use Rattle.c_grammar.proofs.Steps.{domain, bool_cases}
use Rattle.std.proofs.lemmas.List.Folds.{list_all-append}
use Rattle.std.proofs.lemmas.Fmt.{decimal_by_steps}
use Rattle.std.proofs.lemmas.Bool.{and_from, and_parts, not-true}
use Rattle.c_reading.specs.Numbers.{value_from, is_integer}
use Rattle.c_tokens.specs.Names.{IsName}
use Rattle.c_grammar.proofs.Lexical.{digit_goes_on}
use Rattle.iolb_model.specs.declared.limits.TheConstants.{NUMBER_SIZE}

-- a byte that a word begins with: no space, newline or `#`
abbrev pub is_safe : ℕ → Bool
is_safe b = not (is_space b || b == 10 || b == 35)

-- whether a text begins with a byte of this kind
abbrev pub begins_so : (ℕ → Bool) → List ℕ → Bool
begins_so p [] = false
begins_so p (b ∷ bytes) = p b

-- whether a text is empty or begins with a byte of this kind
abbrev pub goes_on : (ℕ → Bool) → List ℕ → Bool
goes_on p [] = true
goes_on p (b ∷ bytes) = p b

-- bytes that end a name, and a number
abbrev pub ends_name : ℕ → Bool
ends_name b = not (is_name_byte b)

-- a byte that ends a number
abbrev pub ends_number : ℕ → Bool
ends_number b = not (is_name_byte b || b == 46 || is_sign b)

-- ---- pieces

-- A piece of a printed text: a space, a newline, a word, or the end of a directive or of the program, which has no bytes.
pub data Piece : Type 0 where
  space : Piece
  newline : Piece
  word : TokenKind → List ℕ → Piece
  end : TokenKind → Piece

-- their text
abbrev pub text_in : List Piece → List ℕ
text_in [] = []
text_in (space ∷ pieces) = 32 ∷ text_in pieces
text_in (newline ∷ pieces) = 10 ∷ text_in pieces
text_in (word kind bytes ∷ pieces) = bytes ++ text_in pieces
text_in (end kind ∷ pieces) = text_in pieces

-- their words
abbrev pub words_in : List Piece → List Word
words_in [] = []
words_in (word kind bytes ∷ pieces) = record { kind = kind; bytes = bytes } ∷ words_in pieces
words_in (end kind ∷ pieces) = record { kind = kind; bytes = [] } ∷ words_in pieces
words_in (_ ∷ pieces) = words_in pieces

-- a directive, or a program
abbrev pub Region : Type 0
Region = domain end_kind

-- a word that is one token in front of this text, in each region
pub record IsWordAt (kind : TokenKind) (bytes rest : List ℕ) : Type 0 where
  pub begins : begins_so is_safe bytes ≡ true
  pub in_line : list_all is_in_line bytes ≡ true
  pub long : (region : Region) → piece_length (piece_of region (bytes ++ rest)) ≡ Some (length bytes)
  pub token : (region : Region) (place : ℕ) → piece_tokens place (piece_of region (bytes ++ rest)) ≡ token_at kind place (length bytes) ∷ []

-- Pieces that lex as they are written, inside a line or at its begin, up to the end of the part, whose token is of this
-- kind. A program has newlines, and ends at a line's begin.
abbrev pub AreLexed : TokenKind → Bool → List Piece → Type 0
AreLexed last inside [] = ⊥
AreLexed last inside (space ∷ pieces) = (inside ≡ true) × AreLexed last true pieces
AreLexed last inside (newline ∷ pieces) = (last ≡ End) × AreLexed last false pieces
AreLexed last inside (word kind bytes ∷ pieces) = IsWordAt kind bytes (text_in pieces) × AreLexed last true pieces
AreLexed last inside (end kind ∷ pieces) = (kind ≡ last) × (pieces ≡ []) × (last ≡ End → inside ≡ false)

-- ---- bytes in front

-- a byte that begins a word is no space
pub safe-not_space : (b : ℕ) → is_safe b ≡ true → is_space b ≡ false
safe-not_space b h = grind (arith, nat_tests)

-- a byte that begins a word is no `#`
pub safe-not_hash : (b : ℕ) → is_safe b ≡ true → (b == 35) ≡ false
safe-not_hash b h = grind (arith, nat_tests)

-- a line that begins with a word is no directive
safe-no_hash : (b : ℕ) (bytes : List ℕ) → is_safe b ≡ true → begins_with (codes "#") (first_line (b ∷ bytes)) ≡ false
safe-no_hash b bytes h =
    let in_line : (b == 10) ≡ false = grind (arith, nat_tests) in
    let no_space : is_space b ≡ false = safe-not_space b h in
    let no_hash : (b == 35) ≡ false = safe-not_hash b h in
    let line : first_line (b ∷ bytes) ≡ b ∷ first_line bytes = rw in_line (rw one-add refl) in
    ap (begins_with (codes "#")) line ∙ rw (no_space, no_hash) refl

-- a word is no directive
word-no_hash : (bytes rest : List ℕ) → begins_so is_safe bytes ≡ true → begins_with (codes "#") (first_line (bytes ++ rest)) ≡ false
word-no_hash [] rest h = absurd cc
word-no_hash (b ∷ bytes) rest h = safe-no_hash b (bytes ++ rest) h

-- what stands at a line's begin is no directive
pub line-no_hash : (last : TokenKind) (pieces : List Piece) → AreLexed last false pieces → begins_with (codes "#") (first_line (text_in pieces)) ≡ false
line-no_hash last [] h = absurd h
line-no_hash last (space ∷ pieces) h = absurd (let e : ◌≡◌ {A = Bool} false true = h.0 in cc)
line-no_hash last (newline ∷ pieces) h = refl
line-no_hash last (word kind bytes ∷ pieces) h = word-no_hash bytes (text_in pieces) h.0.begins
line-no_hash last (end kind ∷ pieces) h = ap (λ pieces. begins_with (codes "#") (first_line (text_in pieces))) h.1

-- a word has a byte
some_bytes : (bytes : List ℕ) → begins_so is_safe bytes ≡ true → 1 ≤ length bytes
some_bytes [] h = absurd cc
some_bytes (b ∷ bytes) h = omega arith

-- a word gives its token
word-tokens : (region : Region) (kind : TokenKind) (bytes rest : List ℕ) (place : ℕ) → IsWordAt kind bytes rest → tokens_in region 0 place (bytes ++ rest) ≡ token_at kind place (length bytes) ∷ tokens_in region 0 (place + length bytes) rest
word-tokens region kind bytes rest place h =
    tokens_in-more region place (length bytes) (bytes ++ rest) (some_bytes bytes h.begins) (omega (arith, length-append bytes rest)) (h.long region)
    ∙ ap (λ ts. ts ++ tokens_in region 0 (place + length bytes) (drop (length bytes) (bytes ++ rest))) (h.token region place)
    ∙ ap (λ r. token_at kind place (length bytes) ∷ tokens_in region 0 (place + length bytes) r) (drop-append_seam bytes rest)

-- a newline gives none
newline-tokens : (region : Region) (rest : List ℕ) (place : ℕ) → begins_with (codes "#") (first_line rest) ≡ false → tokens_in region 0 place (10 ∷ rest) ≡ tokens_in region 0 (place + 1) rest
newline-tokens region rest place h = rw h refl

-- ---- the words of their tokens

-- behind what stands in front
pub drop_next : (place : ℕ) (text front rest : List ℕ) → drop place text ≡ front ++ rest → drop (place + length front) text ≡ rest
drop_next place text front rest h = sym (drop-drop (length front) place text) ∙ ap (drop (length front)) h ∙ drop-append_seam front rest

-- where pieces stand in a text, their tokens are their words
pub lexed_words : (inside : Bool) (rest : List ℕ) (region : Region) (pieces : List Piece) (text : List ℕ) (place : ℕ) → AreLexed (end_kind region) inside pieces → drop place text ≡ text_in pieces ++ rest
    → map (word_of text) (tokens_in region 0 place (text_in pieces)) ≡ words_in pieces
lexed_words inside rest region [] text place h e = absurd h
lexed_words inside rest region (space ∷ pieces) text place h e = lexed_words true rest region pieces text (place + 1) h.1 (drop_next place text (32 ∷ []) (text_in pieces ++ rest) e)
lexed_words inside rest region (newline ∷ pieces) text place h e =
    ap (map (word_of text)) (newline-tokens region (text_in pieces) place (line-no_hash (end_kind region) pieces h.1))
    ∙ lexed_words false rest region pieces text (place + 1) h.1 (drop_next place text (10 ∷ []) (text_in pieces ++ rest) e)
lexed_words inside rest region (word kind bytes ∷ pieces) text place h e =
    let here : drop place text ≡ bytes ++ (text_in pieces ++ rest) = e ∙ append_assoc bytes (text_in pieces) rest in
    ap (map (word_of text)) (word-tokens region kind bytes (text_in pieces) place h.0)
    ∙ ap (λ b. record { kind = kind; bytes = b } ∷ map (word_of text) (tokens_in region 0 (place + length bytes) (text_in pieces))) (ap (take (length bytes)) here ∙ take-append_seam bytes (text_in pieces ++ rest))
    ∙ ap (λ ws. record { kind = kind; bytes = bytes } ∷ ws) (lexed_words true rest region pieces text (place + length bytes) h.1 (drop_next place text bytes (text_in pieces ++ rest) here))
lexed_words inside rest region (end kind ∷ pieces) text place h e =
    ap (λ p. map (word_of text) (tokens_in region 0 place (text_in p))) h.1 ∙ ap (λ k. record { kind = k; bytes = [] } ∷ []) (sym h.0) ∙ ap (λ p. record { kind = kind; bytes = [] } ∷ words_in p) (sym h.1)

-- ---- names

-- the run of bytes of a kind up to one of another
run : (p : ℕ → Bool) (xs rest : List ℕ) → list_all p xs ≡ true → goes_on (λ b. not (p b)) rest ≡ true → prefix_len p (xs ++ rest) ≡ length xs
run p [] [] all ends = refl
run p [] (b ∷ rest) all ends = let stops : p b ≡ false = not-true (p b) ends in rw stops refl
run p (x ∷ xs) rest all ends =
    let both = and_parts (p x) (list_all p xs) all in
    let here : p x ≡ true = both.0 in
    rw here (ap (λ n. 1 + n) (run p xs rest both.1 ends) ∙ one-add (length xs))

-- bytes of a kind are bytes of a wider kind
all_wider : (p q : ℕ → Bool) → ((b : ℕ) → p b ≡ true → q b ≡ true) → (bytes : List ℕ) → list_all p bytes ≡ true → list_all q bytes ≡ true
all_wider p q wider [] h = refl
all_wider p q wider (b ∷ bytes) h = let both = and_parts (p b) (list_all p bytes) h in and_from (q b) (list_all q bytes) (wider b both.0) (all_wider p q wider bytes both.1)

-- a name is one token in front of what ends it
pub name_fits : (name rest : List ℕ) → IsName name → goes_on ends_name rest ≡ true → IsWordAt Name name rest
name_fits [] rest is ends = absurd (let e = is.begins in cc)
name_fits (b ∷ bytes) rest is ends =
    let start : is_name_start b ≡ true = is.begins in
    let no_space : is_space b ≡ false = grind (arith, nat_tests) in
    let in_line : (b == 10) ≡ false = grind (arith, nat_tests) in
    let all : list_all is_name_byte (b ∷ bytes) ≡ true = is.bytes in
    let long : prefix_len is_name_byte (b ∷ (bytes ++ rest)) ≡ length (b ∷ bytes) = run is_name_byte (b ∷ bytes) rest all ends in
    let word : take (length (b ∷ bytes)) (b ∷ (bytes ++ rest)) ≡ b ∷ bytes = take-append_seam (b ∷ bytes) rest in
    let no_word : is_keyword (b ∷ bytes) ≡ false = is.no_word in
    let piece : (region : Region) → piece_of region (b ∷ (bytes ++ rest)) ≡ name_at (b ∷ (bytes ++ rest)) = λ (region : Region). rw (no_space, in_line, start) refl in
    record {
      begins = rw (no_space, in_line) (grind (arith, nat_tests));
      in_line = all_wider is_name_byte is_in_line (λ b h. grind (arith, nat_tests)) (b ∷ bytes) is.bytes;
      long = λ region. ap piece_length (piece region) ∙ ap Some long;
      token = λ region place. ap (piece_tokens place) (piece region) ∙ (
          ap (λ n. token_at (name_kind (take n (b ∷ (bytes ++ rest)))) place n ∷ []) long
          ∙ ap (λ w. token_at (name_kind w) place (length (b ∷ bytes)) ∷ []) word ∙ rw no_word refl);
    }

-- ---- numbers

-- what ends a number doesn't go on with it
ends-number_byte : (before b : ℕ) → ends_number b ≡ true → is_number_byte before b ≡ false
ends-number_byte before b h =
    let a : is_letter b ≡ false = grind (arith, nat_tests) in
    let d : is_digit b ≡ false = grind (arith, nat_tests) in
    let p : (b == 46) ≡ false = grind (arith, nat_tests) in
    let s : is_sign b ≡ false = grind (arith, nat_tests) in
    rw (a, d, p, s) refl

-- a number goes on up to what ends it
number_run : (before : ℕ) (ds rest : List ℕ) → list_all is_digit ds ≡ true → goes_on ends_number rest ≡ true → number_rest before (ds ++ rest) ≡ length ds
number_run before [] [] all ends = refl
number_run before [] (b ∷ rest) all ends = let stops = ends-number_byte before b ends in rw stops refl
number_run before (d ∷ ds) rest all ends =
    let both = and_parts (is_digit d) (list_all is_digit ds) all in
    let here = digit_goes_on before d both.0 in
    rw here (ap (λ n. 1 + n) (number_run d ds rest both.1 ends) ∙ one-add (length ds))

-- a number is one token in front of what ends it
pub number_fits : (ds rest : List ℕ) → 1 ≤ length ds → list_all is_digit ds ≡ true → goes_on ends_number rest ≡ true → IsWordAt Number ds rest
number_fits [] rest some all ends = absurd (omega arith)
number_fits (d ∷ ds) rest some all ends =
    let both = and_parts (is_digit d) (list_all is_digit ds) all in
    let digit : is_digit d ≡ true = both.0 in
    let no_space : is_space d ≡ false = grind (arith, nat_tests) in
    let in_line : (d == 10) ≡ false = grind (arith, nat_tests) in
    let no_start : is_name_start d ≡ false = grind (arith, nat_tests) in
    let long : 1 + number_rest d (ds ++ rest) ≡ length (d ∷ ds) = ap (λ n. 1 + n) (number_run d ds rest both.1 ends) ∙ one-add (length ds) in
    record {
      begins = rw (no_space, in_line) (grind (arith, nat_tests));
      in_line = all_wider is_digit is_in_line (λ b h. grind (arith, nat_tests)) (d ∷ ds) all;
      long = λ region. rw (no_space, in_line, no_start, digit) (ap Some long);
      token = λ region place. rw (no_space, in_line, no_start, digit) (ap (λ n. token_at Number place n ∷ []) long);
    }

-- ---- symbols

-- whether a byte begins symbols alone
abbrev pub is_symbol : ℕ → Bool
is_symbol b = not (is_space b || b == 10 || b == 35 || is_name_byte b || b == 46 || b == 47) && is_among (codes "()[]{};,=+-*/%<>!&|?:.") b

-- a symbol of one byte is one token in front of what makes no pair
pub single_fits : (b : ℕ) (rest : List ℕ) → is_symbol b ≡ true → begins_pair b rest ≡ false → IsWordAt Symbol (b ∷ []) rest
single_fits b rest is pair =
    let both = and_parts _ (is_among (codes "()[]{};,=+-*/%<>!&|?:.") b) is in
    let apart = both.0 in
    let a : is_space b ≡ false = grind (arith, nat_tests) in
    let n : (b == 10) ≡ false = grind (arith, nat_tests) in
    let h : (b == 35) ≡ false = grind (arith, nat_tests) in
    let s : is_name_start b ≡ false = grind (arith, nat_tests) in
    let d : is_digit b ≡ false = grind (arith, nat_tests) in
    let p : (b == 46) ≡ false = grind (arith, nat_tests) in
    let c : (b == 47) ≡ false = grind (arith, nat_tests) in
    let among : is_among (codes "()[]{};,=+-*/%<>!&|?:.") b ≡ true = both.1 in
    record {
      begins = rw (a, n, h) refl;
      in_line = rw n refl;
      long = λ region. rw (a, n, s, d, p, c, pair, among) refl;
      token = λ region place. rw (a, n, s, d, p, c, pair, among) refl;
    }

-- a byte that is in no pair of two
pub never_pair : (b : ℕ) (rest : List ℕ) → is_among (codes "+-*/<>=!") b ≡ false → is_among (codes "+-&|") b ≡ false → begins_pair b rest ≡ false
never_pair b [] first second = refl
never_pair b (c ∷ rest) first second = rw (first, second) (bool_cases (c == 61) (λ e. rw e (bool_cases (c == b) (λ f. rw f refl) (λ f. rw f refl))) (λ e. rw e (bool_cases (c == b) (λ f. rw f refl) (λ f. rw f refl))))

-- a symbol that never is one of two bytes
pub plain_fits : (b : ℕ) (rest : List ℕ) → is_symbol b ≡ true → is_among (codes "+-*/<>=!") b ≡ false → is_among (codes "+-&|") b ≡ false → IsWordAt Symbol (b ∷ []) rest
plain_fits b rest is first second = single_fits b rest is (never_pair b rest first second)

-- a sign or a `*` in front of a name or a number
pub minus_before : (rest : List ℕ) → begins_so is_name_byte rest ≡ true → begins_pair 45 rest ≡ false
minus_before [] h = absurd cc
minus_before (c ∷ rest) h = let a : (c == 61) ≡ false = grind (arith, nat_tests) in let b : (c == 45) ≡ false = grind (arith, nat_tests) in rw (a, b) refl

-- a `*` in front of a name is one symbol
pub star_before : (rest : List ℕ) → begins_so is_name_byte rest ≡ true → begins_pair 42 rest ≡ false
star_before [] h = absurd cc
star_before (c ∷ rest) h = let a : (c == 61) ≡ false = grind (arith, nat_tests) in let b : (c == 42) ≡ false = grind (arith, nat_tests) in rw (a, b) refl

-- ---- decimal numbers

-- the value of digits with one more
value_from-append : (n : ℕ) (ds : List ℕ) (c : ℕ) → value_from n (ds ++ c ∷ []) ≡ min (10 * value_from n ds + (c - 48)) NUMBER_SIZE
value_from-append n [] c = refl
value_from-append n (d ∷ ds) c = value_from-append (min (10 * n + (d - 48)) NUMBER_SIZE) ds c

-- digits that write this number, of which the first is 0 only where the number is 0
pub record Writes (n : ℕ) (ds : List ℕ) : Type 0 where
  pub some : 1 ≤ length ds
  pub digits : list_all is_digit ds ≡ true
  pub lead : 0 < n → begins_so (λ b. not (b == 48)) ds ≡ true
  pub is_integer : is_integer ds ≡ true
  pub value : value_from 0 ds ≡ n

-- a digit's byte
digit_is : (n : ℕ) → n < 10 → is_digit (48 + n) ≡ true
digit_is n h = grind (arith, nat_tests)

-- one digit
writes_one : (n : ℕ) → n < 10 → Writes n ((48 + n) ∷ [])
writes_one n h = record {
  some = omega arith;
  digits = and_from (is_digit (48 + n)) true (digit_is n h) refl;
  lead = λ some. grind (arith, nat_tests);
  is_integer = digit_is n h;
  value = omega arith;
}

-- digits with one more are an integer
longer_integer : (ds : List ℕ) (c : ℕ) → begins_so (λ b. not (b == 48)) ds ≡ true → list_all is_digit (ds ++ c ∷ []) ≡ true → is_integer (ds ++ c ∷ []) ≡ true
longer_integer [] c lead all = absurd cc
longer_integer (b ∷ []) c lead all = and_from (not (b == 48)) _ lead all
longer_integer (b ∷ d ∷ ds) c lead all = and_from (not (b == 48)) _ lead all

-- what stands first stays first
leads_longer : (p : ℕ → Bool) (ds more : List ℕ) → begins_so p ds ≡ true → begins_so p (ds ++ more) ≡ true
leads_longer p [] more h = absurd cc
leads_longer p (d ∷ ds) more h = h

-- one digit more
writes_more : (n : ℕ) (ds : List ℕ) → 10 ≤ n → n < NUMBER_SIZE → Writes (n / 10) ds → Writes n (ds ++ (48 + n % 10) ∷ [])
writes_more n ds long small is =
    let lead : begins_so (λ b. not (b == 48)) ds ≡ true = is.lead (omega arith) in
    let all : list_all is_digit (ds ++ (48 + n % 10) ∷ []) ≡ true = list_all-append is_digit ds ((48 + n % 10) ∷ []) ∙ and_from (list_all is_digit ds) (is_digit (48 + n % 10) && true) is.digits (and_from (is_digit (48 + n % 10)) true (digit_is (n % 10) (omega arith)) refl) in
    record {
      some = omega (arith, length-append ds ((48 + n % 10) ∷ []));
      digits = all;
      lead = λ some. leads_longer _ ds _ lead;
      is_integer = longer_integer ds (48 + n % 10) lead all;
      value = value_from-append 0 ds (48 + n % 10) ∙ ap (λ v. min (10 * v + (48 + n % 10 - 48)) NUMBER_SIZE) is.value ∙ omega arith;
    }

-- the decimal text of a number
pub writes_decimal : (n : ℕ) → n < NUMBER_SIZE → Writes n (decimal n)
writes_decimal n small =
    decimal_by_steps (λ m ds. m < NUMBER_SIZE → Writes m ds) (λ m l few. writes_one m l) (λ m ds l is few. writes_more m ds l few (is (omega arith))) n (omega arith) small
