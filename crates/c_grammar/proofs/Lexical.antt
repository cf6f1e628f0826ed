-- The words of every text are lexical: the bytes of each have its kind, and the end stands last.
use Rattle.std.proofs.Common.{◌≡◌, ℕ, zero, suc, ◌+◌, ◌-◌, ◌≤◌, Bool, true, false, List, [], ◌∷◌, ◌++◌, length, map, take, drop, refl, sym, ap, ◌∙◌, Option, Some, None, subst, arith}
use Rattle.std.specs.Prelude.{◌==◌, ◌&&◌, ◌||◌, codes, option_map, find}
use Rattle.std.specs.List.{prefix_len, list_all, AllByRecursion}
use Rattle.std.proofs.lemmas.List.{drop-drop, take-append-le, take-append-drop, append_assoc, append-nil, length-append, take_at, drop_at}
use Rattle.std.proofs.lemmas.List.Sums.{prefix_len-le-length}
use Rattle.std.proofs.lemmas.Bool.{eqb-true, or_parts, and_parts}
use Rattle.c_tokens.specs.declared.token.Token.{Token}
use Rattle.c_tokens.specs.declared.token.TokenKind.{TokenKind}
use Rattle.c_tokens.specs.declared.token.TokenKind.TheVariants as token
use Rattle.c_tokens.specs.Bytes.{is_space, is_letter, is_digit, is_name_start, is_name_byte, is_number_byte, first_line, is_blank}
use Rattle.c_tokens.specs.Words.{begins_with, directive_words, pragma_words, past_blanks, past_byte, past_words, past_head, parameters_words, assumptions_words}
use Rattle.c_tokens.specs.Pieces.{is_among, is_keyword, name_kind, name_at, begins_number, number_rest, is_pair, symbol_at, block_comment, comment_end, slash_at, newline_at, piece_from, piece_of, has_comments, piece_length}
use Rattle.c_tokens.specs.Tokens.{end_kind, tokens_in, token_at, piece_tokens}
use Rattle.c_grammar.specs.Words.{Word, word_of}
use Rattle.c_grammar.proofs.Steps.{spelled_kind, class, goes_on, is_last, AreLexical, IsSpelled, all_spelled, bool_cases, if_holds, domain}
use Rattle.std.proofs.lemmas.Option.{option_and_then_some}
use Rattle.c_tokens.specs.Lines.{Line, in_front, lines, lines_from, line_end}
use Rattle.c_tokens.specs.Text.{opens, closes, directive_of, assumption_tokens, line_tokens, head_tokens, part, scop_tokens, tokens_behind, tokens_of}

-- ---- pieces

-- a piece gives no token at its place, one of so many bytes that have its kind, or the last
abbrev IsLexicalAs : List ℕ → ℕ → List Token → Option ℕ → Type 0
IsLexicalAs bytes place [] None = ⊥
IsLexicalAs bytes place [] (Some n) = Unit {0}
IsLexicalAs bytes place (t ∷ ts) None = (t ∷ ts ≡ token_at t.kind t.place 0 ∷ []) × (class t.kind ≡ token.End) × (is_last t.kind ≡ false) × (goes_on t.kind ≡ false)
IsLexicalAs bytes place (t ∷ ts) (Some n) = (t ∷ ts ≡ token_at t.kind place n ∷ []) × (n ≤ length bytes) × (class t.kind ≡ spelled_kind (take n bytes)) × (is_last t.kind ≡ false)

-- the same of a piece in front of these bytes
abbrev IsLexical : List ℕ → ℕ → domain piece_length → Type 0
IsLexical bytes place p = IsLexicalAs bytes place (piece_tokens place p) (piece_length p)

-- one of two tests succeeded
pub or_cases : {P : Type 0} (a b : Bool) → (a || b) ≡ true → (a ≡ true → P) → (b ≡ true → P) → P
or_cases true b e t f = t refl
or_cases false b e t f = f e

-- a set that lacks a byte has none that is it
not_byte : (set : List ℕ) (c b : ℕ) → is_among set c ≡ false → is_among set b ≡ true → (b == c) ≡ false
not_byte set c b lacks has = bool_cases (b == c) (λ is. let same : b ≡ c = eqb-true b c is in let e = rw same at has in cc) (λ no. no)

-- bytes that begin no name, no number, no space and no head are a symbol
symbol_kind : (b : ℕ) (rest : List ℕ) → is_name_start b ≡ false → begins_number b rest ≡ false → is_space b ≡ false → (b == 35) ≡ false → token.Symbol ≡ spelled_kind (b ∷ rest)
unfolding spelled_kind
symbol_kind b rest n m s h = rw (n, m, s, h) refl

-- a symbol's bytes have its kind
symbol_lexical : (place : ℕ) (b : ℕ) (rest : List ℕ) → is_name_start b ≡ false → begins_number b rest ≡ false → is_space b ≡ false → IsLexical (b ∷ rest) place (symbol_at b rest)
symbol_lexical place b [] n m s = if_holds (IsLexical (b ∷ []) place) _ _ (is_among (codes "()[]{};,=+-*/%<>!&|?:.") b)
    (λ is. (refl, omega arith, symbol_kind b [] n m s (not_byte (codes "()[]{};,=+-*/%<>!&|?:.") 35 b refl is), refl)) (λ _. (refl, refl, refl, refl))
symbol_lexical place b (c ∷ rest) n m s = if_holds (IsLexical (b ∷ c ∷ rest) place) _ _ (is_pair b c)
    (λ is. (refl, omega arith, symbol_kind b (c ∷ []) n m s (or_cases _ _ is (λ e. not_byte (codes "+-*/<>=!") 35 b refl (and_parts (c == 61) _ e).1) (λ e. not_byte (codes "+-&|") 35 b refl (and_parts (c == b) _ e).1)), refl))
    (λ _. if_holds (IsLexical (b ∷ c ∷ rest) place) _ _ (is_among (codes "()[]{};,=+-*/%<>!&|?:.") b)
    (λ is. (refl, omega arith, symbol_kind b [] n (alone b c m) s (not_byte (codes "()[]{};,=+-*/%<>!&|?:.") 35 b refl is), refl)) (λ _. (refl, refl, refl, refl))) where
      alone : (b c : ℕ) → (is_digit b || (b == 46 && is_digit c)) ≡ false → (is_digit b || (b == 46 && false)) ≡ false
      alone b c m = rw (or_parts (is_digit b) _ m).0 (bool_cases (b == 46) (λ e. rw e refl) (λ e. rw e refl))

-- a comment gives no token, or the last
comment_lexical : (place : ℕ) (bytes : List ℕ) (o : Option ℕ) → IsLexical bytes place (block_comment o)
comment_lexical place bytes None = (refl, refl, refl, refl)
comment_lexical place bytes (Some n) = tt

-- what a `/` begins
slash_lexical : (place : ℕ) (rest : List ℕ) → IsLexical (47 ∷ rest) place (slash_at rest)
slash_lexical place [] = symbol_lexical place 47 [] refl refl refl
slash_lexical place (c ∷ rest) = if_holds (IsLexical (47 ∷ c ∷ rest) place) _ _ (c == 47) (λ _. tt) (λ _.
    if_holds (IsLexical (47 ∷ c ∷ rest) place) _ _ (c == 42) (λ _. comment_lexical place (47 ∷ c ∷ rest) (comment_end 0 rest)) (λ _. symbol_lexical place 47 (c ∷ rest) refl refl refl))

-- what a newline begins
newline_lexical : (place : ℕ) (bytes rest : List ℕ) → IsLexical bytes place (newline_at rest)
newline_lexical place bytes rest = if_holds (IsLexical bytes place) _ _ (begins_with (codes "#") (first_line rest)) (λ _. if_holds (IsLexical bytes place) _ _ (begins_with directive_words (first_line rest)) (λ _. (refl, refl, refl, refl)) (λ _. if_holds (IsLexical bytes place) _ _ (begins_with pragma_words (first_line rest)) (λ _. tt) (λ _. (refl, refl, refl, refl)))) (λ _. tt)

-- names

-- the bytes in front that go on with a name
front_all : (p : ℕ → Bool) (bytes : List ℕ) → list_all p (take (prefix_len p bytes) bytes) ≡ true
front_all p [] = refl
front_all p (b ∷ bytes) = bool_cases (p b)
    (λ e. let longer : 1 + prefix_len p bytes ≡ suc (prefix_len p bytes) = omega arith in rw e (ap (λ n. list_all p (take n (b ∷ bytes))) longer ∙ rw e (front_all p bytes)))
    (λ e. rw e refl)

-- a name's bytes have its kind
name_lexical : (place : ℕ) (b : ℕ) (rest : List ℕ) → is_name_start b ≡ true → IsLexical (b ∷ rest) place (name_at (b ∷ rest))
unfolding spelled_kind
name_lexical place b rest is =
    let first : prefix_len is_name_byte (b ∷ rest) ≡ suc (prefix_len is_name_byte rest) = rw is (omega arith) in
    let all : list_all is_name_byte (take (prefix_len is_name_byte rest) rest) ≡ true = front_all is_name_byte rest in
    let spelled : name_kind (b ∷ take (prefix_len is_name_byte rest) rest) ≡ spelled_kind (b ∷ take (prefix_len is_name_byte rest) rest) = rw (is, all) refl in
    let kinds = if_holds (λ k. (class k ≡ k) × (is_last k ≡ false)) token.Word token.Name (is_keyword (take (prefix_len is_name_byte (b ∷ rest)) (b ∷ rest))) (λ _. (refl, refl)) (λ _. (refl, refl)) in
    (refl, prefix_len-le-length is_name_byte (b ∷ rest), kinds.0 ∙ ap (λ (n : ℕ). name_kind (take n (b ∷ rest))) first ∙ spelled ∙ ap (λ (n : ℕ). spelled_kind (take n (b ∷ rest))) (sym first), kinds.1)

-- numbers

-- a number reaches no further than the bytes
number_rest-le : (before : ℕ) (rest : List ℕ) → number_rest before rest ≤ length rest
number_rest-le before [] = omega arith
number_rest-le before (c ∷ rest) = if_holds (λ (n : ℕ). n ≤ length (c ∷ rest)) _ _ (is_number_byte before c) (λ _. omega (arith, number_rest-le c rest)) (λ _. omega arith)

-- a digit goes on with a number
pub digit_goes_on : (before c : ℕ) → is_digit c ≡ true → is_number_byte before c ≡ true
digit_goes_on before c is = bool_cases (is_letter c) (λ letter. rw letter refl) (λ other. rw (other, is) refl)

-- a number's bytes begin a number
number_begins : (b : ℕ) (rest : List ℕ) → begins_number b rest ≡ true → begins_number b (take (number_rest b rest) rest) ≡ true
number_begins b [] is = is
number_begins b (c ∷ rest) is = or_cases (is_digit b) (b == 46 && is_digit c) is (λ digit. rw digit refl) (λ both.
    let d = and_parts (b == 46) (is_digit c) both in
    let more : number_rest b (c ∷ rest) ≡ suc (number_rest c rest) = rw (digit_goes_on b c d.1) (omega arith) in
    ap (λ (n : ℕ). begins_number b (take n (c ∷ rest))) more ∙ is)

-- a number's bytes have its kind
number_lexical : (place : ℕ) (b : ℕ) (rest : List ℕ) → is_name_start b ≡ false → begins_number b rest ≡ true → IsLexicalAs (b ∷ rest) place (token_at token.Number place (1 + number_rest b rest) ∷ []) (Some (1 + number_rest b rest))
unfolding spelled_kind
number_lexical place b rest n m =
    let begins : begins_number b (take (number_rest b rest) rest) ≡ true = number_begins b rest m in
    let spelled : token.Number ≡ spelled_kind (b ∷ take (number_rest b rest) rest) = rw (n, begins) refl in
    let more : 1 + number_rest b rest ≡ suc (number_rest b rest) = omega arith in
    (refl, omega (arith, number_rest-le b rest), spelled ∙ ap (λ (n : ℕ). spelled_kind (take n (b ∷ rest))) (sym more), refl)

-- the bytes of every piece have its kind
piece_lexical : (place : ℕ) (r : _) (b : ℕ) (rest : List ℕ) → IsLexical (b ∷ rest) place (piece_from r b rest)
piece_lexical place r b rest =
    if_holds (IsLexical (b ∷ rest) place) _ _ (is_space b) (λ _. tt) (λ space.
    if_holds (IsLexical (b ∷ rest) place) _ _ (b == 10) (λ _. newline_lexical place (b ∷ rest) rest) (λ _.
    if_holds (IsLexical (b ∷ rest) place) _ _ (is_name_start b) (λ is. name_lexical place b rest is) (λ name.
    if_holds (IsLexical (b ∷ rest) place) _ _ (begins_number b rest) (λ is. number_lexical place b rest name is) (λ number.
    if_holds (IsLexical (b ∷ rest) place) _ _ (b == 47 && has_comments r) (λ slash.
    let same : b ≡ 47 = eqb-true b 47 (and_parts (b == 47) _ slash).0 in
    subst (λ (x : ℕ). IsLexical (x ∷ rest) place (slash_at rest)) (sym same) (slash_lexical place rest))
    (λ _. symbol_lexical place b rest name number space)))))

-- ---- tokens

-- the end of a part's tokens, and those behind
pub Ends : TokenKind → List Word → Type 0
Ends k ws = (class k ≡ token.End) × AllByRecursion IsSpelled ws × (is_last k ≡ true → ws ≡ []) × (goes_on k ≡ true → AreLexical ws)

-- behind the program's end stands nothing
pub scop_ends : Ends token.End []
unfolding Ends
scop_ends = (refl, tt, (λ _. refl), (λ goes. absurd cc))

-- no bytes have the kind of an end
none_spelled : token.End ≡ spelled_kind []
unfolding spelled_kind
none_spelled = refl

-- the bytes in front at a place
pub front : (text rest tail : List ℕ) (place n : ℕ) → drop place text ≡ rest ++ tail → n ≤ length rest → take n rest ≡ take n (drop place text)
front text rest tail place n e few = sym (ap (take n) e ∙ take-append-le n rest tail few)

-- what stands behind the first byte
pub behind : (text bytes : List ℕ) (place b : ℕ) → drop place text ≡ b ∷ bytes → drop (place + 1) text ≡ bytes
behind text bytes place b e = sym (drop-drop 1 place text) ∙ ap (drop 1) e

-- a piece in front of lexical words
piece_words : (text bytes tail : List ℕ) (place : ℕ) (more : List Token) (rest : ℕ → List Token) (tokens : List Token) (len : Option ℕ) → IsLexicalAs bytes place tokens len → drop place text ≡ bytes ++ tail
    → AllByRecursion IsSpelled (map (word_of text) more) → ((n : ℕ) → AreLexical (map (word_of text) (rest n ++ more)))
    → AreLexical (map (word_of text) ((tokens ++ (elim len as (λ _. List Token) [ None ↦ [] | Some n ↦ rest n ])) ++ more))
piece_words text bytes tail place more rest [] None l e all below = absurd l
piece_words text bytes tail place more rest [] (Some n) l e all below = below n
piece_words text bytes tail place more rest (t ∷ ts) None l e all below =
    subst (λ ts. AreLexical (map (word_of text) ((ts ++ []) ++ more))) (sym l.0) ((l.1 ∙ none_spelled, all), (λ last. absurd cc), (λ goes. absurd cc))
piece_words text bytes tail place more rest (t ∷ ts) (Some n) l e all below =
    subst (λ ts. AreLexical (map (word_of text) ((ts ++ rest n) ++ more))) (sym l.0) ((l.2 ∙ ap spelled_kind (front text bytes tail place n e l.1), all_spelled (map (word_of text) (rest n ++ more)) (below n)), (λ last. absurd cc), (λ _. below n))

-- the tokens of a part are lexical, where those behind it are
pub tokens_lexical : (text : List ℕ) (r : _) (skip place : ℕ) (rest tail : List ℕ) (more : List Token) → drop place text ≡ rest ++ tail → Ends (end_kind r) (map (word_of text) more)
    → AreLexical (map (word_of text) (tokens_in r skip place rest ++ more))
unfolding Ends
tokens_lexical text r skip place [] tail more e ends = ((ends.0 ∙ none_spelled, ends.1), ends.2, ends.3)
tokens_lexical text r (suc skip) place (b ∷ bytes) tail more e ends = tokens_lexical text r skip (place + 1) bytes tail more (behind text (bytes ++ tail) place b e) ends
tokens_lexical text r zero place (b ∷ bytes) tail more e ends =
    piece_words text (b ∷ bytes) tail place more (λ n. tokens_in r (n - 1) (place + 1) bytes) (piece_tokens place (piece_of r (b ∷ bytes))) (piece_length (piece_of r (b ∷ bytes))) (piece_lexical place r b bytes) e ends.1
    (λ n. tokens_lexical text r (n - 1) (place + 1) bytes tail more (behind text (bytes ++ tail) place b e) ends)

-- ---- lines

-- the bytes of a line stand at its place
IsAt : List ℕ → Line → Type 0
IsAt text l = (tail : List ℕ) × (drop l.place text ≡ l.bytes ++ tail)

-- the first line stands there, and each at its place
AreAt : List ℕ → ℕ → List Line → Type 0
AreAt text place [] = Unit {0}
AreAt text place (l ∷ ls) = (l.place ≡ place) × IsAt text l × AllByRecursion (IsAt text) ls

-- a byte in front of lines that stand at their places
in_front_at : (text bytes : List ℕ) (place b : ℕ) (ls : List Line) → drop place text ≡ b ∷ bytes → AreAt text (place + 1) ls → AreAt text place (in_front place b ls)
unfolding AreAt IsAt
in_front_at text bytes place b [] e at = tt
in_front_at text bytes place b (l ∷ ls) e at =
    (refl, (at.1.0, e ∙ ap (λ (r : List ℕ). b ∷ r) (sym (behind text bytes place b e) ∙ ap (λ (n : ℕ). drop n text) (sym at.0) ∙ at.1.1)), at.2)

-- each line stands at its place
all_at : (text : List ℕ) (place : ℕ) (ls : List Line) → AreAt text place ls → AllByRecursion (IsAt text) ls
unfolding AreAt
all_at text place [] at = tt
all_at text place (l ∷ ls) at = (at.1, at.2)

-- the lines of a text stand at their places
lines_at : (text bytes : List ℕ) (place : ℕ) → drop place text ≡ bytes → AreAt text place (lines place bytes)
unfolding AreAt IsAt
lines_at text [] place e = (refl, ([], e), tt)
lines_at text (b ∷ bytes) place e =
    let rest = behind text bytes place b e in
    if_holds (λ (ls : List Line). AreAt text place ls) _ _ (b == 10)
    (λ _. (refl, (b ∷ bytes, e), all_at text (place + 1) (lines (place + 1) bytes) (lines_at text bytes (place + 1) rest)))
    (λ _. in_front_at text bytes place b (lines (place + 1) bytes) e (lines_at text bytes (place + 1) rest))

-- ---- heads of directives

-- these bytes stand at the end
Suffix : List ℕ → List ℕ → Type 0
Suffix bytes rest = (pre : List ℕ) × (bytes ≡ pre ++ rest)

-- what follows a byte stands at the end
byte_suffix : (w : ℕ) (bytes rest : List ℕ) → past_byte w bytes ≡ Some rest → Suffix bytes rest
unfolding Suffix
byte_suffix w [] rest e = absurd cc
byte_suffix w (b ∷ bytes) rest e =
    bool_cases (is_blank w)
    (λ blank. let e0 = rw blank at e in bool_cases (is_blank b)
    (λ is. let e1 = rw is at e0 in
    let same : past_blanks bytes ≡ rest = cc in
    (b ∷ take (prefix_len is_blank bytes) bytes, ap (λ (r : List ℕ). b ∷ r) (sym (take-append-drop (prefix_len is_blank bytes) bytes) ∙ ap (λ (r : List ℕ). take (prefix_len is_blank bytes) bytes ++ r) same)))
    (λ no. let e1 = rw no at e0 in absurd cc))
    (λ other. let e0 = rw other at e in bool_cases (b == w)
    (λ is. let e1 = rw is at e0 in let same : bytes ≡ rest = cc in (b ∷ [], ap (λ (r : List ℕ). b ∷ r) same))
    (λ no. let e1 = rw no at e0 in absurd cc))

-- what follows words stands at the end
words_suffix : (ws bytes rest : List ℕ) → past_words ws bytes ≡ Some rest → Suffix bytes rest
unfolding Suffix
words_suffix [] bytes rest e = let same : bytes ≡ rest = cc in ([], same)
words_suffix (w ∷ ws) bytes rest e = option_and_then_some (past_words ws) (past_byte w bytes) rest e (λ x f g.
    let one = byte_suffix w bytes x f in
    let more = words_suffix ws x rest g in
    (one.0 ++ more.0, one.1 ∙ ap (λ (r : List ℕ). one.0 ++ r) more.1 ∙ sym (append_assoc one.0 more.0 rest)))

-- the head of a directive begins with a space or `#`
HeadOf : List ℕ → List ℕ → Type 0
HeadOf bytes rest = (b : ℕ) × (pre : List ℕ) × (bytes ≡ b ∷ (pre ++ rest)) × ((is_space b || b == 35) ≡ true)

-- the head that was passed begins so
head_of : (ws bytes rest : List ℕ) → past_head (35 ∷ ws) bytes ≡ Some rest → HeadOf bytes rest
unfolding HeadOf Suffix
head_of ws [] rest e = absurd cc
head_of ws (b ∷ bytes) rest e =
    bool_cases (is_space b)
    (λ is.
    let first : prefix_len is_space (b ∷ bytes) ≡ suc (prefix_len is_space bytes) = rw is (omega arith) in
    let more = words_suffix (35 ∷ ws) (drop (prefix_len is_space bytes) bytes) rest (ap (λ (n : ℕ). past_words (35 ∷ ws) (drop n (b ∷ bytes))) (sym first) ∙ e) in (
      b,
      take (prefix_len is_space bytes) bytes ++ more.0,
      ap (λ (r : List ℕ). b ∷ r) (sym (take-append-drop (prefix_len is_space bytes) bytes) ∙ ap (λ (r : List ℕ). take (prefix_len is_space bytes) bytes ++ r) more.1 ∙ sym (append_assoc (take (prefix_len is_space bytes) bytes) more.0 rest)),
      rw is refl,
    ))
    (λ other.
    let first : prefix_len is_space (b ∷ bytes) ≡ 0 = rw other refl in
    let e0 : past_words (35 ∷ ws) (b ∷ bytes) ≡ Some rest = ap (λ (n : ℕ). past_words (35 ∷ ws) (drop n (b ∷ bytes))) (sym first) ∙ e in
    bool_cases (b == 35)
    (λ hash. let e1 = rw hash at e0 in
    let more = words_suffix ws bytes rest e1 in
    (b, more.0, ap (λ (r : List ℕ). b ∷ r) more.1, rw (other, hash) refl))
    (λ no. let e1 = rw no at e0 in absurd cc))

-- bytes that begin with a space or `#` have the kind of a head
head_kind : (b : ℕ) (pre : List ℕ) → (is_space b || b == 35) ≡ true → token.Parameters ≡ spelled_kind (b ∷ pre)
unfolding spelled_kind
head_kind b pre is = or_cases (is_space b) (b == 35) is
    (λ space. or_cases (is_blank b) (b == 13) space
    (λ blank. or_cases (b == 32) (b == 9) blank (λ e. let same : b ≡ 32 = eqb-true b 32 e in rw same refl) (λ e. let same : b ≡ 9 = eqb-true b 9 e in rw same refl))
    (λ e. let same : b ≡ 13 = eqb-true b 13 e in rw same refl))
    (λ e. let same : b ≡ 35 = eqb-true b 35 e in rw same refl)

-- the tokens behind a directive's head
behind_head : (text : List ℕ) (k : TokenKind) (l : Line) (rest tail : List ℕ) (more : List Token) → drop (l.place + (length l.bytes - length rest)) text ≡ rest ++ tail
    → Ends token.LineEnd (map (word_of text) more) → AreLexical (map (word_of text) (drop 1 (directive_of k l rest) ++ more))
behind_head text k l rest tail more after ends = search tokens_lexical

-- the tokens of a directive
directive_lexical : (text : List ℕ) (k : TokenKind) (l : Line) (rest : List ℕ) (more : List Token) → IsAt text l → HeadOf l.bytes rest → class k ≡ token.Parameters → is_last k ≡ false
    → AreLexical (map (word_of text) more) → AreLexical (map (word_of text) (directive_of k l rest ++ more))
unfolding IsAt HeadOf Ends
directive_lexical text k l rest more at head kinds inside below =
    let size : length l.bytes - length rest ≡ suc (length head.1) = omega (arith, ap length head.2, length-append head.1 rest) in
    let there : drop l.place text ≡ head.0 ∷ (head.1 ++ (rest ++ at.0)) = at.1 ∙ ap (λ (b : List ℕ). b ++ at.0) head.2 ∙ ap (λ (b : List ℕ). head.0 ∷ b) (append_assoc head.1 rest at.0) in
    let word : take (length l.bytes - length rest) (drop l.place text) ≡ head.0 ∷ head.1 =
    ap (λ (n : ℕ). take n (drop l.place text)) size ∙ ap (take (suc (length head.1))) there ∙ ap (λ (b : List ℕ). head.0 ∷ b) (take_at head.1 (rest ++ at.0) (length head.1) refl) in
    let after : drop (l.place + (length l.bytes - length rest)) text ≡ rest ++ at.0 =
    sym (drop-drop (length l.bytes - length rest) l.place text) ∙ ap (λ (n : ℕ). drop n (drop l.place text)) size ∙ ap (drop (suc (length head.1))) there ∙ drop_at head.1 (rest ++ at.0) (length head.1) refl in
    let behind = behind_head text k l rest at.0 more after (refl, all_spelled (map (word_of text) more) below, (λ last. absurd cc), (λ _. below)) in
    ((kinds ∙ head_kind head.0 head.1 head.3 ∙ ap spelled_kind (sym word), all_spelled _ behind), (λ last. absurd cc), (λ _. behind))

-- the tokens of a line are lexical, where those behind it are
line_lexical : (text : List ℕ) (l : Line) (more : List Token) → IsAt text l → AreLexical (map (word_of text) more) → AreLexical (map (word_of text) (line_tokens l ++ more))
line_lexical text l more at below = parameters (past_head parameters_words l.bytes) refl where
  assumptions : (o : Option (List ℕ)) → past_head assumptions_words l.bytes ≡ o → AreLexical (map (word_of text) ((elim o as (λ _. List Token) [ None ↦ [] | Some rest ↦ directive_of token.Assumptions l rest ]) ++ more))
  assumptions None e = below
  assumptions (Some rest) e = directive_lexical text token.Assumptions l rest more at (head_of (drop 1 assumptions_words) l.bytes rest e) refl refl below

  parameters : (o : Option (List ℕ)) → past_head parameters_words l.bytes ≡ o → AreLexical (map (word_of text) ((elim o as (λ _. List Token) [ None ↦ assumption_tokens l | Some rest ↦ directive_of token.Parameters l rest ]) ++ more))
  parameters None e = assumptions (past_head assumptions_words l.bytes) refl
  parameters (Some rest) e = directive_lexical text token.Parameters l rest more at (head_of (drop 1 parameters_words) l.bytes rest e) refl refl below

-- the tokens of the lines before the opening one are lexical, where those behind them are
head_lexical : (text : List ℕ) (ls : List Line) (more : List Token) → AllByRecursion (IsAt text) ls → AreLexical (map (word_of text) more) → AreLexical (map (word_of text) (head_tokens ls ++ more))
head_lexical text [] more at below = below
head_lexical text (l ∷ ls) more at below =
    if_holds (λ (ts : List Token). AreLexical (map (word_of text) (ts ++ more))) _ _ (opens l) (λ _. below)
    (λ _. subst (λ (ts : List Token). AreLexical (map (word_of text) ts)) (sym (append_assoc (line_tokens l) (head_tokens ls) more))
    (line_lexical text l (head_tokens ls ++ more) at.0 (head_lexical text ls more at.1 below)))

-- the words of a text are lexical
pub text_lexical : (bytes : List ℕ) (tokens : List Token) → tokens_of bytes ≡ Some tokens → AreLexical (map (word_of bytes) tokens)
text_lexical bytes tokens e = option_and_then_some (λ opening. tokens_behind bytes (line_end opening)) (find opens (lines_from bytes 0)) tokens e (λ opening f g.
    closing (find closes (lines_from bytes (line_end opening + 1))) (line_end opening) g) where
      closing : (o : Option Line) (from : ℕ) → option_map (λ l. head_tokens (lines_from bytes 0) ++ scop_tokens bytes from l) o ≡ Some tokens → AreLexical (map (word_of bytes) tokens)
      closing None from e = absurd cc
      closing (Some l) from e =
          let same : head_tokens (lines_from bytes 0) ++ scop_tokens bytes from l ≡ tokens = cc in
          let lines_are = all_at bytes 0 (lines_from bytes 0) (lines_at bytes (drop 0 bytes) 0 refl) in
          let whole : drop from bytes ≡ part from l.place bytes ++ drop (l.place - from) (drop from bytes) = sym (take-append-drop (l.place - from) (drop from bytes)) in
          let scop : AreLexical (map (word_of bytes) (scop_tokens bytes from l ++ [])) = search (tokens_lexical, whole, scop_ends) in
          subst (λ (ts : List Token). AreLexical (map (word_of bytes) ts)) same
          (head_lexical bytes (lines_from bytes 0) (scop_tokens bytes from l) lines_are (subst (λ (ts : List Token). AreLexical (map (word_of bytes) ts)) (append-nil (scop_tokens bytes from l)) scop))
