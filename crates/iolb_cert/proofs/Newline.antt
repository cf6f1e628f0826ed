-- A newline behind a JSON text changes nothing that is read.
use Rattle.std.proofs.Common.{◌≡◌, ℕ, Bool, true, false, cond, ◌&&◌, List, [], ◌∷◌, ◌++◌, Some, option_and_then, refl, sym, ap, ap₂, subst, ◌∙◌, append_assoc, append-nil}
use Rattle.json.specs.Token.{Token, begin_object, end_object, begin_array, end_array, key, string, number, boolean, null, bad}
use Rattle.json.specs.Word.{ends_word, word}
use Rattle.json.specs.Lex.{Lexeme, token, comma, colon, string_token, lex, between, fresh, punctuate, tokens}
use Rattle.json.specs.Json as json
use Rattle.json.specs.Print.{escape, quoted, token_text, begins, ends, print_from, print, IsPrintable, ArePrintable, ArePrintableOrBad}
use Rattle.json.specs.Tree.{json_tokens, items_tokens, members_tokens}
use Rattle.json.proofs.Numbered.{ArePrintableOrBad-tokens}
use Rattle.json.proofs.Printed.Numbers.{lex-number, in_word-ended}
use Rattle.json.proofs.Printed.Strings.{content-escape, lex-escape}
use Rattle.serde_json.specs.Data.{Data}
use Rattle.serde_json.specs.Read.{of_json, max_depth, read}

-- the tokens of a value can all be written
halves : (ts us : List Token) → ArePrintableOrBad (ts ++ us) → ArePrintableOrBad ts × ArePrintableOrBad us
halves [] us h = (tt, h)
halves (t ∷ ts) us h = let rest = halves ts us h.1 in ((h.0, rest.0), rest.1)

joined : (ts us : List Token) → ArePrintable ts → ArePrintable us → ArePrintable (ts ++ us)
unfolding ArePrintable
joined [] us h k = k
joined (t ∷ ts) us h k = (h.0, joined ts us h.1 k)

mutual
  unfolding ArePrintable

  printable : (j : json.Json) → ArePrintableOrBad (json_tokens j) → ArePrintable (json_tokens j)
  printable json.null h = (tt, tt)
  printable (json.boolean b) h = (tt, tt)
  printable (json.number s) h = (h.0, tt)
  printable (json.string s) h = (tt, tt)
  printable (json.array js) h = (tt, printable-items js h.1)
  printable (json.object ms) h = (tt, printable-members ms h.1)

  printable-items : (js : json.Items) → ArePrintableOrBad (items_tokens js) → ArePrintable (items_tokens js)
  printable-items json.no_items h = (tt, tt)
  printable-items (json.item j js) h =
      let both = halves (json_tokens j) (items_tokens js) h in joined (json_tokens j) (items_tokens js) (printable j both.0) (printable-items js both.1)

  printable-members : (ms : json.Members) → ArePrintableOrBad (members_tokens ms) → ArePrintable (members_tokens ms)
  printable-members json.no_members h = (tt, tt)
  printable-members (json.member k j ms) h =
      let both = halves (json_tokens j) (members_tokens ms) h.1 in (tt, joined (json_tokens j) (members_tokens ms) (printable j both.0) (printable-members ms both.1))

-- a token's lexemes, before what ends a word
abbrev token_lexemes : Token → List Lexeme
token_lexemes begin_object = token begin_object ∷ []
token_lexemes end_object = token end_object ∷ []
token_lexemes begin_array = token begin_array ∷ []
token_lexemes end_array = token end_array ∷ []
token_lexemes (key s) = token (string s) ∷ colon ∷ []
token_lexemes (string s) = token (string s) ∷ []
token_lexemes (number s) = token (number s) ∷ []
token_lexemes (boolean b) = token (boolean b) ∷ []
token_lexemes null = token null ∷ []
token_lexemes bad = []

lex-quoted : (s r : List ℕ) → lex between (quoted s ++ r) ≡ token (string s) ∷ lex between r
unfolding lex
lex-quoted s r =
    let e = append_assoc (escape s) (34 ∷ []) r in
    ap (λ l. lex between (34 ∷ l)) e ∙ ap₂ (λ o l. token (string_token o) ∷ l) (content-escape s r) (lex-escape s r)

lex-token : (t : Token) (r : List ℕ) → IsPrintable t → (ends t ≡ true → ends_word r ≡ true) → lex between (token_text t ++ r) ≡ token_lexemes t ++ lex between r
unfolding lex word
lex-token begin_object r h ended = refl
lex-token end_object r h ended = refl
lex-token begin_array r h ended = refl
lex-token end_array r h ended = refl
lex-token (key s) r h ended = ap (lex between) (append_assoc (quoted s) (58 ∷ []) r) ∙ lex-quoted s (58 ∷ r)
lex-token (string s) r h ended = lex-quoted s r
lex-token (number s) r h ended = lex-number s r h (ended refl)
lex-token (boolean true) r h ended = ap₂ (λ b l. token (cond b (boolean true) bad) ∷ l) (ended refl) (in_word-ended r (ended refl))
lex-token (boolean false) r h ended = ap₂ (λ b l. token (cond b (boolean false) bad) ∷ l) (ended refl) (in_word-ended r (ended refl))
lex-token null r h ended = ap₂ (λ b l. token (cond b null bad) ∷ l) (ended refl) (in_word-ended r (ended refl))
lex-token bad r h ended = absurd h

lex-separator : (b : Bool) (r : List ℕ) → lex between (cond b (44 ∷ []) [] ++ r) ≡ cond b (comma ∷ []) [] ++ lex between r
unfolding lex
lex-separator true r = refl
lex-separator false r = refl

-- after a value a word ends
value-ends : (end : List ℕ) → ends_word end ≡ true → (ts : List Token) → ends_word (print_from true ts ++ end) ≡ true
unfolding print_from
value-ends end e [] = e
value-ends end e (begin_object ∷ ts) = refl
value-ends end e (end_object ∷ ts) = refl
value-ends end e (begin_array ∷ ts) = refl
value-ends end e (end_array ∷ ts) = refl
value-ends end e (key s ∷ ts) = refl
value-ends end e (string s ∷ ts) = refl
value-ends end e (number s ∷ ts) = refl
value-ends end e (boolean b ∷ ts) = refl
value-ends end e (null ∷ ts) = refl
value-ends end e (bad ∷ ts) = refl

-- one token and the rest, before an end
lex-first : (c : Bool) (t : Token) (ts : List Token) (end : List ℕ) → ends_word end ≡ true → IsPrintable t
    → lex between (print_from c (t ∷ ts) ++ end) ≡ cond (c && begins t) (comma ∷ []) [] ++ (token_lexemes t ++ lex between (print_from (ends t) ts ++ end))
unfolding print_from
lex-first c t ts end e h =
    let rest = print_from (ends t) ts in
    ap (lex between) (append_assoc (cond (c && begins t) (44 ∷ []) []) (token_text t ++ rest) end)
    ∙ lex-separator (c && begins t) ((token_text t ++ rest) ++ end)
    ∙ ap (λ l. cond (c && begins t) (comma ∷ []) [] ++ lex between l) (append_assoc (token_text t) rest end)
    ∙ ap (λ l. cond (c && begins t) (comma ∷ []) [] ++ l) (lex-token t (rest ++ end) h (λ q. ap (λ b. ends_word (print_from b ts ++ end)) q ∙ value-ends end e ts))

lex-newline : (c : Bool) (ts : List Token) → ArePrintable ts → lex between (print_from c ts ++ 10 ∷ []) ≡ lex between (print_from c ts ++ [])
unfolding ArePrintable lex print_from
lex-newline c [] h = refl
lex-newline c (t ∷ ts) h =
    lex-first c t ts (10 ∷ []) refl h.0
    ∙ ap (λ l. cond (c && begins t) (comma ∷ []) [] ++ (token_lexemes t ++ l)) (lex-newline (ends t) ts h.1)
    ∙ sym (lex-first c t ts [] refl h.0)

-- the law
pub read-newline : (text : List ℕ) (d : Data) (j : json.Json) → text ≡ print (tokens text) → tokens text ≡ json_tokens j → read text ≡ Some d → read (text ++ 10 ∷ []) ≡ Some d
read-newline text d j compact is reads =
    let all : ArePrintable (tokens text) = subst ArePrintable (sym is) (printable j (subst ArePrintableOrBad is (ArePrintableOrBad-tokens text))) in
    let same : tokens (text ++ 10 ∷ []) ≡ tokens text =
    ap (λ l. tokens (l ++ 10 ∷ [])) compact ∙ ap (punctuate fresh) (lex-newline false (tokens text) all) ∙ ap (λ l. tokens l) (append-nil (print (tokens text)) ∙ sym compact) in
    ap (λ ts. option_and_then of_json (option_and_then (λ p. json.if_last p.0 p.1) (json.value max_depth ts))) same ∙ reads
