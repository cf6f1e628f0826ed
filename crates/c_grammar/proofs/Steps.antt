-- What a rule of the reading takes from the words that are left, and what it leaves.
use Rattle.std.proofs.Common.{◌≡◌, ℕ, suc, ◌-◌, arith, Bool, true, false, List, [], ◌∷◌, ◌++◌, map, drop, refl, sym, ap, ◌∙◌, Option, Some, subst}
use Rattle.std.specs.Prelude.{◌==◌, ◌||◌, if◌then◌else◌, Result, Ok, Err}
use Rattle.std.specs.List.{list_all, AllByRecursion}
use Rattle.std.proofs.lemmas.List.{append_assoc, drop-map}
use Rattle.std.proofs.lemmas.Bool.Decides.{nat_tests}
use Rattle.std.proofs.lemmas.Slice.Eq.{bytes_eq-Decides}
use Rattle.c_tokens.specs.declared.token.Token.{Token}
use Rattle.c_tokens.specs.declared.token.TokenKind.{TokenKind}
use Rattle.c_tokens.specs.declared.token.TokenKind.TheVariants as token
use Rattle.c_tokens.specs.Bytes.{is_space, is_name_start, is_name_byte}
use Rattle.c_tokens.specs.Pieces.{name_kind, is_keyword, begins_number}
use Rattle.c_reading.specs.declared.error.ReadFault.{ReadFault}
use Rattle.c_reading.specs.Input.{Input, Rule, Outcome, and_then, given as rule_given, kind, spelling, next, sees, is_name_kind, is_number_kind}
use Rattle.c_reading.specs.Head.{is_line_end, is_parameters, is_assumptions}
use Rattle.c_reading.specs.Items.{is_end}
use Rattle.c_grammar.specs.Words.{Word, word_of, program_end, line_end, a_name, a_number, a_symbol}
use Rattle.c_tokens.specs.Names.{IsWord}
use Rattle.c_grammar.specs.Meaning.{Names, Meaning, then_in, given}

-- what a function is over
abbrev pub domain : {A B : Type 0} → (A → B) → Type 0
domain {A} f = A

-- the words that are left
abbrev pub words : Input → List Word
words i = map (word_of i.text) i.tokens

-- the names so far, without what is left
abbrev pub bare : Input → Input
bare i = record i { text = []; tokens = [] }

-- the first word, or an end where none is left
abbrev pub first : List Word → Word
first [] = program_end
first (w ∷ ws) = w

-- ---- kinds and bytes of words

-- the kind that bytes have by themselves: the heads of directives have one, and what has no bytes
unfoldable pub spelled_kind : List ℕ → TokenKind
spelled_kind [] = token.End
spelled_kind (b ∷ rest) =
    if is_name_start b then (if list_all is_name_byte (b ∷ rest) then name_kind (b ∷ rest) else token.Bad)
    else (if begins_number b rest then token.Number
    else (if is_space b || b == 35 then token.Parameters
    else token.Symbol))

-- kinds that bytes alone don't tell apart are one class
abbrev pub class : TokenKind → TokenKind
class token.Assumptions = token.Parameters
class token.LineEnd = token.End
class token.Directive = token.End
class token.Bad = token.End
class k = k

-- the kind that stands last
abbrev pub is_last : TokenKind → Bool
is_last token.End = true
is_last _ = false

-- the kinds behind which words follow
abbrev pub goes_on : TokenKind → Bool
goes_on token.Directive = false
goes_on token.Bad = false
goes_on token.End = false
goes_on _ = true

-- a word whose bytes have its kind
abbrev pub IsSpelled : Word → Type 0
IsSpelled w = class w.kind ≡ spelled_kind w.bytes

-- words whose bytes have their kinds, of which one stands behind each that goes on and none behind the last
abbrev pub AreLexical : List Word → Type 0
AreLexical [] = ⊥
AreLexical (w ∷ ws) = AllByRecursion IsSpelled (w ∷ ws) × (is_last w.kind ≡ true → ws ≡ []) × (goes_on w.kind ≡ true → AreLexical ws)

-- the bytes of lexical words have their kinds
pub all_spelled : (ws : List Word) → AreLexical ws → AllByRecursion IsSpelled ws
all_spelled [] g = absurd g
all_spelled (w ∷ ws) g = g.0

-- whether bytes tell this kind
abbrev pub is_plain : TokenKind → Bool
is_plain token.Symbol = true
is_plain token.Name = true
is_plain token.Number = true
is_plain token.Word = true
is_plain _ = false

-- they tell it alone, and words follow behind it
plain_alone : (k other : TokenKind) → is_plain k ≡ true → class other ≡ class k → (other ≡ k) × (goes_on k ≡ true)
plain_alone token.Symbol token.Symbol plain e = (refl, refl)
plain_alone token.Name token.Name plain e = (refl, refl)
plain_alone token.Number token.Number plain e = (refl, refl)
plain_alone token.Word token.Word plain e = (refl, refl)
plain_alone _ _ plain e = absurd cc

-- ---- steps

-- these words were taken, and those behind them are lexical
pub record Took (i : Input) (ws : List Word) (j : Input) : Type 0 where
  pub spelled : words i ≡ ws ++ words j
  pub lexical : AreLexical (words j)

-- a tree was taken that means this
abbrev pub Spells : {T A : Type 0} → (T → List Word) → (T → Meaning A) → Input → A × Input → Type 0
Spells {T} ws means i q = (t : T) × Took i (ws t) q.1 × (means t (bare i) ≡ Some (q.0, bare q.1))

-- the same, up to this word behind it
abbrev pub SpellsUpTo : {T A : Type 0} → Word → (T → List Word) → (T → Meaning A) → Input → A × Input → Type 0
SpellsUpTo {T} last ws means i q = (t : T) × (j : Input) × Took i (ws t) j × Took j (last ∷ []) q.1 × (means t (bare i) ≡ Some (q.0, bare q.1))

-- a tree was taken that says this, and no name
abbrev pub Passed : {T A : Type 0} → (T → List Word) → (T → A) → Input → A × Input → Type 0
Passed {T} ws says i q = (t : T) × Took i (ws t) q.1 × (bare q.1 ≡ bare i) × (q.0 ≡ says t)

-- the name that stands there was taken, which means this
abbrev pub NamedAs : {A : Type 0} → Input → Meaning A → A × Input → Type 0
NamedAs i m q = Took i (a_name (spelling i) ∷ []) q.1 × (m (bare i) ≡ Some (q.0, bare q.1))

-- words were taken, and then others
pub took_then : {i j k : Input} {ws vs : List Word} → Took i ws j → Took j vs k → Took i (ws ++ vs) k
took_then {i} {j} {k} {ws} {vs} a b = record { spelled = a.spelled ∙ ap (λ l. ws ++ l) b.spelled ∙ sym (append_assoc ws vs (words k)); lexical = b.lexical }

-- no word was taken
pub took_none : {i : Input} → AreLexical (words i) → Took i [] i
took_none g = record { spelled = refl; lexical = g }

-- the next token's bytes are the first word's
pub spelling_is : (i : Input) → spelling i ≡ (first (words i)).bytes
unfolding spelling
spelling_is i = at i.tokens where
  at : (ts : List Token) → spelling (record i { tokens = ts }) ≡ (first (map (word_of i.text) ts)).bytes
  at [] = refl
  at (t ∷ ts) = refl

-- its kind is the first word's
pub kind_is : (i : Input) → kind i ≡ (first (words i)).kind
kind_is i = at i.tokens where
  at : (ts : List Token) → kind (record i { tokens = ts }) ≡ (first (map (word_of i.text) ts)).kind
  at [] = refl
  at (t ∷ ts) = refl

-- without the next token the first word is gone
pub next_is : (i : Input) → words (next i) ≡ drop 1 (words i)
unfolding next
next_is i = sym (drop-map (word_of i.text) 1 i.tokens)

-- a word of a kind behind which words follow
taken : (k : TokenKind) (ws vs : List Word) → goes_on k ≡ true → (first ws).kind ≡ k → AreLexical ws → vs ≡ drop 1 ws → (ws ≡ record { kind = k; bytes = (first ws).bytes } ∷ vs) × AreLexical vs
taken k [] vs inside is g e = absurd g
taken k (w ∷ ws) vs inside is g e = (
  ap (λ l. w ∷ l) (sym e) ∙ ap (λ m. record { kind = m; bytes = w.bytes } ∷ vs) is,
  subst AreLexical (sym e) (g.2 (ap goes_on is ∙ inside)),
)

-- a token of this kind is a word of it
pub took_kind : (k : TokenKind) (i : Input) → goes_on k ≡ true → AreLexical (words i) → kind i ≡ k → Took i (record { kind = k; bytes = spelling i } ∷ []) (next i)
took_kind k i inside g is =
    let both = taken k (words i) (words (next i)) inside (sym (kind_is i) ∙ is) g (next_is i) in
    record { spelled = both.0 ∙ ap (λ b. record { kind = k; bytes = b } ∷ words (next i)) (sym (spelling_is i)); lexical = both.1 }

-- the next word's bytes have its kind
lexical_first : (ws : List Word) → AreLexical ws → class (first ws).kind ≡ spelled_kind (first ws).bytes
lexical_first [] g = absurd g
lexical_first (w ∷ ws) g = g.0.0

-- the next token's bytes have its kind
pub kind_spelled : (i : Input) → AreLexical (words i) → class (kind i) ≡ spelled_kind (spelling i)
kind_spelled i g = ap class (kind_is i) ∙ lexical_first (words i) g ∙ ap spelled_kind (sym (spelling_is i))

-- a word whose bytes are seen
pub took_word : (word : List ℕ) (k : TokenKind) → is_plain k ≡ true → spelled_kind word ≡ class k → (i : Input) → AreLexical (words i) → sees word i ≡ true → Took i (record { kind = k; bytes = word } ∷ []) (next i)
unfolding sees
took_word word k plain word_is i g seen =
    let same : spelling i ≡ word = (bytes_eq-Decides (spelling i) word).0 seen in
    let alone = plain_alone k (kind i) plain (kind_spelled i g ∙ ap spelled_kind same ∙ word_is) in
    let took = took_kind k i alone.1 g alone.0 in
    record { spelled = took.spelled ∙ ap (λ b. record { kind = k; bytes = b } ∷ words (next i)) same; lexical = took.lexical }

-- a symbol that is seen is a word
pub took_symbol : (word : List ℕ) → spelled_kind word ≡ token.Symbol → (i : Input) → AreLexical (words i) → sees word i ≡ true → Took i (a_symbol word ∷ []) (next i)
took_symbol word is i g seen = took_word word token.Symbol refl is i g seen

-- each test of a kind finds it alone
pub name_kind_is : (k : TokenKind) → is_name_kind k ≡ true → k ≡ token.Name
name_kind_is token.Name e = refl
name_kind_is _ e = cc

pub number_kind_is : (k : TokenKind) → is_number_kind k ≡ true → k ≡ token.Number
number_kind_is token.Number e = refl
number_kind_is _ e = cc

pub line_end_is : (k : TokenKind) → is_line_end k ≡ true → k ≡ token.LineEnd
line_end_is token.LineEnd e = refl
line_end_is _ e = cc

pub parameters_is : (k : TokenKind) → is_parameters k ≡ true → k ≡ token.Parameters
parameters_is token.Parameters e = refl
parameters_is _ e = cc

pub assumptions_is : (k : TokenKind) → is_assumptions k ≡ true → k ≡ token.Assumptions
assumptions_is token.Assumptions e = refl
assumptions_is _ e = cc

pub end_is : (k : TokenKind) → is_end k ≡ true → k ≡ token.End
end_is token.End e = refl
end_is _ e = cc

-- a name is a word
pub took_name : (i : Input) → AreLexical (words i) → is_name_kind (kind i) ≡ true → Took i (a_name (spelling i) ∷ []) (next i)
took_name i g is = took_kind token.Name i refl g (name_kind_is (kind i) is)

-- a number is a word
pub took_number : (i : Input) → AreLexical (words i) → is_number_kind (kind i) ≡ true → Took i (a_number (spelling i) ∷ []) (next i)
took_number i g is = took_kind token.Number i refl g (number_kind_is (kind i) is)

-- what holds of both sides of a test
pub if_holds : {A : Type 0} (P : A → Type 0) (x y : A) (c : Bool) → (c ≡ true → P x) → (c ≡ false → P y) → P (if c then x else y)
if_holds P x y true t f = t refl
if_holds P x y false t f = f refl

-- what holds of each kind that bytes may have holds of theirs
spelled_cases : (P : TokenKind → Type 0) (b : ℕ) (rest : List ℕ) → (is_name_start b ≡ true → list_all is_name_byte (b ∷ rest) ≡ true → is_keyword (b ∷ rest) ≡ true → P token.Word) → (is_name_start b ≡ true → list_all is_name_byte (b ∷ rest) ≡ true → is_keyword (b ∷ rest) ≡ false → P token.Name)
    → P token.Bad → P token.Number → P token.Parameters → P token.Symbol → P (spelled_kind (b ∷ rest))
unfolding spelled_kind
spelled_cases P b rest keyword name bad number head symbol = if_holds P _ _ (is_name_start b)
    (λ s. if_holds P _ _ (list_all is_name_byte (b ∷ rest)) (λ a. if_holds P _ _ (is_keyword (b ∷ rest)) (keyword s a) (name s a)) (λ _. bad))
    (λ _. if_holds P _ _ (begins_number b rest) (λ _. number) (λ _. if_holds P _ _ (is_space b || b == 35) (λ _. head) (λ _. symbol)))

-- what has no bytes
no_bytes : (bytes : List ℕ) → token.End ≡ spelled_kind bytes → bytes ≡ []
unfolding spelled_kind
no_bytes [] e = refl
no_bytes (b ∷ rest) e = spelled_cases (λ k. token.End ≡ k → b ∷ rest ≡ []) b rest (λ _ _ _ e. cc) (λ _ _ _ e. cc) (λ e. cc) (λ e. cc) (λ e. cc) (λ e. cc) e

-- bytes that are spelled as a name are one
pub word_spelled : (bytes : List ℕ) → token.Name ≡ spelled_kind bytes → IsWord bytes
unfolding spelled_kind
word_spelled [] e = absurd cc
word_spelled (b ∷ rest) e = spelled_cases (λ k. token.Name ≡ k → IsWord (b ∷ rest)) b rest (λ _ _ _ e. absurd cc) (λ p q r _. record { begins = p; name = q; no_word = r }) (λ e. absurd cc) (λ e. absurd cc) (λ e. absurd cc) (λ e. absurd cc) e

-- the end of a line is a word
pub took_line_end : (i : Input) → AreLexical (words i) → is_line_end (kind i) ≡ true → Took i (line_end ∷ []) (next i)
took_line_end i g is =
    let kinds = line_end_is (kind i) is in
    let took = took_kind token.LineEnd i refl g kinds in
    let none = no_bytes (spelling i) (ap class (sym kinds) ∙ kind_spelled i g) in
    record { spelled = took.spelled ∙ ap (λ b. record { kind = token.LineEnd; bytes = b } ∷ words (next i)) none; lexical = took.lexical }

-- the end stands last
pub end_words : (ws : List Word) → AreLexical ws → (first ws).kind ≡ token.End → ws ≡ program_end ∷ []
end_words [] g is = absurd g
end_words (w ∷ ws) g is =
    let none = no_bytes w.bytes (ap class (sym is) ∙ g.0.0) in
    ap (λ l. w ∷ l) (g.1 (ap is_last is)) ∙ ap (λ k. record { kind = k; bytes = w.bytes } ∷ []) is ∙ ap (λ b. record { kind = token.End; bytes = b } ∷ []) none

-- ---- a rule's outcome, taken apart

-- the same was given
pub same_ok : {A : Type 0} {x z : A} → ◌≡◌ {A = Result A ReadFault} (Ok x) (Ok z) → x ≡ z
same_ok e = cc

-- what the rule gives is so
pub record Reads {A : Type 0} (o : Outcome A) (Q : A × Input → Type 0) : Type 0 where
  pub reads : (q : A × Input) → o ≡ Ok q → Q q

-- a fault
pub fails : {A : Type 0} {x : ReadFault} {Q : A × Input → Type 0} → Reads (Err x) Q
fails = record { reads = λ q e. absurd cc }

-- what is so was given
pub gives : {A : Type 0} {p : A × Input} {Q : A × Input → Type 0} → Q p → Reads (Ok p) Q
gives {Q = Q} h = record { reads = λ q e. subst Q (same_ok e) h }

-- the same, behind a test that has to succeed
pub gives_if : {A : Type 0} {Q : A × Input → Type 0} (c : Bool) (p : A × Input) (x : ReadFault) → (c ≡ true → Q p) → Reads (if c then Ok p else Err x) Q
gives_if true p x h = gives (h refl)
gives_if false p x h = fails

-- what follows of what a rule gives
pub reads_map : {A : Type 0} {o : Outcome A} {Q R : A × Input → Type 0} → Reads o Q → ((q : A × Input) → Q q → R q) → Reads o R
reads_map r k = record { reads = λ q e. k q (r.reads q e) }

-- one rule behind another
pub reads_then : {A B : Type 0} (o : Outcome A) (f : A → Rule B) {Q : A × Input → Type 0} {R : B × Input → Type 0} → Reads o Q → ((p : A × Input) → Q p → Reads (f p.0 p.1) R) → Reads (and_then o f) R
reads_then (Ok p) f r k = k p (r.reads p refl)
reads_then (Err x) f r k = fails

-- a rule behind what was given
pub reads_given : {A B : Type 0} {R : B × Input → Type 0} (r : Result A ReadFault) (f : A → Rule B) (j : Input) → ((a : A) → r ≡ Ok a → Reads (f a j) R) → Reads (and_then (rule_given r j) f) R
reads_given (Ok a) f j k = k a refl
reads_given (Err x) f j k = fails

-- one of two rules
pub reads_if : {A : Type 0} {x y : Outcome A} {Q : A × Input → Type 0} (c : Bool) → (c ≡ true → Reads x Q) → (c ≡ false → Reads y Q) → Reads (if c then x else y) Q
reads_if {Q = Q} c t f = if_holds (λ r. Reads r Q) _ _ c t f

-- either side of a test
pub if_ok : {A P : Type 0} (x y : A) {z : A} (c : Bool) → (if c then x else y) ≡ z → (c ≡ true → x ≡ z → P) → (c ≡ false → y ≡ z → P) → P
if_ok x y true e t f = t refl e
if_ok x y false e t f = f refl e

-- ---- meanings, put together

-- a step means something, and what follows
pub means_then : {A B : Type 0} (m : Option (A × Names)) (f : A → Meaning B) {a : A} {s : Names} {q : Option (B × Names)} → m ≡ Some (a, s) → f a s ≡ q → then_in m f ≡ q
means_then m f e g = ap (λ o. then_in o f) e ∙ g

-- what was given means something, and what follows
pub means_given : {A B : Type 0} (o : Option A) (f : A → Meaning B) (s : Names) {a : A} {q : Option (B × Names)} → o ≡ Some a → f a s ≡ q → then_in (given o s) f ≡ q
means_given o f s e g = ap (λ o. then_in (given o s) f) e ∙ g

-- the same words are left elsewhere
pub took_as : {i j : Input} {ws : List Word} (k : Input) → words k ≡ words j → Took i ws j → Took i ws k
took_as {i} {j} {ws} k same t = record { spelled = t.spelled ∙ ap (λ l. ws ++ l) (sym same); lexical = subst AreLexical (sym same) t.lexical }

-- a test succeeded or failed
pub bool_cases : {P : Type 0} (c : Bool) → (c ≡ true → P) → (c ≡ false → P) → P
bool_cases true t f = t refl
bool_cases false t f = f refl

-- one more than a number isn't 0
pub suc_not_zero : (d : ℕ) → (suc d == 0) ≡ false
suc_not_zero d = grind (arith, nat_tests)

-- a bracket less
pub one_less : (d : ℕ) → suc d - 1 ≡ d
one_less d = omega arith
