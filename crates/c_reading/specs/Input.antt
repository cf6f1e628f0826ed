-- What a rule of the grammar reads from, and the steps that every rule is made of.
use Rattle.std.specs.Prelude.{◌≡◌, ℕ, Bool, true, false, if◌then◌else◌, List, [], ◌∷◌, length, take, drop, bytes_eq, Result, Ok, Err, ⊤}
use Rattle.c_tokens.specs.declared.token.Token.{Token}
use Rattle.c_tokens.specs.declared.token.TokenKind.{TokenKind}
use Rattle.c_tokens.specs.declared.token.TokenKind.TheVariants as token
use Rattle.c_reading.specs.declared.named.Kind.{Kind}
use Rattle.c_reading.specs.declared.error.ReadFault.{ReadFault}
use Rattle.c_reading.specs.declared.error.ReadError.{ReadError}
use Rattle.c_reading.specs.declared.error.ReadError.TheVariants.{Fault, Memory}

-- The text, its tokens that are left, the names so far in order of first sight with their kinds, how many of them are
-- parameters and how many arrays, and how many statements there are so far.
pub record Input : Type 0 where
  pub text : List ℕ
  pub tokens : List Token
  pub names : List (List ℕ)
  pub kinds : List Kind
  pub parameters : ℕ
  pub arrays : ℕ
  pub statements : ℕ

-- ---- the next token

-- the first token, or an end where none is left
abbrev pub first_of : List Token → Token
first_of [] = record { kind = token.End; place = 0; length = 0 }
first_of (t ∷ ts) = t

abbrev pub next_token : Input → Token
next_token i = first_of i.tokens

abbrev pub kind : Input → TokenKind
kind i = (next_token i).kind

abbrev pub place : Input → ℕ
place i = (next_token i).place

-- the bytes of the next token
unfoldable pub spelling : Input → List ℕ
spelling i = take (next_token i).length (drop (place i) i.text)

-- what is left behind the next token
unfoldable pub next : Input → Input
next i = record i { tokens = drop 1 i.tokens }

-- whether the next token is this word or symbol
unfoldable pub sees : List ℕ → Input → Bool
sees word i = bytes_eq (spelling i) word

abbrev pub is_name_kind : TokenKind → Bool
is_name_kind token.Name = true
is_name_kind _ = false

abbrev pub is_number_kind : TokenKind → Bool
is_number_kind token.Number = true
is_number_kind _ = false

abbrev pub is_bad_kind : TokenKind → Bool
is_bad_kind token.Bad = true
is_bad_kind _ = false

-- how many tokens are left
abbrev pub left : Input → ℕ
left i = length i.tokens

-- ---- rules

-- what a rule gives: a value and what is left, or a fault
abbrev pub Outcome : Type 0 → Type 0
Outcome A = Result (A × Input) ReadFault

abbrev pub Rule : Type 0 → Type 0
Rule A = Input → Outcome A

abbrev pub and_then : {A B : Type 0} → Outcome A → (A → Rule B) → Outcome B
and_then (Ok p) f = f p.0 p.1
and_then (Err e) f = Err e

infixl 10 ◌>>=◌
abbrev pub ◌>>=◌ : {A B : Type 0} → Rule A → (A → Rule B) → Rule B
p >>= f = λ i. and_then (p i) f

infixl 10 ◌>>◌
abbrev pub ◌>>◌ : {A B : Type 0} → Rule A → Rule B → Rule B
p >> q = p >>= (λ _. q)

abbrev pub pure : {A : Type 0} → A → Rule A
pure a = λ i. Ok (a, i)

-- what was given already
abbrev pub given : {A : Type 0} → Result A ReadFault → Rule A
given (Ok a) = pure a
given (Err e) = λ i. Err e

-- a fault of this number at this place
abbrev pub fault_at : {A : Type 0} → ℕ → ℕ → Rule A
fault_at number there = λ i. Err (record { number = number; place = there })

-- a fault of this number at the next token
abbrev pub fault : {A : Type 0} → ℕ → Rule A
fault number = λ i. Err (record { number = number; place = place i })

-- the next token is taken
abbrev pub pass : Rule (Unit {0})
pass = λ i. Ok (tt, next i)

-- why no rule takes the next token: a byte that begins none is fault 2, another token fault 3
unfoldable pub refusal : Input → ReadFault
refusal i = record { number = (if is_bad_kind (kind i) then 2 else 3); place = place i }

abbrev pub refuse : {A : Type 0} → Rule A
refuse = λ i. Err (refusal i)

-- ---- what a function that reads ensures: what the rule gives, unless memory fails

abbrev pub Reads : {A : Type 0} → Outcome A → Result A ReadError → Input → Type 0
Reads outcome (Ok a) new = outcome ≡ Ok (a, new)
Reads outcome (Err (Fault f)) new = outcome ≡ Err f
Reads outcome (Err Memory) new = ⊤

-- the same of a function that reads no token
abbrev pub Gives : {A : Type 0} → Result A ReadFault → Result A ReadError → Type 0
Gives expected (Ok a) = expected ≡ Ok a
Gives expected (Err (Fault f)) = expected ≡ Err f
Gives expected (Err Memory) = ⊤
