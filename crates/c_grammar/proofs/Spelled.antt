-- What a rule of the reading sees where words are spelled.
use Rattle.std.proofs.Common.{◌≡◌, ℕ, suc, ◌<◌, ◌≤◌, Bool, true, false, List, [], ◌∷◌, ◌++◌, length, drop, refl, sym, ap, ◌∙◌, Option, Some, None, subst, arith}
use Rattle.std.specs.Prelude.{if◌then◌else◌, Ok, Err, bytes_eq}
use Rattle.std.specs.List.{AllByRecursion}
use Rattle.std.proofs.lemmas.List.{append_assoc, length-append, length-map}
use Rattle.std.proofs.lemmas.Slice.Eq.{bytes_eq-Decides}
use Rattle.c_tokens.specs.declared.token.TokenKind.{TokenKind}
use Rattle.c_tokens.specs.declared.token.TokenKind.TheVariants as token
use Rattle.c_reading.specs.Input.{Input, Rule, Outcome, and_then, kind, spelling, next, sees, left}
use Rattle.c_grammar.specs.Words.{Word, word_of, a_name, a_number, program_end}
use Rattle.c_grammar.specs.Meaning.{Names, Meaning, then_in, given, none}
use Rattle.c_grammar.proofs.Steps.{words, bare, first, spelled_kind, IsSpelled, kind_is, spelling_is, next_is, bool_cases}

-- these words, whose bytes have their kinds, are left in front of the end of the program
pub record At (i : Input) (ws : List Word) : Type 0 where
  pub are : words i ≡ ws ++ program_end ∷ []
  pub spelled : AllByRecursion IsSpelled ws

-- the first word, with the end or without
first_end : (ws : List Word) → first (ws ++ program_end ∷ []) ≡ first ws
first_end [] = refl
first_end (w ∷ ws) = refl

-- the next token's kind is the first word's
pub at_kind : {i : Input} {ws : List Word} → At i ws → kind i ≡ (first ws).kind
at_kind {i} {ws} at = kind_is i ∙ ap (λ (l : List Word). (first l).kind) at.are ∙ ap (λ (w : Word). w.kind) (first_end ws)

-- its bytes are the first word's
pub at_spelling : {i : Input} {ws : List Word} → At i ws → spelling i ≡ (first ws).bytes
at_spelling {i} {ws} at = spelling_is i ∙ ap (λ (l : List Word). (first l).bytes) at.are ∙ ap (λ (w : Word). w.bytes) (first_end ws)

-- a word is seen exactly where the first word has its bytes
pub at_sees : {i : Input} {ws : List Word} (word : List ℕ) → At i ws → sees word i ≡ bytes_eq (first ws).bytes word
unfolding sees
at_sees {i} {ws} word at = ap (λ (b : List ℕ). bytes_eq b word) (at_spelling at)

-- as many tokens are left as words, and the end
pub at_left : {i : Input} {ws : List Word} → At i ws → left i ≡ suc (length ws)
at_left {i} {ws} at = omega (arith, length-map i.tokens (word_of i.text), ap (λ (l : List Word). length l) at.are, length-append ws (program_end ∷ []))

-- the first word is taken
pub at_next : {i : Input} {w : Word} {ws : List Word} → At i (w ∷ ws) → At (next i) ws
at_next {i} {w} {ws} at = record { are = next_is i ∙ ap (λ (l : List Word). drop 1 l) at.are; spelled = at.spelled.1 }

-- the same words are left
pub at_as : {i : Input} {ws : List Word} (j : Input) → words j ≡ words i → At i ws → At j ws
at_as j same at = record { are = same ∙ at.are; spelled = at.spelled }

-- the words are put together otherwise
pub at_assoc : {i : Input} (xs ys zs : List Word) → At i ((xs ++ ys) ++ zs) → At i (xs ++ (ys ++ zs))
at_assoc {i} xs ys zs at = subst (λ (l : List Word). At i l) (append_assoc xs ys zs) at

-- some token is left
pub some_left : {i : Input} {ws : List Word} → At i ws → 1 ≤ left i
some_left at = omega (arith, at_left at)

-- words in front of others make them longer
pub longer : (xs ys zs : List Word) → length (ys ++ zs) ≤ length ((xs ++ ys) ++ zs)
longer xs ys zs = omega (arith, length-append (xs ++ ys) zs, length-append xs ys, length-append ys zs)

-- words were taken
pub fewer : {i j : Input} {ws vs : List Word} {n : ℕ} → At i ws → At j vs → left i ≤ suc n → length vs < length ws → left j ≤ n
fewer a b few less = omega (arith, at_left a, at_left b)

-- words of other kinds aren't seen
pub other_bytes : (bytes word : List ℕ) (k : TokenKind) → k ≡ spelled_kind bytes → (k ≡ spelled_kind word → ⊥) → bytes_eq bytes word ≡ false
other_bytes bytes word k is other = bool_cases (bytes_eq bytes word) (λ same. absurd (other (is ∙ ap spelled_kind ((bytes_eq-Decides bytes word).0 same)))) (λ no. no)

-- no name is a symbol
pub name_not_symbol : {i : Input} {name : List ℕ} {ws : List Word} (word : List ℕ) → spelled_kind word ≡ token.Symbol → At i (a_name name ∷ ws) → sees word i ≡ false
name_not_symbol {i} {name} {ws} word symbol at = at_sees word at ∙ other_bytes name word token.Name at.spelled.0 (λ e. let no : token.Name ≡ token.Symbol = e ∙ symbol in absurd cc)

-- no name is a word that C keeps
pub name_not_keyword : {i : Input} {name : List ℕ} {ws : List Word} (word : List ℕ) → spelled_kind word ≡ token.Word → At i (a_name name ∷ ws) → sees word i ≡ false
name_not_keyword {i} {name} {ws} word keyword at = at_sees word at ∙ other_bytes name word token.Name at.spelled.0 (λ e. let no : token.Name ≡ token.Word = e ∙ keyword in absurd cc)

-- no number is a symbol
pub number_not_symbol : {i : Input} {name : List ℕ} {ws : List Word} (word : List ℕ) → spelled_kind word ≡ token.Symbol → At i (a_number name ∷ ws) → sees word i ≡ false
number_not_symbol {i} {name} {ws} word symbol at = at_sees word at ∙ other_bytes name word token.Number at.spelled.0 (λ e. let no : token.Number ≡ token.Symbol = e ∙ symbol in absurd cc)

-- what has the same bytes is seen
pub same_seen : {i : Input} {w : Word} {ws : List Word} → At i (w ∷ ws) → sees w.bytes i ≡ true
same_seen {i} {w} {ws} at = at_sees w.bytes at ∙ (bytes_eq-Decides w.bytes w.bytes).1 refl

-- ---- meanings, taken apart

-- what means something does so step by step
pub then_some : {A B P : Type 0} (f : A → Meaning B) {q : B × Names} (m : Option (A × Names)) → then_in m f ≡ Some q → ((p : A × Names) → m ≡ Some p → f p.0 p.1 ≡ Some q → P) → P
then_some f (Some p) e k = k p refl e
then_some f None e k = absurd cc

-- what was given, and what it means then
pub given_some : {A B P : Type 0} (o : Option A) (f : A → Meaning B) (s : Names) {q : B × Names} → then_in (given o s) f ≡ Some q → ((a : A) → o ≡ Some a → f a s ≡ Some q → P) → P
given_some (Some a) f s e k = k a refl e
given_some None f s e k = absurd cc

-- what was given in the end
pub given_last : {A P : Type 0} (o : Option A) (s : Names) {q : A × Names} → given o s ≡ Some q → ((a : A) → o ≡ Some a → ◌≡◌ {A = A × Names} (a, s) q → P) → P
given_last (Some a) s e k = k a refl cc
given_last None s e k = absurd cc

-- ---- outcomes, put together

-- a step that succeeds, and what follows
pub then_ok : {A B : Type 0} (r : Outcome A) (f : A → Rule B) {p : A × Input} {o : Outcome B} → r ≡ Ok p → f p.0 p.1 ≡ o → and_then r f ≡ o
then_ok r f e g = ap (λ o. and_then o f) e ∙ g

-- a test that succeeded, where else nothing is meant
pub some_if : {A P : Type 0} (y : A) {x : A} (c : Bool) → ◌≡◌ {A = Option A} (if c then Some y else None) (Some x) → (c ≡ true → y ≡ x → P) → P
some_if y true e k = k refl cc
some_if y false e k = absurd cc

-- something or nothing is there
pub option_cases : {A P : Type 0} (o : Option A) → ((x : A) → o ≡ Some x → P) → (o ≡ None → P) → P
option_cases (Some x) s n = s x refl
option_cases None s n = n refl

-- the same is there
pub same_some : {A : Type 0} {x y : A} → ◌≡◌ {A = Option A} (Some x) (Some y) → x ≡ y
same_some e = cc

-- ---- rules that give what is meant

-- where something is meant of which this holds, the rule gives it, and these words are left
pub record RunsIf {A V : Type 0} (P : V → Type 0) (view : A → V) (o : Outcome A) (rest : List Word) (m : Option (V × Names)) : Type 0 where
  pub run : (x : V × Names) → m ≡ Some x → P x.0 → (q : A × Input) × (o ≡ Ok q) × At q.1 rest × ◌≡◌ {A = V × Names} (view q.0, bare q.1) x

-- the same, of all that is meant
abbrev pub Runs : {A V : Type 0} → (A → V) → Outcome A → List Word → Option (V × Names) → Type 0
Runs view o rest m = RunsIf (λ _. Unit {0}) view o rest m

-- nothing is meant
pub none_meant : {A V : Type 0} {P : V → Type 0} {view : A → V} {o : Outcome A} {rest : List Word} → RunsIf P view o rest None
none_meant = record { run = λ x e h. absurd cc }

-- what is given is meant
pub runs_end : {A V : Type 0} {P : V → Type 0} {view : A → V} {q : A × Input} {rest : List Word} {m : Option (V × Names)} → At q.1 rest → m ≡ Some (view q.0, bare q.1) → RunsIf P view (Ok q) rest m
runs_end {q = q} at is = record { run = λ x e h. (q, refl, at, same_some (sym is ∙ e)) }

-- a rule, and what follows, where this holds of what the rule gives
pub runs_if_then : {A B V W : Type 0} {P : V → Type 0} {Q : W → Type 0} {view : A → V} {last : B → W} {ws rest : List Word} (o : Outcome A) (f : A → Rule B) (m : Option (V × Names)) (g : V → Meaning W)
    → ((p : V × Names) (x : W × Names) → g p.0 p.1 ≡ Some x → Q x.0 → P p.0) → RunsIf P view o ws m → ((q : A × Input) → At q.1 ws → RunsIf Q last (f q.0 q.1) rest (g (view q.0) (bare q.1)))
    → RunsIf Q last (and_then o f) rest (then_in m g)
runs_if_then {V = V} o f m g holds r k = record {
  run = λ x e h. then_some g m e (λ p e1 e2.
      let first = r.run p e1 (holds p x e2 h) in
      let others = (k first.0 first.2).run x (ap (λ (y : V × Names). g y.0 y.1) first.3 ∙ e2) h in
      (others.0, then_ok o f first.1 others.1, others.2, others.3));
}

-- a rule, and what follows
pub runs_then : {A B V W : Type 0} {Q : W → Type 0} {view : A → V} {last : B → W} {ws rest : List Word} (o : Outcome A) (f : A → Rule B) (m : Option (V × Names)) (g : V → Meaning W) → Runs view o ws m
    → ((q : A × Input) → At q.1 ws → RunsIf Q last (f q.0 q.1) rest (g (view q.0) (bare q.1))) → RunsIf Q last (and_then o f) rest (then_in m g)
runs_then o f m g r k = runs_if_then o f m g (λ p x e h. tt) r k

-- a rule, and what follows without a meaning
pub runs_after : {A B W : Type 0} {P : W → Type 0} {view : A → W} {last : B → W} {ws rest : List Word} {m : Option (W × Names)} (o : Outcome A) (f : A → Rule B) → RunsIf P view o ws m
    → ((q : A × Input) → At q.1 ws → RunsIf P last (f q.0 q.1) rest (Some (view q.0, bare q.1))) → RunsIf P last (and_then o f) rest m
runs_after o f r k = record {
  run = λ x e h.
      let first = r.run x e h in
      let others = (k first.0 first.2).run x (ap Some first.3) h in
      (others.0, then_ok o f first.1 others.1, others.2, others.3);
}

-- a rule that stands inside another
pub runs_inside : {A B C W : Type 0} {P : W → Type 0} {last : C → W} {rest : List Word} {m : Option (W × Names)} (o : Outcome A) (f : A → Rule B) (g : B → Rule C) → RunsIf P last (and_then o (λ a i. and_then (f a i) g)) rest m → RunsIf P last (and_then (and_then o f) g) rest m
runs_inside (Ok p) f g h = h
runs_inside (Err e) f g h = h

-- what was given is meant, and what follows
pub runs_given : {B V W : Type 0} {P : W → Type 0} {last : B → W} {out : Outcome B} {rest : List Word} (o : Option V) (s : Names) (g : V → Meaning W) → ((v : V) → o ≡ Some v → RunsIf P last out rest (g v s)) → RunsIf P last out rest (then_in (given o s) g)
runs_given (Some v) s g k = k v refl
runs_given None s g k = none_meant

-- the same in the end
pub runs_given_last : {B V : Type 0} {P : V → Type 0} {last : B → V} {out : Outcome B} {rest : List Word} (o : Option V) (s : Names) → ((v : V) → o ≡ Some v → RunsIf P last out rest (Some (v, s))) → RunsIf P last out rest (given o s)
runs_given_last (Some v) s k = k v refl
runs_given_last None s k = none_meant

-- a test that succeeds, where else nothing is meant
pub runs_when : {A V : Type 0} {P : V → Type 0} {view : A → V} {o : Outcome A} {rest : List Word} {m : Option (V × Names)} (c : Bool) (x : Outcome A) → RunsIf P view o rest m → RunsIf P view (if c then o else x) rest (if c then m else None)
runs_when true x h = h
runs_when false x h = none_meant

-- the same of what means something
pub runs_where : {A V : Type 0} {P : V → Type 0} {view : A → V} {o : Outcome A} {rest : List Word} (c : Bool) (x : Outcome A) (m : Meaning V) (s : Names) → RunsIf P view o rest (m s) → RunsIf P view (if c then o else x) rest ((if c then m else none) s)
runs_where true x m s h = h
runs_where false x m s h = none_meant

-- a test that fails, where else nothing is meant
pub runs_unless : {A V : Type 0} {P : V → Type 0} {view : A → V} {o : Outcome A} {rest : List Word} (c : Bool) (x : Outcome A) (m : Meaning V) (s : Names) → RunsIf P view o rest (m s) → RunsIf P view (if c then x else o) rest ((if c then none else m) s)
runs_unless true x m s h = none_meant
runs_unless false x m s h = h

-- a name's bytes are those of the next token
pub at_name : {A V : Type 0} {view : A → V} {o : Outcome A} {i : Input} {name : List ℕ} {ws rest : List Word} (m : List ℕ → Option (V × Names)) → At i (a_name name ∷ ws)
    → (At i (a_name (spelling i) ∷ ws) → Runs view o rest (m (spelling i))) → Runs view o rest (m name)
at_name {view = view} {o = o} {i = i} {name = name} {ws = ws} {rest = rest} m at h =
    let same : spelling i ≡ name = at_spelling at in
    subst (λ (n : List ℕ). Runs view o rest (m n)) same (h (subst (λ (n : List ℕ). At i (a_name n ∷ ws)) (sym same) at))
