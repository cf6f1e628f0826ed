-- Comparisons, references and values that are spelled within the limits are read, with their meaning.
use Rattle.std.proofs.Common.{◌≡◌, ℕ, zero, suc, ◌+◌, ◌≤◌, true, false, List, [], ◌∷◌, ◌++◌, length, refl, ap, ◌∙◌, Option, Some, None, arith, Bool, not}
use Rattle.std.specs.Prelude.{pos, ◌==◌, nat_le, if◌then◌else◌, Ok, bytes_eq, codes}
use Rattle.c_reading.specs.declared.named.Kind.{Kind}
use Rattle.c_reading.specs.declared.named.Kind.TheVariants.{Parameter, OpenLoop, ClosedLoop, Array}
use Rattle.c_reading.specs.Access.{Access}
use Rattle.c_reading.specs.Input.{Input, Outcome, spelling, next, left, place, fault_at, Rule, and_then, sees}
use Rattle.c_reading.specs.Affine.{Affine, kind_of, with_name, affine, is_short, signs, all_signs}
use Rattle.c_reading.specs.Compare as compare_rule
use Rattle.c_reading.specs.Compare.{Rows, Compared}
use Rattle.c_reading.specs.Refs as refs
use Rattle.c_reading.specs.Refs.{with_kind, access}
use Rattle.c_grammar.specs.Words.{Word, a_name, a_symbol}
use Rattle.c_grammar.specs.Affine as affine_tree
use Rattle.c_grammar.specs.Affine.{affine_words, comparison_word, compare_words, compares_words, subscripts_words, reference_words, Reference, Subscripts, subscript_end, subscript}
use Rattle.c_grammar.specs.Meaning as mean
use Rattle.c_grammar.specs.Meaning.{Names, Form, Seen, affine_means, compare_means, compares_mean, subscripts_means, access_from, reference_means, named_means, name_means, value_means, operands_means, unary_means, arguments_means}
use Rattle.c_grammar.proofs.Steps.{suc_not_zero, one_less, bare, first, bool_cases, spelled_kind}
use Rattle.c_grammar.proofs.Spelled.{option_cases, At, at_sees, at_next, at_as, at_assoc, some_left, longer, fewer, then_some, Runs, none_meant, runs_end, runs_then, runs_inside, runs_given_last, runs_when, runs_unless, at_name, at_kind, at_spelling, name_not_symbol, number_not_symbol, runs_after, runs_where}
use Rattle.c_grammar.proofs.SoundValues.{or_large, with_row_is, with_both_is, Taken, Stands, as_taken, as_seen}
use Rattle.c_grammar.proofs.RunAffine.{Ends, affine_read, closed_by_run, no_signs, minus_sign, plus_sign}
use Rattle.c_reading.specs.Values as rule
use Rattle.c_reading.specs.Values.{Accesses, most_reads, expect, open_bracket}
use Rattle.c_grammar.specs.Value as tree
use Rattle.c_grammar.specs.Value.{Unary, value_words, operands_words, unary_words, arguments_words, operator_word}

-- ---- comparisons

-- the comparison that is spelled is seen
comparison_run : (c : affine_tree.Comparison) (j : Input) (ws : List Word) → At j (comparison_word c ∷ ws) → (taken : Taken) × (compare_rule.comparison j ≡ Some taken) × Stands c taken
unfolding compare_rule.comparison compare_rule.with_compare
comparison_run affine_tree.at_least j ws at = option_cases (compare_rule.comparison j)
    (λ taken e. let e1 = rw (at_sees (codes ">=") at) at e in (taken, e, as_taken e1 (record { count = refl; rows = λ start rows a b. with_row_is start rows (pos 0) a b }))) (λ e. let e1 = rw (at_sees (codes ">=") at) at e in absurd cc)
comparison_run affine_tree.above j ws at = option_cases (compare_rule.comparison j)
    (λ taken e. let e1 = rw (at_sees (codes ">=") at, at_sees (codes ">") at) at e in (taken, e, as_taken e1 (record { count = refl; rows = λ start rows a b. with_row_is start rows (pos 1) a b }))) (λ e. let e1 = rw (at_sees (codes ">=") at, at_sees (codes ">") at) at e in absurd cc)
comparison_run affine_tree.at_most j ws at = option_cases (compare_rule.comparison j)
    (λ taken e. let e1 = rw (at_sees (codes ">=") at, at_sees (codes ">") at, at_sees (codes "<=") at) at e in (taken, e, as_taken e1 (record { count = refl; rows = λ start rows a b. with_row_is start rows (pos 0) b a }))) (λ e. let e1 = rw (at_sees (codes ">=") at, at_sees (codes ">") at, at_sees (codes "<=") at) at e in absurd cc)
comparison_run affine_tree.below j ws at = option_cases (compare_rule.comparison j)
    (λ taken e. let e1 = rw (at_sees (codes ">=") at, at_sees (codes ">") at, at_sees (codes "<=") at, at_sees (codes "<") at) at e in (taken, e, as_taken e1 (record { count = refl; rows = λ start rows a b. with_row_is start rows (pos 1) b a }))) (λ e. let e1 = rw (at_sees (codes ">=") at, at_sees (codes ">") at, at_sees (codes "<=") at, at_sees (codes "<") at) at e in absurd cc)
comparison_run affine_tree.equal j ws at = option_cases (compare_rule.comparison j)
    (λ taken e. let e1 = rw (at_sees (codes ">=") at, at_sees (codes ">") at, at_sees (codes "<=") at, at_sees (codes "<") at, at_sees (codes "==") at) at e in (taken, e, as_taken e1 (record { count = refl; rows = λ start rows a b. with_both_is start rows a b }))) (λ e. let e1 = rw (at_sees (codes ">=") at, at_sees (codes ">") at, at_sees (codes "<=") at, at_sees (codes "<") at, at_sees (codes "==") at) at e in absurd cc)

-- it is taken where its rows aren't too many
comparison_by_run : (room start count : ℕ) (a : Affine) (taken : Taken) (j : Input) → compare_rule.comparison j ≡ Some taken → nat_le (count + compare_rule.row_count taken) room ≡ true → compare_rule.comparison_by room start count a (compare_rule.comparison j) j ≡ Ok (taken, j)
unfolding compare_rule.comparison_by
comparison_by_run room start count a taken j e few = rw (e, few) refl

-- an expression ends at a comparison
ends_comparison : (c : affine_tree.Comparison) (ws : List Word) → Ends (comparison_word c ∷ ws)
ends_comparison affine_tree.at_least ws = record { times = refl; plus = refl; minus = refl }
ends_comparison _ ws = record { times = refl; plus = refl; minus = refl }

-- a compare is read, whatever place its faults have
pub compare_from_run : (b room start : ℕ) (rows : Rows) (c : affine_tree.Compare) (rest : List Word) (i : Input) → At i (compare_words c ++ rest) → Ends rest → Runs (λ (c : Compared). c.rows) (compare_rule.compare_from b room start rows i) rest (compare_means b room rows c (bare i))
unfolding compare_rule.compare_from compare_means next
compare_from_run b room start rows c rest i at ends =
    runs_then (affine b None i) _ (affine_means b c.left (bare i)) _
    (affine_read b c.left (comparison_word c.comparison ∷ (affine_words c.right ++ rest)) i (at_assoc (affine_words c.left) (comparison_word c.comparison ∷ affine_words c.right) rest at) (ends_comparison c.comparison _)) (λ l at1.
    let k = comparison_run c.comparison l.1 (affine_words c.right ++ rest) at1 in
    bool_cases (nat_le (length rows + mean.row_count c.comparison) room)
    (λ few. rw (comparison_by_run room start (length rows) l.0 k.0 l.1 k.1 (ap (λ (n : ℕ). nat_le (length rows + n) room) k.2.count ∙ few), few) (
    runs_then (affine b None (next l.1)) _ (affine_means b c.right (bare l.1)) _ (affine_read b c.right rest (next l.1) (at_next at1) ends) (λ r at2.
    runs_given_last (mean.with_compare rows c.comparison l.0.numbers r.0.numbers) (bare r.1) (λ all e. rw (k.2.rows start rows l.0.numbers r.0.numbers ∙ ap (or_large start) e) (runs_end at2 refl)))))
    (λ many. rw many (record { run = λ x e h. then_some _ (affine_means b c.right (bare l.1)) e (λ p e1 e2. absurd cc) })))

-- no compare goes on with this word
pub record EndsCompares (w : Word) : Type 0 where
  pub ends : Ends (w ∷ [])
  pub joins : bytes_eq w.bytes (codes "&&") ≡ false

-- an expression ends at the first word, whatever stands behind it
ends_first : (w : Word) (ws : List Word) → Ends (w ∷ []) → Ends (w ∷ ws)
ends_first w ws e = record { times = e.times; plus = e.plus; minus = e.minus }

-- compares are read
pub compares_run : (b room : ℕ) (cs : affine_tree.Compares) (n : ℕ) (rows : Rows) (w : Word) (rest : List Word) (i : Input) → At i (compares_words cs ++ (w ∷ rest)) → EndsCompares w → left i ≤ n
    → Runs (λ (c : Compared). c.rows) (compare_rule.compares b room n rows i) (w ∷ rest) (compares_mean b room rows cs (bare i))
unfolding compares_mean compare_rule.compares compare_rule.compare next
compares_run b room cs zero rows w rest i at ends few = let some = some_left at in absurd (omega arith)
compares_run b room (affine_tree.last_compare c) (suc n) rows w rest i at ends few =
    runs_after (compare_rule.compare_from b room (place i) rows i) _ (compare_from_run b room (place i) rows c (w ∷ rest) i at (ends_first w rest ends.ends)) (λ r at1. rw (at_sees (codes "&&") at1 ∙ ends.joins) (runs_end at1 refl))
compares_run b room (affine_tree.compare c cs) (suc n) rows w rest i at ends few =
    let behind : List Word = a_symbol (codes "&&") ∷ (compares_words cs ++ (w ∷ rest)) in
    runs_then (compare_rule.compare_from b room (place i) rows i) _ (compare_means b room rows c (bare i)) _ (compare_from_run b room (place i) rows c behind i (at_assoc (compare_words c) (a_symbol (codes "&&") ∷ compares_words cs) (w ∷ rest) at) (record { times = refl; plus = refl; minus = refl })) (λ r at1.
    rw (at_sees (codes "&&") at1) (compares_run b room cs n r.0.rows w rest (next r.1) (at_next at1) ends (fewer at (at_next at1) few (omega (arith, longer (compare_words c) (a_symbol (codes "&&") ∷ compares_words cs) (w ∷ rest))))))

-- ---- references

-- an array's name, by its kind
array_by_run : (i : Input) (rest : List Word) (k : Option Kind) → At i (a_name (spelling i) ∷ rest) → Runs as_seen (refs.array_by k i) rest (mean.array_by (spelling i) k (bare i))
unfolding refs.new_array with_name next
array_by_run i rest None at = runs_when _ _ (runs_end (at_as _ refl (at_next at)) refl)
array_by_run i rest (Some (Array number count)) at = runs_end (at_next at) refl
array_by_run i rest (Some _) at = none_meant

-- an array's name is read
array_run : (i : Input) (name : List ℕ) (rest : List Word) → At i (a_name name ∷ rest) → Runs as_seen (refs.array i) rest (mean.array name (bare i))
unfolding refs.array mean.array kind_of
array_run i name rest at = at_name (λ n. mean.array_by n (kind_of n (bare i)) (bare i)) at (array_by_run i rest (kind_of (spelling i) i))

-- no `[` follows
abbrev pub NoBracket : List Word → Type 0
NoBracket ws = bytes_eq (first ws).bytes (codes "[") ≡ false

-- subscripts are read
subscripts_run : (b : ℕ) (ss : affine_tree.Subscripts) (rest : List Word) (n : ℕ) (rows : Rows) (i : Input) → At i (subscripts_words ss ++ rest) → NoBracket rest → left i ≤ n
    → Runs (λ a. a) (refs.subscripts b n rows i) rest (subscripts_means b rows ss (bare i))
unfolding subscripts_means refs.subscripts refs.subscript next
subscripts_run b ss rest zero rows i at other few = let some = some_left at in absurd (omega arith)
subscripts_run b affine_tree.subscript_end rest (suc n) rows i at other few = rw (at_sees (codes "[") at ∙ other) (runs_end at refl)
subscripts_run zero (affine_tree.subscript a ss) rest (suc n) rows i at other few = none_meant
subscripts_run (suc b) (affine_tree.subscript a ss) rest (suc n) rows i at other few =
    rw (at_sees (codes "[") at, suc_not_zero b, one_less b) (runs_unless (nat_le refs.most_subscripts (length rows)) _ _ _ (runs_inside (affine b None (next i)) _ _ (
    runs_then (affine b None (next i)) _ (affine_means b a (bare i)) _ (affine_read b a (a_symbol (codes "]") ∷ (subscripts_words ss ++ rest)) (next i) (at_assoc (affine_words a) (a_symbol (codes "]") ∷ subscripts_words ss) rest (at_next at)) (record { times = refl; plus = refl; minus = refl })) (λ r at1.
    rw (closed_by_run (codes "]") r.0 r.1 (at_sees (codes "]") at1)) (
    subscripts_run (suc b) ss rest n (rows ++ r.0.numbers ∷ []) (next r.1) (at_next at1) other (fewer at (at_next at1) few (omega (arith, longer (affine_words a) (a_symbol (codes "]") ∷ subscripts_words ss) rest))))))))

-- as many subscripts as the array has are accepted
access_by_run : (there at number : ℕ) (rows : Rows) (i : Input) (o : Option ℕ) (rest : List Word) → At i rest
    → Runs (λ a. a) (elim o as (λ _. Outcome Access) [
      | None ↦ Ok (record { array = number; subscripts = rows }, with_kind at (Array number (length rows)) i)
      | Some count ↦ if length rows == count then Ok (record { array = number; subscripts = rows }, i) else fault_at 8 there i
    ]) rest (mean.access_by at rows number o (bare i))
unfolding with_kind
access_by_run there at number rows i None rest a = runs_end (at_as _ refl a) refl
access_by_run there at number rows i (Some count) rest a = runs_when _ _ (runs_end a refl)

-- a reference is read
pub access_read : (b : ℕ) (r : affine_tree.Reference) (rest : List Word) (i : Input) → At i (reference_words r ++ rest) → NoBracket rest → Runs (λ a. a) (refs.access b i) rest (reference_means b r (bare i))
unfolding refs.access refs.access_from refs.access_by refs.all_subscripts reference_means access_from
access_read b r rest i at other =
    runs_then (refs.array i) _ (mean.array r.name (bare i)) _ (array_run i r.name (subscripts_words r.subscripts ++ rest) at) (λ a at1.
    runs_then (refs.subscripts b (left a.1) [] a.1) _ (subscripts_means b [] r.subscripts (bare a.1)) _ (subscripts_run b r.subscripts rest (left a.1) [] a.1 at1 other (omega arith)) (λ s at2.
    access_by_run (place i) (length i.names) a.0.array s.0 s.1 a.0.subscripts rest at2))

-- ---- what follows

-- no word that goes on with a reference or makes a name a call
pub record NotCalled (ws : List Word) : Type 0 where
  pub bracket : NoBracket ws
  pub paren : bytes_eq (first ws).bytes (codes "(") ≡ false

-- no word that goes on with a value
pub record EndsValue (ws : List Word) : Type 0 where
  pub plus : bytes_eq (first ws).bytes (codes "+") ≡ false
  pub minus : bytes_eq (first ws).bytes (codes "-") ≡ false
  pub times : bytes_eq (first ws).bytes (codes "*") ≡ false
  pub slash : bytes_eq (first ws).bytes (codes "/") ≡ false
  pub percent : bytes_eq (first ws).bytes (codes "%") ≡ false
  pub last : NotCalled ws

-- no bracket stands behind an operand
not_called : (os : tree.Operands) (rest : List Word) → NotCalled rest → NotCalled (operands_words os ++ rest)
not_called tree.operand_end rest last = last
not_called (tree.operand tree.adds u os) rest last = record { bracket = refl; paren = refl }
not_called (tree.operand _ u os) rest last = record { bracket = refl; paren = refl }

-- ---- steps

-- a word that has to follow is taken
pub expect_run : (word : List ℕ) (i : Input) → sees word i ≡ true → expect word i ≡ Ok (tt, next i)
unfolding expect
expect_run word i seen = rw seen refl

-- a bracket is opened
pub open_run : (d : ℕ) (i : Input) → open_bracket (suc d) i ≡ Ok (tt, next i)
unfolding open_bracket
open_run d i = rw (suc_not_zero d) refl

-- an operator is seen
operator_seen : (o : tree.Operator) (i : Input) (ws : List Word) → At i (operator_word o ∷ ws) → rule.is_operator i ≡ true
unfolding rule.is_operator
operator_seen tree.adds i ws at = rw (at_sees (codes "+") at) refl
operator_seen tree.subtracts i ws at = rw (at_sees (codes "+") at, at_sees (codes "-") at) refl
operator_seen tree.multiplies i ws at = rw (at_sees (codes "+") at, at_sees (codes "-") at, at_sees (codes "*") at) refl
operator_seen tree.divides i ws at = rw (at_sees (codes "+") at, at_sees (codes "-") at, at_sees (codes "*") at, at_sees (codes "/") at) refl
operator_seen tree.takes_rest i ws at = rw (at_sees (codes "+") at, at_sees (codes "-") at, at_sees (codes "*") at, at_sees (codes "/") at, at_sees (codes "%") at) refl

-- none is seen behind a value
no_operator : (i : Input) (ws : List Word) → At i ws → EndsValue ws → rule.is_operator i ≡ false
unfolding rule.is_operator
no_operator i ws at ends = rw (at_sees (codes "+") at ∙ ends.plus, at_sees (codes "-") at ∙ ends.minus, at_sees (codes "*") at ∙ ends.times, at_sees (codes "/") at ∙ ends.slash, at_sees (codes "%") at ∙ ends.percent) refl

-- no value begins with a bracket that closes
opens_value : (i : Input) (v : tree.Value) (rest : List Word) → At i (value_words v ++ rest) → sees (codes ")") i ≡ false
unfolding spelled_kind
opens_value i (tree.value (tree.number bytes) os) rest at = number_not_symbol (codes ")") refl at
opens_value i (tree.value (tree.in_brackets v) os) rest at = at_sees (codes ")") at
opens_value i (tree.value (tree.negative u) os) rest at = at_sees (codes ")") at
opens_value i (tree.value (tree.positive u) os) rest at = at_sees (codes ")") at
opens_value i (tree.value _ os) rest at = name_not_symbol (codes ")") refl at

-- nor do arguments
opens_arguments : (i : Input) (vs : tree.Arguments) (rest : List Word) → At i (arguments_words vs ++ rest) → sees (codes ")") i ≡ false
opens_arguments i (tree.last_argument v) rest at = opens_value i v rest at
opens_arguments i (tree.argument v vs) rest at = opens_value i v ((a_symbol (codes ",") ∷ arguments_words vs) ++ rest) (at_assoc (value_words v) (a_symbol (codes ",") ∷ arguments_words vs) rest at)

-- ---- names

-- a reference is read, where they aren't too many
one_read_run : (b : ℕ) (reads : Accesses) (r : Reference) (rest : List Word) (i : Input) → At i (reference_words r ++ rest) → NoBracket rest → Runs (λ a. a) (rule.one_read b reads i) rest (mean.with_read b reads r (bare i))
unfolding mean.with_read rule.one_read
one_read_run b reads r rest i at other = runs_unless (nat_le most_reads (length reads)) _ _ _ (runs_then (access b i) _ (reference_means b r (bare i)) _ (access_read b r rest i at other) (λ a at1. runs_end at1 refl))

-- a plain number is read
plain_run : (reads : Accesses) (name : List ℕ) (ss : Subscripts) (rest : List Word) (i : Input) → At i (a_name name ∷ (subscripts_words ss ++ rest)) → NoBracket rest → Runs (λ a. a) (rule.plain reads i) rest (mean.plain_means reads ss (bare i))
unfolding rule.plain next
plain_run reads name subscript_end rest i at other =
    let after : At (next i) rest = at_next at in
    let unseen : sees (codes "[") (next i) ≡ false = at_sees (codes "[") after ∙ other in
    rw unseen (runs_end after refl)
plain_run reads name (subscript a ss) rest i at other = none_meant

-- a name that isn't called is read, by its kind
name_by_run : (b : ℕ) (reads : Accesses) (k : Option Kind) (r : Reference) (rest : List Word) (i : Input) → At i (reference_words r ++ rest) → NoBracket rest → Runs (λ a. a) (rule.name_by b reads k i) rest (named_means b reads r k (bare i))
name_by_run b reads (Some (Parameter k)) r rest i at other = plain_run reads r.name r.subscripts rest i at other
name_by_run b reads (Some (OpenLoop depth)) r rest i at other = plain_run reads r.name r.subscripts rest i at other
name_by_run b reads (Some ClosedLoop) r rest i at other = none_meant
name_by_run b reads _ r rest i at other = one_read_run b reads r rest i at other

-- no bracket of a call stands behind a reference's name
name_not_called : (ss : Subscripts) (rest : List Word) → NotCalled rest → bytes_eq (first (subscripts_words ss ++ rest)).bytes (codes "(") ≡ false
name_not_called subscript_end rest last = last.paren
name_not_called (subscript a ss) rest last = refl

-- a reference is read as a value
reference_run : (inside : Accesses → Rule Accesses) (b : ℕ) (reads : Accesses) (r : Reference) (rest : List Word) (i : Input) → At i (reference_words r ++ rest) → NotCalled rest → Runs (λ a. a) (rule.primary inside b reads i) rest (name_means b reads r (bare i))
unfolding name_means kind_of rule.primary rule.named
reference_run inside b reads r rest i at last =
    rw (at_kind at, at_sees (codes "(") (at_next at) ∙ name_not_called r.subscripts rest last, at_spelling at) (name_by_run b reads (kind_of r.name i) r rest i at last.bracket)

-- ---- values

-- a value ends at `)`
close_ends : {rest : List Word} → EndsValue (a_symbol (codes ")") ∷ rest)
close_ends = record { plus = refl; minus = refl; times = refl; slash = refl; percent = refl; last = record { bracket = refl; paren = refl } }

mutual
  unfolding value_means operands_means unary_means arguments_means rule.value_by rule.inside rule.unary all_signs rule.operands rule.primary rule.named rule.call rule.called rule.arguments rule.all_arguments rule.grouped next spelled_kind

  pub value_run : (b : ℕ) (reads : Accesses) (v : tree.Value) (rest : List Word) (i : Input) → At i (value_words v ++ rest) → EndsValue rest → Runs (λ a. a) (rule.value_by (rule.inside b) b reads i) rest (value_means b reads v (bare i))
  value_run b reads (tree.value u os) rest i at ends =
      runs_then (rule.unary (rule.inside b) b reads i) _ (unary_means b reads u (bare i)) _ (unary_run b reads u (left i) false (operands_words os ++ rest) i (at_assoc (unary_words u) (operands_words os) rest at) (not_called os rest ends.last) (omega arith)) (λ r at1.
      operands_run b r.0 os (left r.1) rest r.1 at1 ends (omega arith))

  operands_run : (b : ℕ) (reads : Accesses) (os : tree.Operands) (n : ℕ) (rest : List Word) (i : Input) → At i (operands_words os ++ rest) → EndsValue rest → left i ≤ n → Runs (λ a. a) (rule.operands (rule.inside b) b n reads i) rest (operands_means b reads os (bare i))
  operands_run b reads os zero rest i at ends few = let some = some_left at in absurd (omega arith)
  operands_run b reads tree.operand_end (suc n) rest i at ends few = rw (no_operator i rest at ends) (runs_end at refl)
  operands_run b reads (tree.operand o u os) (suc n) rest i at ends few =
      rw (operator_seen o i _ at) (
      runs_then (rule.unary (rule.inside b) b reads (next i)) _ (unary_means b reads u (bare i)) _ (unary_run b reads u (left (next i)) false (operands_words os ++ rest) (next i) (at_assoc (unary_words u) (operands_words os) rest (at_next at)) (not_called os rest ends.last) (omega arith)) (λ r at1.
      operands_run b r.0 os n rest r.1 at1 ends (fewer at at1 few (omega (arith, longer (unary_words u) (operands_words os) rest)))))

  unary_run : (b : ℕ) (reads : Accesses) (u : Unary) (n : ℕ) (sign : Bool) (rest : List Word) (i : Input) → At i (unary_words u ++ rest) → NotCalled rest → left i ≤ n
      → Runs (λ a. a) (and_then (signs n sign i) (λ _. rule.primary (rule.inside b) b reads)) rest (unary_means b reads u (bare i))
  unary_run b reads (tree.number bytes) n sign rest i at last few =
      let some = some_left at in
      rw (no_signs n sign i (omega arith) (number_not_symbol (codes "-") refl at) (number_not_symbol (codes "+") refl at), at_kind at) (runs_end (at_next at) refl)
  unary_run b reads (tree.reference r) n sign rest i at last few =
      let some = some_left at in
      rw (no_signs n sign i (omega arith) (name_not_symbol (codes "-") refl at) (name_not_symbol (codes "+") refl at)) (reference_run (rule.inside b) b reads r rest i at last)
  unary_run (suc b) reads (tree.call_of_none name) n sign rest i at last few =
      let some = some_left at in
      let one = at_next at in
      let closes : sees (codes ")") (next (next i)) ≡ true = at_sees (codes ")") (at_next one) in
      rw (no_signs n sign i (omega arith) (name_not_symbol (codes "-") refl at) (name_not_symbol (codes "+") refl at), at_kind at, at_sees (codes "(") one, at_spelling at) (
      runs_where (is_short name) _ _ _ (rw (open_run b (next i), closes) (runs_end (at_next (at_next one)) refl)))
  unary_run (suc b) reads (tree.call name vs) n sign rest i at last few =
      let some = some_left at in
      let one = at_next at in
      let two = at_assoc (arguments_words vs) (a_symbol (codes ")") ∷ []) rest (at_next one) in
      rw (no_signs n sign i (omega arith) (name_not_symbol (codes "-") refl at) (name_not_symbol (codes "+") refl at), at_kind at, at_sees (codes "(") one, at_spelling at) (
      runs_where (is_short name) _ _ _ (rw (open_run b (next i), opens_arguments (next (next i)) vs (a_symbol (codes ")") ∷ rest) two) (arguments_run b reads vs (left (next (next i))) rest (next (next i)) two (omega arith))))
  unary_run (suc b) reads (tree.in_brackets v) n sign rest i at last few =
      let some = some_left at in
      rw (no_signs n sign i (omega arith) (at_sees (codes "-") at) (at_sees (codes "+") at), at_kind at, at_sees (codes "(") at, open_run b i) (
      runs_after (rule.inside (suc b) reads (next i)) _ (value_run b reads v (a_symbol (codes ")") ∷ rest) (next i) (at_assoc (value_words v) (a_symbol (codes ")") ∷ []) rest (at_next at)) close_ends) (λ r at1.
      rw (expect_run (codes ")") r.1 (at_sees (codes ")") at1)) (runs_end (at_next at1) refl)))
  unary_run b reads (tree.negative u) zero sign rest i at last few = let some = some_left at in absurd (omega arith)
  unary_run b reads (tree.negative u) (suc n) sign rest i at last few =
      rw (minus_sign n sign i (at_sees (codes "-") at)) (unary_run b reads u n (not sign) rest (next i) (at_next at) last (fewer at (at_next at) few (omega arith)))
  unary_run b reads (tree.positive u) zero sign rest i at last few = let some = some_left at in absurd (omega arith)
  unary_run b reads (tree.positive u) (suc n) sign rest i at last few =
      rw (plus_sign n sign i (at_sees (codes "-") at) (at_sees (codes "+") at)) (unary_run b reads u n sign rest (next i) (at_next at) last (fewer at (at_next at) few (omega arith)))
  unary_run zero reads _ n sign rest i at last few = none_meant

  arguments_run : (b : ℕ) (reads : Accesses) (vs : tree.Arguments) (n : ℕ) (rest : List Word) (i : Input) → At i (arguments_words vs ++ (a_symbol (codes ")") ∷ rest)) → left i ≤ n
      → Runs (λ a. a) (rule.arguments (rule.inside (suc b)) n reads i) rest (arguments_means b reads vs (bare i))
  arguments_run b reads vs zero rest i at few = let some = some_left at in absurd (omega arith)
  arguments_run b reads (tree.last_argument v) (suc n) rest i at few =
      runs_after (rule.inside (suc b) reads i) _ (value_run b reads v (a_symbol (codes ")") ∷ rest) i at close_ends) (λ r at1.
      rw (at_sees (codes ",") at1, expect_run (codes ")") r.1 (at_sees (codes ")") at1)) (runs_end (at_next at1) refl))
  arguments_run b reads (tree.argument v vs) (suc n) rest i at few =
      let more : List Word = arguments_words vs ++ (a_symbol (codes ")") ∷ rest) in
      runs_then (rule.inside (suc b) reads i) _ (value_means b reads v (bare i)) _ (value_run b reads v (a_symbol (codes ",") ∷ more) i (at_assoc (value_words v) (a_symbol (codes ",") ∷ arguments_words vs) (a_symbol (codes ")") ∷ rest) at) (record { plus = refl; minus = refl; times = refl; slash = refl; percent = refl; last = record { bracket = refl; paren = refl } })) (λ r at1.
      rw (at_sees (codes ",") at1) (arguments_run b r.0 vs n rest (next r.1) (at_next at1) (fewer at (at_next at1) few (omega (arith, longer (value_words v) (a_symbol (codes ",") ∷ arguments_words vs) (a_symbol (codes ")") ∷ rest))))))
