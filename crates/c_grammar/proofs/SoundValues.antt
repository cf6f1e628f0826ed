-- Comparisons, references and values that are read spell the grammar, and mean what was read.
use Rattle.std.proofs.Common.{◌≡◌, ℕ, zero, suc, ◌+◌, true, List, [], ◌∷◌, ◌++◌, length, refl, sym, ap, ◌∙◌, Option, Some, None, subst, Bool, false, arith}
use Rattle.std.specs.Prelude.{◌==◌, nat_le, if◌then◌else◌, ℤ, pos, negsuc, option_and_then, Result, Ok, Err, codes}
use Rattle.c_reading.specs.declared.error.ReadFault.{ReadFault}
use Rattle.c_reading.specs.declared.named.Kind.{Kind}
use Rattle.c_reading.specs.declared.named.Kind.TheVariants.{Parameter, OpenLoop, ClosedLoop, Array}
use Rattle.c_reading.specs.Access.{Access}
use Rattle.c_reading.specs.Numbers.{combined}
use Rattle.c_reading.specs.Input.{Input, Rule, Outcome, and_then, kind, spelling, next, sees, left, place, is_name_kind, fault_at, is_number_kind}
use Rattle.c_reading.specs.Affine.{Affine, kind_of, with_name, closed_by, affine, is_short, all_signs}
use Rattle.c_reading.specs.Compare as compare_rule
use Rattle.c_reading.specs.Compare.{Rows, Compared, if_row}
use Rattle.c_reading.specs.Refs as refs
use Rattle.c_reading.specs.Refs.{with_kind, access}
use Rattle.c_grammar.specs.Words.{a_name, a_symbol, Word}
use Rattle.c_grammar.specs.Affine as affine_tree
use Rattle.c_grammar.specs.Affine.{affine_words, comparison_word, compare_words, compares_words, subscripts_words, reference_words, Reference, subscript_end}
use Rattle.c_grammar.specs.Meaning as mean
use Rattle.c_grammar.specs.Meaning.{Names, Form, Seen, affine_means, compare_means, compares_mean, subscripts_means, access_from, reference_means, named_means, name_means, value_means, operands_means, unary_means, arguments_means}
use Rattle.c_grammar.proofs.Steps.{Spells, domain, suc_not_zero, one_less, words, bare, spelled_kind, AreLexical, Took, is_plain, class, took_then, took_none, took_symbol, took_word, took_name, took_as, same_ok, if_ok, Reads, fails, gives, gives_if, reads_map, reads_then, reads_given, bool_cases, means_then, SpellsUpTo, took_number, reads_if}
use Rattle.c_grammar.proofs.SoundAffine.{form_of, affine_sound, closed_by_sound, all_signs_sound, with_signs, with_signs-words}
use Rattle.c_tokens.specs.declared.token.TokenKind.{TokenKind}
use Rattle.c_tokens.specs.declared.token.TokenKind.TheVariants as token
use Rattle.c_reading.specs.Values as rule
use Rattle.c_reading.specs.Values.{Accesses, most_reads, expect, open_bracket}
use Rattle.c_grammar.specs.Value as tree
use Rattle.c_grammar.specs.Value.{Unary, value_words, operands_words, unary_words, arguments_words, operator_word}

-- ---- comparisons

-- what is there, or fault 11 at this place
abbrev pub or_large : {A : Type 0} → ℕ → Option A → Result A ReadFault
or_large start None = Err (record { number = 11; place = start })
or_large start (Some a) = Ok a

-- what was given was there
or_large_ok : {A : Type 0} (start : ℕ) (o : Option A) (a : A) → or_large start o ≡ Ok a → o ≡ Some a
or_large_ok start None a e = absurd cc
or_large_ok start (Some b) a e = ap Some (same_ok e)

-- a comparison's row is given where it is meant
pub with_row_is : (start : ℕ) (rows : Rows) (less : ℤ) (a b : List ℤ) → compare_rule.with_row start rows less a b ≡ or_large start (mean.with_row rows less a b)
unfolding compare_rule.with_row
with_row_is start rows less a b = by (combined (negsuc 0) less a b) where
  by : (o : Option (List ℤ)) → if_row start rows o ≡ or_large start (mean.row_behind rows o)
  by None = refl
  by (Some row) = refl

-- the rows of an equation are given where they are meant
pub with_both_is : (start : ℕ) (rows : Rows) (a b : List ℤ) → compare_rule.with_both start a b (compare_rule.with_row start rows (pos 0) a b) ≡ or_large start (mean.with_compare rows affine_tree.equal a b)
with_both_is start rows a b = ap (compare_rule.with_both start a b) (with_row_is start rows (pos 0) a b) ∙ both (mean.with_row rows (pos 0) a b) where
  both : (o : Option Rows) → compare_rule.with_both start a b (or_large start o) ≡ or_large start (option_and_then (λ more. mean.with_row more (pos 0) b a) o)
  both None = refl
  both (Some more) = with_row_is start more (pos 0) b a

-- what the reader takes a comparison for
abbrev pub Taken : Type 0
Taken = domain compare_rule.row_count

-- it gives the rows that the comparison means
pub record Stands (c : affine_tree.Comparison) (taken : Taken) : Type 0 where
  pub count : compare_rule.row_count taken ≡ mean.row_count c
  pub rows : (start : ℕ) (rows : Rows) (a b : List ℤ) → compare_rule.with_compare start rows taken a b ≡ or_large start (mean.with_compare rows c a b)

-- the same, of what is there
pub as_taken : {c : affine_tree.Comparison} {x taken : Taken} → ◌≡◌ {A = Option Taken} (Some x) (Some taken) → Stands c x → Stands c taken
as_taken {c} {x} {taken} e s = let same : x ≡ taken = cc in subst (Stands c) same s

-- a comparison that was taken, where its rows aren't too many
taken : {B : Type 0} {Q : B × Input → Type 0} (room start count : ℕ) (a : Affine) (j : Input) (f : Taken → Rule B) (o : Option Taken) → ((c : Taken) → o ≡ Some c → nat_le (count + compare_rule.row_count c) room ≡ true → Reads (f c j) Q)
    → Reads (and_then (compare_rule.comparison_by room start count a o j) f) Q
unfolding compare_rule.comparison_by
taken room start count a j f None k = fails
taken room start count a j f (Some c) k = bool_cases (nat_le (count + compare_rule.row_count c) room) (λ few. rw few (k c refl few)) (λ many. rw many fails)

-- the comparison that is seen
comparison_sound : (j : Input) (taken : Taken) → AreLexical (words j) → compare_rule.comparison j ≡ Some taken → (c : affine_tree.Comparison) × Took j (comparison_word c ∷ []) (next j) × Stands c taken
unfolding compare_rule.comparison compare_rule.with_compare spelled_kind
comparison_sound j taken g e =
    if_ok _ _ (sees (codes ">=") j) e (λ is e1. (affine_tree.at_least, took_symbol (codes ">=") refl j g is, as_taken e1 (record { count = refl; rows = λ start rows a b. with_row_is start rows (pos 0) a b }))) (λ _ e0.
    if_ok _ _ (sees (codes ">") j) e0 (λ is e1. (affine_tree.above, took_symbol (codes ">") refl j g is, as_taken e1 (record { count = refl; rows = λ start rows a b. with_row_is start rows (pos 1) a b }))) (λ _ e0.
    if_ok _ _ (sees (codes "<=") j) e0 (λ is e1. (affine_tree.at_most, took_symbol (codes "<=") refl j g is, as_taken e1 (record { count = refl; rows = λ start rows a b. with_row_is start rows (pos 0) b a }))) (λ _ e0.
    if_ok _ _ (sees (codes "<") j) e0 (λ is e1. (affine_tree.below, took_symbol (codes "<") refl j g is, as_taken e1 (record { count = refl; rows = λ start rows a b. with_row_is start rows (pos 1) b a }))) (λ _ e0.
    if_ok _ _ (sees (codes "==") j) e0 (λ is e1. (affine_tree.equal, took_symbol (codes "==") refl j g is, as_taken e1 (record { count = refl; rows = λ start rows a b. with_both_is start rows a b }))) (λ _ e0. absurd cc)))))

-- rows that aren't too many are meant
pub few_rows : (room : ℕ) (rows all : Rows) (c : affine_tree.Comparison) (o : Option Rows) → nat_le (length rows + mean.row_count c) room ≡ true → o ≡ Some all → mean.if_rows room rows c o ≡ Some all
few_rows room rows all c o few e = rw few e

-- a compare that was read is spelled, whatever place its faults have
pub compare_from_sound : (b room start : ℕ) (rows : Rows) (i : Input) → AreLexical (words i)
    → Reads (compare_rule.compare_from b room start rows i) (λ q. (c : affine_tree.Compare) × Took i (compare_words c) q.1 × (compare_means b room rows c (bare i) ≡ Some (q.0.rows, bare q.1)))
unfolding compare_rule.compare_from compare_means next
compare_from_sound b room start rows i g =
    reads_then (affine b None i) _ (affine_sound b None i g) (λ p a.
    taken room start (length rows) p.0 p.1 _ (compare_rule.comparison p.1) (λ other seen few.
    let c = comparison_sound p.1 other a.1.lexical seen in
    reads_then (affine b None (next p.1)) _ (affine_sound b None (next p.1) c.1.lexical) (λ r y.
    reads_given (compare_rule.with_compare start rows other p.0.numbers r.0.numbers) _ r.1 (λ all e.
    let few_are : nat_le (length rows + mean.row_count c.0) room ≡ true = ap (λ (n : ℕ). nat_le (length rows + n) room) (sym c.2.count) ∙ few in
    let meant = or_large_ok start _ all (sym (c.2.rows start rows p.0.numbers r.0.numbers) ∙ e) in
    gives (record { left = a.0; comparison = c.0; right = y.0 }, took_then a.1 (took_then c.1 y.1), means_then _ _ a.2 (means_then _ _ y.2 (ap (λ (o : Option Rows). mean.given o (bare r.1)) (few_rows room rows all c.0 _ few_are meant))))))))

-- compares that were read are spelled
pub compares_sound : (b room n : ℕ) (rows : Rows) (i : Input) → AreLexical (words i)
    → Reads (compare_rule.compares b room n rows i) (λ q. (cs : affine_tree.Compares) × Took i (compares_words cs) q.1 × (compares_mean b room rows cs (bare i) ≡ Some (q.0.rows, bare q.1)))
unfolding compare_rule.compares compare_rule.compare compares_mean next spelled_kind
compares_sound b room zero rows i g = fails
compares_sound b room (suc n) rows i g = reads_then (compare_rule.compare_from b room (place i) rows i) _ (compare_from_sound b room (place i) rows i g) (λ p c. reads_if (sees (codes "&&") p.1)
    (λ is.
    let t = took_symbol (codes "&&") refl p.1 c.1.lexical is in
    reads_map (compares_sound b room n p.0.rows (next p.1) t.lexical) (λ q r. (affine_tree.compare c.0 r.0, took_then c.1 (took_then t r.1), means_then _ _ c.2 r.2)))
    (λ _. gives (affine_tree.last_compare c.0, c.1, c.2)))

-- ---- references

-- what the reader saw of an array, as it is meant
abbrev pub as_seen : domain (refs.access_by 0 0) → Seen
as_seen a = record { array = a.array; subscripts = a.subscripts }

-- an array's name that was read means one
array_by_sound : (i : Input) (k : Option Kind) → AreLexical (words i) → is_name_kind (kind i) ≡ true
    → Reads (refs.array_by k i) (λ q. Took i (a_name (spelling i) ∷ []) q.1 × (mean.array_by (spelling i) k (bare i) ≡ Some (as_seen q.0, bare q.1)))
unfolding refs.new_array with_name next
array_by_sound i None g is = gives_if _ _ _ (λ few. (took_as _ refl (took_name i g is), rw few refl))
array_by_sound i (Some (Array number count)) g is = gives (took_name i g is, refl)
array_by_sound i (Some _) g is = fails

-- a subscript behind its `[`
SubscriptSound : ℕ → Input → List ℤ × Input → Type 0
SubscriptSound b i q = (a : affine_tree.Affine) × (f : Form) × (j : Input) × Took (next i) (affine_words a) j × Took j (a_symbol (codes "]") ∷ []) q.1
    × (affine_means b a (bare i) ≡ Some (f, bare q.1)) × (f.numbers ≡ q.0)

-- a subscript that was read is spelled
subscript_sound : (b : ℕ) (i : Input) → AreLexical (words (next i)) → Reads (refs.subscript b i) (SubscriptSound b i)
unfolding refs.subscript SubscriptSound next spelled_kind
subscript_sound b i g =
    reads_then (affine b None (next i)) _ (affine_sound b None (next i) g) (λ p a.
    reads_then (closed_by (codes "]") p.0 p.1) _ (closed_by_sound (codes "]") p.0 p.1 refl a.1.lexical) (λ r c.
    gives (a.0, form_of p.0, p.1, a.1, c.0, a.2 ∙ ap (λ (s : Names). Some (form_of p.0, s)) (sym c.2), ap (λ (f : Form). f.numbers) (sym c.1))))

-- subscripts that were read are spelled
subscripts_sound : (b n : ℕ) (rows : Rows) (i : Input) → AreLexical (words i) → Reads (refs.subscripts b n rows i) (Spells subscripts_words (subscripts_means b rows) i)
unfolding refs.subscripts SubscriptSound subscripts_means spelled_kind
subscripts_sound b zero rows i g = fails
subscripts_sound zero (suc n) rows i g = bool_cases (sees (codes "[") i) (λ is. rw is fails) (λ other. rw other (gives (affine_tree.subscript_end, took_none g, refl)))
subscripts_sound (suc b) (suc n) rows i g =
    bool_cases (sees (codes "[") i) (λ is. rw (is, suc_not_zero b, one_less b) (
    let t = took_symbol (codes "[") refl i g is in
    bool_cases (nat_le refs.most_subscripts (length rows)) (λ full. rw full fails) (λ free. rw free (
    reads_then (refs.subscript b i) _ (subscript_sound b i t.lexical) (λ p a.
    reads_map (subscripts_sound (suc b) n (rows ++ p.0 ∷ []) p.1 a.4.lexical) (λ q r. (
      affine_tree.subscript a.0 r.0,
      took_then t (took_then a.3 (took_then a.4 r.1)),
      rw free (means_then _ _ a.5 (ap (λ (row : List ℤ). subscripts_means (suc b) (rows ++ row ∷ []) r.0 (bare p.1)) a.6 ∙ r.2)),
    )))))))
    (λ other. rw other (gives (affine_tree.subscript_end, took_none g, refl)))

-- what a reference's subscripts decide
access_by_sound : (there at number : ℕ) (rows : Rows) (i : Input) (o : Option ℕ)
    → Reads (elim o as (λ _. Outcome Access) [
      | None ↦ Ok (record { array = number; subscripts = rows }, with_kind at (Array number (length rows)) i)
      | Some count ↦ if length rows == count then Ok (record { array = number; subscripts = rows }, i) else fault_at 8 there i
    ]) (λ q. (words q.1 ≡ words i) × (mean.access_by at rows number o (bare i) ≡ Some (q.0, bare q.1)))
unfolding with_kind
access_by_sound there at number rows i None = gives (refl, refl)
access_by_sound there at number rows i (Some count) = gives_if _ _ _ (λ same. (refl, rw same refl))

-- the reference whose name stands there was taken, which means this
abbrev pub ReferredAs : {A : Type 0} → Input → (affine_tree.Reference → mean.Meaning A) → A × Input → Type 0
ReferredAs i m q = (r : affine_tree.Reference) × Took i (reference_words r) q.1 × (m r (bare i) ≡ Some (q.0, bare q.1)) × (r.name ≡ spelling i)

-- a reference that was read is spelled
pub access_sound : (b : ℕ) (i : Input) → AreLexical (words i) → is_name_kind (kind i) ≡ true → Reads (refs.access b i) (ReferredAs i (reference_means b))
unfolding refs.access refs.access_from refs.access_by refs.all_subscripts reference_means access_from refs.array mean.array kind_of
access_sound b i g is =
    reads_then (refs.array_by (kind_of (spelling i) i) i) _ (array_by_sound i (kind_of (spelling i) i) g is) (λ p a.
    reads_then (refs.subscripts b (left p.1) [] p.1) _ (subscripts_sound b (left p.1) [] p.1 a.0.lexical) (λ r ss.
    reads_map (access_by_sound (place i) (length i.names) p.0.array r.0 r.1 p.0.subscripts) (λ q f.
    (record { name = spelling i; subscripts = ss.0 }, took_then a.0 (took_as q.1 f.0 ss.1), means_then _ _ a.1 (means_then _ _ ss.2 f.1), refl))))

-- ---- steps

-- a word was taken
abbrev pub WordSound : TokenKind → List ℕ → Input → Unit {0} × Input → Type 0
WordSound k word i q = Took i (record { kind = k; bytes = word } ∷ []) q.1 × (bare q.1 ≡ bare i)

-- a word that had to follow is spelled
pub word_sound : (k : TokenKind) → is_plain k ≡ true → (word : List ℕ) → spelled_kind word ≡ class k → (i : Input) → AreLexical (words i) → Reads (expect word i) (WordSound k word i)
unfolding expect next
word_sound k plain word is i g = gives_if _ _ _ (λ seen. (took_word word k plain is i g seen, refl))

-- a bracket that was opened could be
pub open_bracket_sound : (b : ℕ) (i : Input) → Reads (open_bracket b i) (λ q. (d : ℕ) × (b ≡ suc d) × (q.1 ≡ next i))
unfolding open_bracket
open_bracket_sound zero i = fails
open_bracket_sound (suc d) i = rw (suc_not_zero d) (gives (d, refl, refl))

-- ---- names

-- a reference that was read is spelled
one_read_sound : (b : ℕ) (reads : Accesses) (i : Input) → AreLexical (words i) → is_name_kind (kind i) ≡ true → Reads (rule.one_read b reads i) (ReferredAs i (mean.with_read b reads))
unfolding rule.one_read mean.with_read
one_read_sound b reads i g is =
    bool_cases (nat_le most_reads (length reads)) (λ full. rw full fails) (λ free. rw free (
    reads_then (access b i) _ (access_sound b i g is) (λ p a. gives (a.0, a.1, rw free (means_then _ _ a.2 refl), a.3))))

-- a plain number that was read is a reference without subscripts
plain_sound : (b : ℕ) (reads : Accesses) (k : Option Kind) (i : Input) → ((r : Reference) → named_means b reads r k ≡ mean.plain_means reads r.subscripts)
    → AreLexical (words i) → is_name_kind (kind i) ≡ true → Reads (rule.plain reads i) (ReferredAs i (λ r. named_means b reads r k))
unfolding rule.plain next
plain_sound b reads k i plain g is =
    let r : Reference = record { name = spelling i; subscripts = subscript_end } in
    reads_if (sees (codes "[") (next i)) (λ _. fails) (λ _. gives (r, took_name i g is, ap (λ (m : mean.Meaning Accesses). m (bare i)) (plain r), refl))

-- a name that isn't called is a reference, by its kind
name_by_sound : (b : ℕ) (reads : Accesses) (k : Option Kind) (i : Input) → AreLexical (words i) → is_name_kind (kind i) ≡ true → Reads (rule.name_by b reads k i) (ReferredAs i (λ r. named_means b reads r k))
name_by_sound b reads (Some (Parameter k)) i g is = plain_sound b reads (Some (Parameter k)) i (λ r. refl) g is
name_by_sound b reads (Some (OpenLoop depth)) i g is = plain_sound b reads (Some (OpenLoop depth)) i (λ r. refl) g is
name_by_sound b reads (Some ClosedLoop) i g is = fails
name_by_sound b reads _ i g is = one_read_sound b reads i g is

-- a name that isn't called is an operand
name_sound : (b : ℕ) (reads : Accesses) (i : Input) → AreLexical (words i) → is_name_kind (kind i) ≡ true → Reads (rule.name_by b reads (kind_of (spelling i) i) i) (Spells unary_words (unary_means b reads) i)
unfolding unary_means name_means kind_of
name_sound b reads i g is =
    reads_map (name_by_sound b reads (kind_of (spelling i) i) i g is) (λ q n. (tree.reference n.0, n.1, ap (λ (name : List ℕ). named_means b reads n.0 (kind_of name (bare i)) (bare i)) n.3 ∙ n.2))

-- ---- signs

-- it means what the operand does
with_signs-means : (b : ℕ) (reads : Accesses) (bs : List Bool) (u : Unary) (s : Names) → unary_means b reads (with_signs (λ t. tree.negative t) (λ t. tree.positive t) bs u) s ≡ unary_means b reads u s
unfolding unary_means
with_signs-means b reads [] u s = refl
with_signs-means b reads (true ∷ bs) u s = with_signs-means b reads bs u s
with_signs-means b reads (false ∷ bs) u s = with_signs-means b reads bs u s

-- ---- operators

-- an operator that is seen is spelled
operator_sound : {P : Type 0} (i : Input) → AreLexical (words i) → rule.is_operator i ≡ true → ((o : tree.Operator) → Took i (operator_word o ∷ []) (next i) → P) → P
unfolding rule.is_operator spelled_kind
operator_sound i g is k =
    bool_cases (sees (codes "+") i) (λ seen. k tree.adds (took_symbol (codes "+") refl i g seen)) (λ no1. let e1 = rw no1 at is in
    bool_cases (sees (codes "-") i) (λ seen. k tree.subtracts (took_symbol (codes "-") refl i g seen)) (λ no2. let e2 = rw no2 at e1 in
    bool_cases (sees (codes "*") i) (λ seen. k tree.multiplies (took_symbol (codes "*") refl i g seen)) (λ no3. let e3 = rw no3 at e2 in
    bool_cases (sees (codes "/") i) (λ seen. k tree.divides (took_symbol (codes "/") refl i g seen)) (λ no4. let e4 = rw no4 at e3 in
    k tree.takes_rest (took_symbol (codes "%") refl i g e4)))))

-- ---- brackets

-- a call without arguments means nothing more
call_of_none_is : (b d : ℕ) (reads : Accesses) (name : List ℕ) (s : Names) → b ≡ suc d → is_short name ≡ true → unary_means b reads (tree.call_of_none name) s ≡ Some (reads, s)
unfolding unary_means
call_of_none_is b d reads name s is short = rw (is, short) refl

-- a call means its arguments
call_is : (b d : ℕ) (reads : Accesses) (name : List ℕ) (vs : tree.Arguments) (s : Names) (o : Option (Accesses × Names)) → b ≡ suc d → is_short name ≡ true
    → arguments_means d reads vs s ≡ o → unary_means b reads (tree.call name vs) s ≡ o
unfolding unary_means
call_is b d reads name vs s o is short e = rw (is, short) e

-- a value in brackets means the value
group_is : (b d : ℕ) (reads : Accesses) (v : tree.Value) (s : Names) (o : Option (Accesses × Names)) → b ≡ suc d → value_means d reads v s ≡ o → unary_means b reads (tree.in_brackets v) s ≡ o
unfolding unary_means
group_is b d reads v s o is e = rw is e

-- ---- over what brackets hold

module _ (b : ℕ) (inside : Accesses → Rule Accesses)
    (inner : (d : ℕ) → b ≡ suc d → (reads : Accesses) (i : Input) → AreLexical (words i) → Reads (inside reads i) (Spells value_words (value_means d reads) i)) where
  -- arguments that were read are spelled
  arguments_sound : (d : ℕ) → b ≡ suc d → (n : ℕ) (reads : Accesses) (i : Input) → AreLexical (words i) → Reads (rule.arguments inside n reads i) (SpellsUpTo (a_symbol (codes ")")) arguments_words (arguments_means d reads) i)
  unfolding rule.arguments arguments_means next spelled_kind
  arguments_sound d is zero reads i g = fails
  arguments_sound d is (suc n) reads i g =
      reads_then (inside reads i) _ (inner d is reads i g) (λ p v.
      reads_if (sees (codes ",") p.1)
      (λ seen.
      let t = took_symbol (codes ",") refl p.1 v.1.lexical seen in
      reads_map (arguments_sound d is n p.0 (next p.1) t.lexical) (λ q r. (tree.argument v.0 r.0, r.1, took_then v.1 (took_then t r.2), r.3, means_then _ _ v.2 r.4)))
      (λ _. reads_then (expect (codes ")") p.1) _ (word_sound token.Symbol refl (codes ")") refl p.1 v.1.lexical) (λ r c.
      gives (tree.last_argument v.0, p.1, v.1, c.0, v.2 ∙ ap (λ (s : Names). Some (p.0, s)) (sym c.1)))))

  -- a call that was read is an operand
  call_sound : (reads : Accesses) (i : Input) → AreLexical (words i) → is_name_kind (kind i) ≡ true → sees (codes "(") (next i) ≡ true → Reads (rule.call inside b reads i) (Spells unary_words (unary_means b reads) i)
  unfolding rule.call rule.called rule.all_arguments unary_means next spelled_kind
  call_sound reads i g is seen = reads_if (is_short (spelling i)) (λ short.
      reads_then (open_bracket b (next i)) _ (open_bracket_sound b (next i)) (λ p o. rw o.2 (
      let n = took_name i g is in
      let t = took_symbol (codes "(") refl (next i) n.lexical seen in
      reads_if (sees (codes ")") (next (next i)))
      (λ closed. gives (tree.call_of_none (spelling i), took_then n (took_then t (took_symbol (codes ")") refl (next (next i)) t.lexical closed)), call_of_none_is b o.0 reads (spelling i) (bare i) o.1 short))
      (λ _. reads_map (arguments_sound o.0 o.1 (left (next (next i))) reads (next (next i)) t.lexical) (λ q r.
      (tree.call (spelling i) r.0, took_then n (took_then t (took_then r.2 r.3)), call_is b o.0 reads (spelling i) r.0 (bare i) _ o.1 short r.4))))))
      (λ _. fails)

  -- a value in brackets that was read is an operand
  grouped_sound : (reads : Accesses) (i : Input) → AreLexical (words i) → sees (codes "(") i ≡ true → Reads (rule.grouped inside b reads i) (Spells unary_words (unary_means b reads) i)
  unfolding rule.grouped unary_means next spelled_kind
  grouped_sound reads i g seen = reads_then (open_bracket b i) _ (open_bracket_sound b i) (λ p o. rw o.2 (
      let t = took_symbol (codes "(") refl i g seen in
      reads_then (inside reads (next i)) _ (inner o.0 o.1 reads (next i) t.lexical) (λ r v.
      reads_then (expect (codes ")") r.1) _ (word_sound token.Symbol refl (codes ")") refl r.1 v.1.lexical) (λ c x.
      gives (tree.in_brackets v.0, took_then t (took_then v.1 x.0), group_is b o.0 reads v.0 (bare i) _ o.1 (v.2 ∙ ap (λ (s : Names). Some (r.0, s)) (sym x.1)))))))

  -- what stands behind the signs is an operand
  primary_sound : (reads : Accesses) (i : Input) → AreLexical (words i) → Reads (rule.primary inside b reads i) (Spells unary_words (unary_means b reads) i)
  unfolding rule.primary rule.named unary_means next
  primary_sound reads i g = reads_if (is_number_kind (kind i)) (λ is. gives (tree.number (spelling i), took_number i g is, refl)) (λ _.
      reads_if (is_name_kind (kind i)) (λ is. reads_if (sees (codes "(") (next i)) (λ seen. call_sound reads i g is seen) (λ _. name_sound b reads i g is)) (λ _.
      reads_if (sees (codes "(") i) (λ seen. grouped_sound reads i g seen) (λ _. fails)))

  -- an operand that was read is spelled
  unary_sound : (reads : Accesses) (i : Input) → AreLexical (words i) → Reads (rule.unary inside b reads i) (Spells unary_words (unary_means b reads) i)
  unfolding rule.unary
  unary_sound reads i g = reads_then (all_signs i) _ (all_signs_sound i g) (λ p s.
      reads_map (primary_sound reads p.1 s.1.lexical) (λ q u. (
        with_signs (λ t. tree.negative t) (λ t. tree.positive t) s.0 u.0,
        subst (λ (ws : List Word). Took i ws q.1) (sym (with_signs-words (λ t. tree.negative t) (λ t. tree.positive t) unary_words (λ t. refl) (λ t. refl) s.0 u.0)) (took_then s.1 u.1),
        with_signs-means b reads s.0 u.0 (bare i) ∙ ap (unary_means b reads u.0) (sym s.2) ∙ u.2,
      )))

  -- operands that were read are spelled
  operands_sound : (n : ℕ) (reads : Accesses) (i : Input) → AreLexical (words i) → Reads (rule.operands inside b n reads i) (Spells operands_words (operands_means b reads) i)
  unfolding rule.operands operands_means next
  operands_sound zero reads i g = fails
  operands_sound (suc n) reads i g = bool_cases (rule.is_operator i)
      (λ is. rw is (operator_sound i g is (λ o t.
      reads_then (rule.unary inside b reads (next i)) _ (unary_sound reads (next i) t.lexical) (λ p u.
      reads_map (operands_sound n p.0 p.1 u.1.lexical) (λ q r. (tree.operand o u.0 r.0, took_then t (took_then u.1 r.1), means_then _ _ u.2 r.2))))))
      (λ no. rw no (gives (tree.operand_end, took_none g, refl)))

  -- a value that was read is spelled
  value_by_sound : (reads : Accesses) (i : Input) → AreLexical (words i) → Reads (rule.value_by inside b reads i) (Spells value_words (value_means b reads) i)
  unfolding rule.value_by value_means
  value_by_sound reads i g = reads_then (rule.unary inside b reads i) _ (unary_sound reads i g) (λ p u.
      reads_map (operands_sound (left p.1) p.0 p.1 u.1.lexical) (λ q r. (tree.value u.0 r.0, took_then u.1 r.1, means_then _ _ u.2 r.2)))

-- a value in brackets that was read is spelled
inside_sound : (b d : ℕ) → b ≡ suc d → (reads : Accesses) (i : Input) → AreLexical (words i) → Reads (rule.inside b reads i) (Spells value_words (value_means d reads) i)
unfolding rule.inside
inside_sound zero d is reads i g = fails
inside_sound (suc b) d is reads i g =
    let same : b ≡ d = omega arith in
    subst (λ (n : ℕ). Reads (rule.value_by (rule.inside b) b reads i) (Spells value_words (value_means n reads) i)) same (value_by_sound b (rule.inside b) (inside_sound b) reads i g)

-- a value, where so many brackets may still be opened
pub value_sound : (b : ℕ) (reads : Accesses) (i : Input) → AreLexical (words i) → Reads (rule.value b reads i) (Spells value_words (value_means b reads) i)
unfolding rule.value
value_sound b reads i g = value_by_sound b (rule.inside b) (inside_sound b) reads i g
