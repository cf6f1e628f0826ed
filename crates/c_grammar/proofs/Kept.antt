-- What the names and items so far keep, and what a meaning adds to them.
use Rattle.std.proofs.Common.{◌≡◌, refl, sym, ◌∙◌, ap, subst, ℕ, zero, suc, ◌+◌, ◌≤◌, List, [], ◌∷◌, ◌++◌, length, arith, append_assoc, append-nil, Bool, true, false, ⊎_elim, inl, inr, length-append, length-set, leb-true, ◌<◌}
use Rattle.std.specs.Prelude.{⊤, ◌⊎◌, ℤ, bytes_eq, slice_get, slice_set, option_and_then, Option, Some, None, if◌then◌else◌, nat_le, flat_map}
use Rattle.std.specs.List.{AllByRecursion, range_with_len}
use Rattle.std.proofs.lemmas.Grind.{flat_map-append}
use Rattle.std.proofs.lemmas.Bool.{and_parts}
use Rattle.base_laws.proofs.Lists.{All-append, All-weaken, All-left, All-right}
use Rattle.iolb_model.specs.declared.limits.TheConstants.{PARAMETERS, STATEMENTS, ARRAYS, NAME_BYTES, LOOPS, GUARDS, READS}
use Rattle.c_tokens.specs.declared.token.TokenKind.TheVariants as token
use Rattle.c_reading.specs.declared.named.Kind.{Kind}
use Rattle.c_reading.specs.declared.named.Kind.TheVariants.{OpenLoop}
use Rattle.c_reading.specs.Affine.{kind_of, number_of, is_short}
use Rattle.c_reading.specs.Access.{Access, Statement}
use Rattle.c_grammar.specs.Words.{Word}
use Rattle.c_tokens.specs.Names.{IsWord, IsName}
use Rattle.affine_program.specs.Printable.{IsOrdered, next_seen}
use Rattle.c_grammar.specs.Well.{AreDistinct, item_numbers, items_numbers, IsLoopAt, IsNested, AreNested, item_count, statement_count}
use Rattle.c_grammar.specs.Meaning.{Names, Meaning, then_in, given}
use Rattle.c_grammar.proofs.Forms.{IsWhereSome, IsRow, more_row}
use Rattle.c_grammar.proofs.NameKinds.{KindFits, parameter_count, ranks, AreNumbered, more_fits, rank_of, parameter_of, array_number, flat_map-set, All-get, get-append, lookup, kind_of-lookup, bytes_same, cond_none}
use Rattle.c_reading.specs.declared.tree.Header.{Header}
use Rattle.c_reading.specs.Tree.{Item, assign, loop, guard, Items, done, next, with_item}
use Rattle.c_grammar.proofs.Steps.{if_holds}

-- ---- words that are names

-- a word that is a name is spelled as one
abbrev pub IsNamed : Word → Type 0
IsNamed w = w.kind ≡ token.Name → IsWord w.bytes

-- the names among words are spelled so
abbrev pub AreNamed : List Word → Type 0
AreNamed ws = AllByRecursion IsNamed ws

-- the names among the first of both lists, and among the second
pub first_named : (xs ys : List Word) → AreNamed (xs ++ ys) → AreNamed xs
first_named xs ys h = All-left IsNamed xs ys h

pub second_named : (xs ys : List Word) → AreNamed (xs ++ ys) → AreNamed ys
second_named xs ys h = All-right IsNamed xs ys h

-- a short word is a name
pub short_word : (name : List ℕ) → IsWord name → is_short name ≡ true → IsName name
short_word name w short = record { begins = w.begins; bytes = w.name; few = leb-true (length name) NAME_BYTES (and_parts (nat_le 1 (length name)) (nat_le (length name) NAME_BYTES) short).1; no_word = w.no_word }

-- ---- states

-- the names inside so many loops
pub record State (depth : ℕ) (i : Names) : Type 0 where
  pub kinds : length i.kinds ≡ length i.names
  pub fit : AllByRecursion (KindFits i.parameters depth) i.kinds
  pub parameters : parameter_count i.kinds ≡ i.parameters
  pub few_parameters : i.parameters ≤ PARAMETERS
  pub numbered : AreNumbered i.arrays i.kinds
  pub few_arrays : i.arrays ≤ ARRAYS
  pub few_statements : i.statements ≤ STATEMENTS
  pub names : AllByRecursion IsName i.names
  pub distinct : AreDistinct i.names

-- the state with another kind of one name, which counts as much
pub set_state : {depth deeper : ℕ} (i : Names) (at : ℕ) (old k : Kind) → State depth i → slice_get i.kinds at ≡ Some old → parameter_of k ≡ parameter_of old → array_number k ≡ array_number old
    → AllByRecursion (KindFits i.parameters deeper) (slice_set i.kinds at k) → State deeper (record i { kinds = slice_set i.kinds at k })
set_state i at old k s there parameters numbers fit = record {
  kinds = length-set i.kinds at k ∙ s.kinds;
  fit = fit;
  parameters = ap length (flat_map-set parameter_of i.kinds at old k there parameters) ∙ s.parameters;
  few_parameters = s.few_parameters;
  numbered = flat_map-set array_number i.kinds at old k there numbers ∙ s.numbered;
  few_arrays = s.few_arrays;
  few_statements = s.few_statements;
  names = s.names;
  distinct = s.distinct;
}

-- names are added, and none of them is that of a loop that is open
pub record Grown (i j : Names) : Type 0 where
  pub more : List Kind
  pub kinds : j.kinds ≡ i.kinds ++ more
  pub settled : AllByRecursion (KindFits j.parameters 0) more
  pub parameters : i.parameters ≤ j.parameters
  pub names : length i.names ≤ length j.names

-- the same, and no item is added, where references to arrays of these numbers stand
pub record Kept (i : Names) (numbers : List ℕ) (j : Names) : Type 0 where
  pub grown : Grown i j
  pub order : IsOrdered i.arrays numbers j.arrays
  pub statements : j.statements ≡ i.statements

-- names with the same kinds
pub grown-same : (i j : Names) → j.kinds ≡ i.kinds → j.parameters ≡ i.parameters → j.names ≡ i.names → Grown i j
grown-same i j kinds parameters names = record {
  more = [];
  kinds = kinds ∙ sym (append-nil i.kinds);
  settled = tt;
  parameters = omega (arith, parameters);
  names = omega (arith, ap (λ (l : List (List ℕ)). length l) names);
}

-- names are added, and then others
pub grown-trans : {i j k : Names} → Grown i j → Grown j k → Grown i k
grown-trans {i} {j} {k} g h = record {
  more = g.more ++ h.more;
  kinds = h.kinds ∙ ap (λ (l : List Kind). l ++ h.more) g.kinds ∙ append_assoc i.kinds g.more h.more;
  settled =
      All-append (KindFits k.parameters 0) g.more h.more
      (All-weaken (KindFits j.parameters 0) (KindFits k.parameters 0) g.more
      (more_fits j.parameters 0 k.parameters 0 h.parameters (omega arith)) g.settled) h.settled;
  parameters = omega arith;
  names = omega arith;
}

-- references behind references
pub ordered_both : (seen middle last : ℕ) (xs ys : List ℕ) → IsOrdered seen xs middle → IsOrdered middle ys last → IsOrdered seen (xs ++ ys) last
ordered_both seen middle last [] ys h g = subst (λ n. IsOrdered n ys last) (sym h) g
ordered_both seen middle last (x ∷ xs) ys h g = (h.0, ordered_both (next_seen seen x) middle last xs ys h.1 g)

-- one step behind another
pub kept-trans : {i j k : Names} {xs ys : List ℕ} → Kept i xs j → Kept j ys k → Kept i (xs ++ ys) k
kept-trans {i} {j} {k} {xs} {ys} g h = record { grown = grown-trans g.grown h.grown; order = ordered_both i.arrays j.arrays k.arrays xs ys g.order h.order; statements = h.statements ∙ g.statements }

-- names and themselves
pub kept_self : (i : Names) → Kept i [] i
kept_self i = record { grown = grown-same i i refl refl refl; order = refl; statements = refl }

-- ---- what was meant stays right where names are added

-- a row stays one
pub row-grown : {depth : ℕ} {i j : Names} {row : List ℤ} → Grown i j → IsRow i.parameters depth row → IsRow j.parameters depth row
row-grown g h = more_row g.parameters (omega arith) h

-- rows stay rows
pub rows-grown : (depth : ℕ) {i j : Names} (rows : List (List ℤ)) → Grown i j → AllByRecursion (IsRow i.parameters depth) rows → AllByRecursion (IsRow j.parameters depth) rows
rows-grown depth {i} {j} rows g h = All-weaken (IsRow i.parameters depth) (IsRow j.parameters depth) rows (λ row r. row-grown g r) h

-- a reference to an array that is there
pub record AccessIn (depth : ℕ) (i : Names) (access : Access) : Type 0 where
  pub rank : slice_get (ranks i.kinds) access.array ≡ Some (length access.subscripts)
  pub rows : AllByRecursion (IsRow i.parameters depth) access.subscripts

-- an array keeps its number of subscripts
pub rank-grown : {i j : Names} (n s : ℕ) → Grown i j → slice_get (ranks i.kinds) n ≡ Some s → slice_get (ranks j.kinds) n ≡ Some s
rank-grown {i} {j} n s g e =
    subst (λ (l : List Kind). slice_get (ranks l) n ≡ Some s) (sym g.kinds)
    (subst (λ (l : List ℕ). slice_get l n ≡ Some s) (sym (flat_map-append rank_of i.kinds g.more)) (get-append (ranks i.kinds) (ranks g.more) n s e))

-- there is at least what there was
pub record Wider (i j : Names) : Type 0 where
  pub parameters : i.parameters ≤ j.parameters
  pub names : length i.names ≤ length j.names
  pub ranks : (n s : ℕ) → slice_get (ranks i.kinds) n ≡ Some s → slice_get (ranks j.kinds) n ≡ Some s

-- names that are added take nothing away
pub wider : {i j : Names} → Grown i j → Wider i j
wider g = record { parameters = g.parameters; names = g.names; ranks = λ n s e. rank-grown n s g e }

-- a reference fits where there is more
pub access-wider : {depth : ℕ} {i j : Names} {access : Access} → Wider i j → AccessIn depth i access → AccessIn depth j access
access-wider {depth} {i} {j} {access} w h = record {
  rank = w.ranks access.array (length access.subscripts) h.rank;
  rows = All-weaken (IsRow i.parameters depth) (IsRow j.parameters depth) access.subscripts (λ row r. more_row w.parameters (omega arith) r) h.rows;
}

-- references fit where names are added
pub accesses-grown : (depth : ℕ) {i j : Names} (accesses : List Access) → Grown i j → AllByRecursion (AccessIn depth i) accesses → AllByRecursion (AccessIn depth j) accesses
accesses-grown depth {i} {j} accesses g h = All-weaken (AccessIn depth i) (AccessIn depth j) accesses (λ a r. access-wider (wider g) r) h

-- ---- names that were seen

-- a name of some kind has that kind at its number
pub kind_found : (name : List ℕ) (i : Names) (k : Kind) → kind_of name i ≡ Some k → (at : ℕ) × (number_of name i ≡ Some at) × (slice_get i.kinds at ≡ Some k)
unfolding kind_of
kind_found name i k e = found (number_of name i) refl e where
  found : (o : Option ℕ) → number_of name i ≡ o → option_and_then (λ at. slice_get i.kinds at) o ≡ Some k
      → (at : ℕ) × (number_of name i ≡ Some at) × (slice_get i.kinds at ≡ Some k)
  found None h g = cc
  found (Some at) h g = (at, h, g)

-- a name of some kind fits the state
pub kind_fits : {depth : ℕ} (name : List ℕ) (i : Names) (k : Kind) → State depth i → kind_of name i ≡ Some k → KindFits i.parameters depth k
kind_fits {depth} name i k s e = (let found = kind_found name i k e in All-get (KindFits i.parameters depth) i.kinds found.0 k s.fit found.2)

-- ---- one name more

-- a name without a kind stands nowhere
not_there : (name : List ℕ) (names : List (List ℕ)) (kinds : List Kind) (at : ℕ) → length kinds ≡ length names → lookup name names kinds ≡ None → slice_get names at ≡ Some name → ⊥
not_there name [] kinds at same none e = cc
not_there name (n ∷ names) [] at same none e = absurd (omega arith)
not_there name (n ∷ names) (k ∷ kinds) zero same none e =
    let here : n ≡ name = cc in
    let yes : bytes_eq name n ≡ true = ap (bytes_eq name) here ∙ bytes_same name in
    let found : ◌≡◌ {A = Option Kind} (Some k) None = rw yes at none in cc
not_there name (n ∷ names) (k ∷ kinds) (suc at) same none e = not_there name names kinds at (omega arith) (cond_none (bytes_eq name n) k (lookup name names kinds) none).1 e

-- what stands in a list that one more ends
pub at_end : (names : List (List ℕ)) (name other : List ℕ) (k : ℕ) → slice_get (names ++ name ∷ []) k ≡ Some other → (slice_get names k ≡ Some other) ⊎ ((k ≡ length names) × (other ≡ name))
at_end [] name m zero e = inr (refl, (let same : name ≡ m = cc in sym same))
at_end [] name m (suc k) e = cc
at_end (n ∷ names) name m zero e = inl e
at_end (n ∷ names) name m (suc k) e = ⊎_elim (λ l. inl l) (λ r. inr (ap suc r.0, r.1)) (at_end names name m k e)

-- a new name stands once
distinct_more : (name : List ℕ) (names : List (List ℕ)) (kinds : List Kind) → length kinds ≡ length names → lookup name names kinds ≡ None → AreDistinct names → AreDistinct (names ++ name ∷ [])
distinct_more name names kinds same none distinct a b m e f = ⊎_elim
    (λ left. ⊎_elim
    (λ right. distinct a b m left right)
    (λ last. absurd (not_there name names kinds a same none (left ∙ ap Some last.1)))
    (at_end names name m b f))
    (λ last. ⊎_elim
    (λ right. absurd (not_there name names kinds b same none (right ∙ ap Some last.1)))
    (λ other. last.0 ∙ sym other.0)
    (at_end names name m b f))
    (at_end names name m a e)

-- names with one more, of this kind
abbrev pub with_new : List ℕ → Kind → ℕ → ℕ → Names → Names
with_new name k parameters arrays i = record i { names = i.names ++ name ∷ []; kinds = i.kinds ++ k ∷ []; parameters = parameters; arrays = arrays }

-- they keep what the state keeps
pub new_state : {depth : ℕ} (i : Names) (name : List ℕ) (k : Kind) (p a : ℕ) → State depth i → IsName name → kind_of name i ≡ None → KindFits p depth k → i.parameters ≤ p → i.parameters + parameter_count (k ∷ []) ≡ p → p ≤ PARAMETERS
    → range_with_len 0 i.arrays ++ flat_map array_number (k ∷ []) ≡ range_with_len 0 a → a ≤ ARRAYS → State depth (with_new name k p a i)
new_state {depth} i name k p a s is none fits more counts few numbered few_arrays =
    let unknown : lookup name i.names i.kinds ≡ None = sym (kind_of-lookup name i s.kinds) ∙ none in
    record {
      kinds = omega (arith, length-append i.kinds (k ∷ []), length-append i.names (name ∷ []), s.kinds);
      fit = All-append (KindFits p depth) i.kinds (k ∷ []) (All-weaken (KindFits i.parameters depth) (KindFits p depth) i.kinds (more_fits i.parameters depth p depth more (omega arith)) s.fit) (fits, tt);
      parameters = ap length (flat_map-append parameter_of i.kinds (k ∷ [])) ∙ length-append (flat_map parameter_of i.kinds) (flat_map parameter_of (k ∷ [])) ∙ ap (λ (n : ℕ). n + parameter_count (k ∷ [])) s.parameters ∙ counts;
      few_parameters = few;
      numbered = flat_map-append array_number i.kinds (k ∷ []) ∙ ap (λ l. l ++ flat_map array_number (k ∷ [])) s.numbered ∙ numbered;
      few_arrays = few_arrays;
      few_statements = s.few_statements;
      names = All-append IsName i.names (name ∷ []) s.names (is, tt);
      distinct = distinct_more name i.names i.kinds s.kinds unknown s.distinct;
    }

-- they are grown
pub new_grown : (i : Names) (name : List ℕ) (k : Kind) (p a : ℕ) → KindFits p 0 k → i.parameters ≤ p → Grown i (with_new name k p a i)
new_grown i name k p a fits more = record { more = k ∷ []; kinds = refl; settled = (fits, tt); parameters = more; names = omega (arith, length-append i.names (name ∷ [])) }

-- ---- what meanings give

-- this holds of what is meant, where something is
pub record Gives {A : Type 0} (o : Option (A × Names)) (Q : A → Names → Type 0) : Type 0 where
  pub holds : IsWhereSome (λ p. Q p.0 p.1) o

-- nothing is meant
pub nothing : {A : Type 0} {Q : A → Names → Type 0} → Gives None Q
nothing = record { holds = tt }

-- a value
pub ok : {A : Type 0} {p : A × Names} {Q : A → Names → Type 0} → Q p.0 p.1 → Gives (Some p) Q
ok q = record { holds = q }

-- one meaning behind another
pub chained : {A B : Type 0} (o : Option (A × Names)) {f : A → Meaning B} {Q : A → Names → Type 0} {R : B → Names → Type 0} → Gives o Q → ((a : A) (j : Names) → Q a j → Gives (f a j) R) → Gives (then_in o f) R
chained (Some p) g h = h p.0 p.1 g.holds
chained None g h = nothing

-- what follows of what a meaning gives
pub weaken : {A : Type 0} (o : Option (A × Names)) {Q R : A → Names → Type 0} → Gives o Q → ((a : A) (j : Names) → Q a j → R a j) → Gives o R
weaken (Some p) g h = ok (h p.0 p.1 g.holds)
weaken None g h = nothing

-- one of two
pub either : {A : Type 0} (b : Bool) {x y : Option (A × Names)} {Q : A → Names → Type 0} → (b ≡ true → Gives x Q) → (b ≡ false → Gives y Q) → Gives (if b then x else y) Q
either b {Q = Q} f g = if_holds (λ o. Gives o Q) _ _ b f g

-- one of two meanings
pub either_of : {A : Type 0} (b : Bool) (m n : Meaning A) {i : Names} {Q : A → Names → Type 0} → (b ≡ true → Gives (m i) Q) → (b ≡ false → Gives (n i) Q) → Gives ((if b then m else n) i) Q
either_of {A} b m n {i} {Q} f g = if_holds (λ (k : Meaning A). Gives (k i) Q) m n b f g

-- the state afterwards, how it came from the one before, and what holds of the value
pub record After (depth : ℕ) (j : Names) (K V : Type 0) : Type 0 where
  pub state : State depth j
  pub kept : K
  pub value : V

-- a meaning without items and references
abbrev pub Reads : {A : Type 0} → ℕ → Names → Option (A × Names) → (A → Names → Type 0) → Type 0
Reads depth i o Q = Gives o (λ a j. After depth j (Kept i [] j) (Q a j))

-- one behind another
pub bind : {A B : Type 0} {depth : ℕ} {i : Names} (o : Option (A × Names)) {f : A → Meaning B} {Q : A → Names → Type 0} {R : B → Names → Type 0} → Reads depth i o Q
    → ((a : A) (j : Names) → State depth j → Kept i [] j → Q a j → Reads depth j (f a j) R) → Reads depth i (then_in o f) R
bind o {f = f} g h = chained o g
    (λ a j q. weaken (f a j) (h a j q.state q.kept q.value) (λ b k r. record { state = r.state; kept = kept-trans q.kept r.kept; value = r.value }))

-- nothing changes
pub stays : {A : Type 0} {depth : ℕ} {i : Names} {a : A} {Q : A → Names → Type 0} → State depth i → Q a i → Reads depth i (Some (a, i)) Q
stays {i = i} s q = ok (record { state = s; kept = kept_self i; value = q })

-- what was given already
pub gives : {A : Type 0} {depth : ℕ} {i : Names} (o : Option A) {Q : A → Names → Type 0} → State depth i → IsWhereSome (λ a. Q a i) o → Reads depth i (given o i) Q
gives (Some a) s q = stays s q
gives None s q = nothing

-- ---- items

-- a loop's header inside so many others
pub record HeaderFits (depth : ℕ) (i : Names) (h : Header) : Type 0 where
  pub name : h.name < length i.names
  pub few : depth < LOOPS
  pub lower : IsRow i.parameters depth h.lower
  pub upper : IsRow i.parameters depth h.upper

-- a statement inside so many loops
pub record StatementIn (depth : ℕ) (i : Names) (statement : Statement) : Type 0 where
  pub writes : AccessIn depth i statement.writes
  pub few : length statement.reads ≤ READS
  pub reads : AllByRecursion (AccessIn depth i) statement.reads

-- a guard's rows inside so many loops and guards of so many rows
pub record GuardFits (depth guards : ℕ) (i : Names) (asked : List (List ℤ)) : Type 0 where
  pub some : 0 < length asked
  pub few : guards + length asked ≤ GUARDS
  pub rows : AllByRecursion (IsRow i.parameters depth) asked

-- items inside so many loops and guards of so many rows
abbrev mutual
  pub ItemIn : ℕ → ℕ → Names → Item → Type 0
  ItemIn depth guards i (assign statement) = StatementIn depth i statement
  ItemIn depth guards i (loop h body) = HeaderFits depth i h × ItemsIn (suc depth) guards i body
  ItemIn depth guards i (guard rows body) = GuardFits depth guards i rows × ItemsIn depth (guards + length rows) i body

  pub ItemsIn : ℕ → ℕ → Names → Items → Type 0
  ItemsIn depth guards i done = ⊤
  ItemsIn depth guards i (next t items) = ItemIn depth guards i t × ItemsIn depth guards i items

-- items fit where there is more
mutual
  item-wider : (depth guards : ℕ) {i j : Names} (t : Item) → Wider i j → ItemIn depth guards i t → ItemIn depth guards j t
  item-wider depth guards {i} {j} (assign statement) w h =
      record { writes = access-wider w h.writes; few = h.few; reads = All-weaken (AccessIn depth i) (AccessIn depth j) statement.reads (λ a r. access-wider w r) h.reads }
  item-wider depth guards (loop l body) w h =
      (record { name = omega (arith, h.0.name, w.names); few = h.0.few; lower = more_row w.parameters (omega arith) h.0.lower; upper = more_row w.parameters (omega arith) h.0.upper }, items-wider (suc depth) guards body w h.1)
  item-wider depth guards {i} {j} (guard rows body) w h = (
    record { some = h.0.some; few = h.0.few; rows = All-weaken (IsRow i.parameters depth) (IsRow j.parameters depth) rows (λ row r. more_row w.parameters (omega arith) r) h.0.rows },
    items-wider depth (guards + length rows) body w h.1,
  )

  pub items-wider : (depth guards : ℕ) {i j : Names} (items : Items) → Wider i j → ItemsIn depth guards i items → ItemsIn depth guards j items
  items-wider depth guards done w h = tt
  items-wider depth guards (next t items) w h = (item-wider depth guards t w h.0, items-wider depth guards items w h.1)

-- one item more
pub items_more : (depth guards : ℕ) (i : Names) (items : Items) (t : Item) → ItemsIn depth guards i items → ItemIn depth guards i t → ItemsIn depth guards i (with_item items t)
items_more depth guards i done t h g = (g, tt)
items_more depth guards i (next first items) t h g = (h.0, items_more depth guards i items t h.1 g)

-- its statements
pub count_more : (items : Items) (t : Item) → statement_count (with_item items t) ≡ statement_count items + item_count t
count_more done t = omega arith
count_more (next first items) t = omega (arith, count_more items t)

-- its arrays
pub numbers_more : (items : Items) (t : Item) → items_numbers (with_item items t) ≡ items_numbers items ++ item_numbers t
numbers_more done t = append-nil (item_numbers t)
numbers_more (next first items) t = ap (λ ns. item_numbers first ++ ns) (numbers_more items t) ∙ sym (append_assoc (item_numbers first) (items_numbers items) (item_numbers t))

-- its loops
pub nested_more : (kinds : List Kind) (around : List ℕ) (items : Items) (t : Item) → AreNested kinds around items → IsNested kinds around t → AreNested kinds around (with_item items t)
nested_more kinds around done t h g = (g, tt)
nested_more kinds around (next first items) t h g = (h.0, nested_more kinds around items t h.1 g)

-- items' loops stay loops
mutual
  nested-item : (old new : List Kind) → ((at : ℕ) → IsLoopAt old at → IsLoopAt new at) → (around : List ℕ) (t : Item) → IsNested old around t → IsNested new around t
  nested-item old new f around (assign s) h = tt
  nested-item old new f around (loop l body) h = (f l.name h.0, h.1, nested-items old new f (l.name ∷ around) body h.2)
  nested-item old new f around (guard rows body) h = nested-items old new f around body h

  pub nested-items : (old new : List Kind) → ((at : ℕ) → IsLoopAt old at → IsLoopAt new at) → (around : List ℕ) (items : Items) → AreNested old around items → AreNested new around items
  nested-items old new f around done h = tt
  nested-items old new f around (next t items) h = (nested-item old new f around t h.0, nested-items old new f around items h.1)

-- a place of the name of an open loop
abbrev pub IsOpenAt : List Kind → ℕ → Type 0
IsOpenAt kinds at = (depth : ℕ) × (slice_get kinds at ≡ Some (OpenLoop depth))

-- open loops stay open where names are added
pub opens_stay : {i j : Names} → Grown i j → (around : List ℕ) → AllByRecursion (IsOpenAt i.kinds) around → AllByRecursion (IsOpenAt j.kinds) around
opens_stay {i} {j} g around h = All-weaken (IsOpenAt i.kinds) (IsOpenAt j.kinds) around (λ at o. subst (λ ks. IsOpenAt ks at) (sym g.kinds) (o.0, get-append i.kinds g.more at (OpenLoop o.0) o.1)) h
