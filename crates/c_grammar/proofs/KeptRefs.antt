-- Affine expressions mean rows, and references mean arrays that are there, with as many subscripts as these have.
use Rattle.std.proofs.Common.{◌≡◌, refl, ℕ, zero, suc, ◌+◌, ◌<◌, List, [], ◌∷◌, arith, Bool, true, false, lit<, ltb-true, sym, ◌∙◌, ap, ◌≤◌, ◌++◌, length, append_assoc, append-nil, length-append, leb-false, inl, inr}
use Rattle.std.specs.Prelude.{ℤ, pos, negsuc, nat_lt, Option, Some, None, if◌then◌else◌, ◌&&◌, codes, slice_get, slice_set, nat_le, ◌==◌}
use Rattle.std.proofs.lemmas.Bool.{and_parts, eqb-true}
use Rattle.iolb_model.specs.declared.limits.TheConstants.{PARAMETERS, NUMBER_SIZE, ARRAYS, SUBSCRIPTS, READS}
use Rattle.c_reading.specs.declared.named.Kind.{Kind}
use Rattle.c_reading.specs.declared.named.Kind.TheVariants.{Parameter, OpenLoop, ClosedLoop, Array}
use Rattle.c_reading.specs.Numbers.{single, zeros, constant_of, value_from, is_integer}
use Rattle.c_reading.specs.Affine.{kind_of, with_name, is_short, sign_of}
use Rattle.c_grammar.specs.Words.{a_symbol}
use Rattle.c_tokens.specs.Names.{IsWord}
use Rattle.c_grammar.specs.Affine as tree
use Rattle.c_grammar.specs.Affine.{affine_words, sums_words, term_words, products_words, factor_words, subscripts_words, reference_words}
use Rattle.c_grammar.specs.Meaning as mean
use Rattle.c_grammar.specs.Meaning.{Names, Form, form, slot_by, slot, affine_means, sums_means, term_means, products_means, factor_means, Meaning, then_in, subscripts_means, array_by, access_by, access_from, reference_means, with_read, plain_means, named_means, name_means, value_means, operands_means, unary_means, arguments_means}
use Rattle.c_grammar.proofs.Forms.{IsWhereSome, IsAbsent, IsRow, combined_row, zeros_row, single_row, first_there, parameter_there}
use Rattle.c_grammar.proofs.Kept.{AreNamed, first_named, second_named, short_word, State, set_state, row-grown, kind_fits, new_state, new_grown, nothing, ok, either, Reads, bind, stays, gives, Kept, kept-trans, kept_self, rows-grown, rank-grown, AccessIn, accesses-grown, kind_found, with_new, Gives, chained, weaken, either_of}
use Rattle.std.specs.List.{AllByRecursion, range_with_len}
use Rattle.std.proofs.lemmas.Bool.Decides.{nat_tests}
use Rattle.std.proofs.lemmas.Option.{slice_get_within}
use Rattle.std.proofs.Math.Seq.{set-append_seam}
use Rattle.base_laws.proofs.Lists.{All-append}
use Rattle.c_grammar.proofs.Lists.{range_more}
use Rattle.c_reading.specs.Access.{Access}
use Rattle.c_reading.specs.Refs.{with_kind, most_arrays, most_subscripts}
use Rattle.c_reading.specs.Values.{Accesses, most_reads}
use Rattle.c_grammar.specs.Well.{numbers_of}
use Rattle.c_grammar.specs.Value as value
use Rattle.c_grammar.specs.Value.{value_words, operands_words, unary_words, arguments_words}
use Rattle.c_grammar.proofs.NameKinds.{KindFits, ranks, ranks-length, rank_at, get-behind, All-set, get-set}
use Rattle.c_grammar.proofs.Steps.{if_holds}

-- ---- names

-- a place that has a variable
abbrev IsThere : ℕ → ℕ → Names → Type 0
IsThere depth at i = IsAbsent i.parameters depth at → ⊥

-- the place of a name of some kind has a variable
slot_by_there : (depth : ℕ) (name : List ℕ) (o : Option Kind) (i : Names) → kind_of name i ≡ o → IsWord name → State depth i → Reads depth i (slot_by name o i) (IsThere depth)
unfolding with_name
slot_by_there depth name None i e w s = either (is_short name && nat_lt i.parameters PARAMETERS)
    (λ h.
    let both = and_parts (is_short name) (nat_lt i.parameters PARAMETERS) h in
    let few : i.parameters < PARAMETERS = ltb-true _ _ both.1 in
    ok (record {
      state = new_state i name (Parameter i.parameters) (i.parameters + 1) i.arrays s (short_word name w both.0) e (omega arith) (omega arith) refl (omega arith) (append-nil (range_with_len 0 i.arrays)) s.few_arrays;
      kept = record { grown = new_grown i name (Parameter i.parameters) (i.parameters + 1) i.arrays (omega arith) (omega arith); order = refl; statements = refl };
      value = parameter_there (i.parameters + 1) depth i.parameters (omega arith) (omega arith);
    }))
    (λ _. nothing)
slot_by_there depth name (Some (Parameter k)) i e w s = stays s (parameter_there i.parameters depth k (kind_fits name i (Parameter k) s e) s.few_parameters)
slot_by_there depth name (Some (OpenLoop d)) i e w s = stays s (λ a. let open_loop : d < depth = kind_fits name i (OpenLoop d) s e in elim a [ inl b ↦ omega arith | inr b ↦ omega arith ])
slot_by_there depth name (Some _) i e w s = nothing

-- the place of a name's coefficient has a variable
pub slot_there : {depth : ℕ} (name : List ℕ) (i : Names) → IsWord name → State depth i → Reads depth i (slot name i) (IsThere depth)
unfolding slot
slot_there {depth} name i w s = slot_by_there depth name (kind_of name i) i refl w s

-- ---- forms

-- an expression's numbers are a row
abbrev pub IsForm : ℕ → Form → Names → Type 0
IsForm depth a i = IsRow i.parameters depth a.numbers

-- numbers that are a row, where they are small
form_row : (parameters depth : ℕ) (has_name : Bool) (o : Option (List ℤ)) → IsWhereSome (IsRow parameters depth) o → IsWhereSome (λ (a : Form). IsRow parameters depth a.numbers) (form has_name o)
form_row parameters depth has_name None h = tt
form_row parameters depth has_name (Some row) h = h

-- a product of rows is a row
times_row : (parameters depth : ℕ) (a b : Form) → IsRow parameters depth a.numbers → IsRow parameters depth b.numbers → IsWhereSome (λ (c : Form). IsRow parameters depth c.numbers) (mean.times a b)
times_row parameters depth a b p q = if_holds (IsWhereSome (λ (c : Form). IsRow parameters depth c.numbers)) None _ (a.has_name && b.has_name) (λ _. tt) (λ _.
    form_row parameters depth _ _ (if_holds (IsWhereSome (IsRow parameters depth)) _ _ b.has_name (λ _. combined_row (constant_of a.numbers) (pos 0) zeros b.numbers (zeros_row parameters depth) q) (λ _. combined_row (constant_of b.numbers) (pos 0) zeros a.numbers (zeros_row parameters depth) p)))

-- a sum of rows is a row
plus_row : (parameters depth : ℕ) (negative : Bool) (a b : Form) → IsRow parameters depth a.numbers → IsRow parameters depth b.numbers → IsWhereSome (λ (c : Form). IsRow parameters depth c.numbers) (mean.plus negative a b)
plus_row parameters depth negative a b p q = form_row parameters depth _ _ (combined_row (sign_of negative) (pos 0) a.numbers b.numbers p q)

-- digits mean a small number
integer_row : (parameters depth : ℕ) (bytes : List ℕ) → IsWhereSome (λ (n : ℤ). IsRow parameters depth (single 0 n)) (mean.integer_means bytes)
unfolding mean.integer_means
integer_row parameters depth bytes = if_holds (IsWhereSome (λ (n : ℤ). IsRow parameters depth (single 0 n))) _ None (is_integer bytes && nat_lt (value_from 0 bytes) NUMBER_SIZE)
    (λ h. single_row parameters depth 0 (pos (value_from 0 bytes)) (ltb-true _ _ (and_parts (is_integer bytes) _ h).1) (first_there parameters depth)) (λ _. tt)

-- ---- expressions

mutual
  unfolding affine_means sums_means term_means products_means factor_means

  pub affine_form : {depth : ℕ} (b : ℕ) (t : tree.Affine) (i : Names) → AreNamed (affine_words t) → State depth i → Reads depth i (affine_means b t i) (IsForm depth)
  affine_form b (tree.sum t ss) i n s = bind (term_means b t i) (term_form b t i (first_named (term_words t) (sums_words ss) n) s) (λ a j u k h. sums_form b a ss j (second_named (term_words t) (sums_words ss) n) u h)

  sums_form : {depth : ℕ} (b : ℕ) (a : Form) (ss : tree.Sums) (i : Names) → AreNamed (sums_words ss) → State depth i → IsForm depth a i → Reads depth i (sums_means b a ss i) (IsForm depth)
  sums_form b a tree.sum_end i n s h = stays s h
  sums_form {depth} b a (tree.plus t ss) i n s h = bind (term_means b t i) (term_form b t i (first_named (term_words t) (sums_words ss) n.1) s) (λ c j u k g.
      bind (mean.given (mean.plus false a c) j) (gives (mean.plus false a c) u (plus_row j.parameters depth false a c (row-grown k.grown h) g)) (λ d l v m f. sums_form b d ss l (second_named (term_words t) (sums_words ss) n.1) v f))
  sums_form {depth} b a (tree.minus t ss) i n s h = bind (term_means b t i) (term_form b t i (first_named (term_words t) (sums_words ss) n.1) s) (λ c j u k g.
      bind (mean.given (mean.plus true a c) j) (gives (mean.plus true a c) u (plus_row j.parameters depth true a c (row-grown k.grown h) g)) (λ d l v m f. sums_form b d ss l (second_named (term_words t) (sums_words ss) n.1) v f))

  term_form : {depth : ℕ} (b : ℕ) (t : tree.Term) (i : Names) → AreNamed (term_words t) → State depth i → Reads depth i (term_means b t i) (IsForm depth)
  term_form b (tree.product f ps) i n s = bind (factor_means b f i) (factor_form b f i (first_named (factor_words f) (products_words ps) n) s) (λ a j u k h. products_form b a ps j (second_named (factor_words f) (products_words ps) n) u h)

  products_form : {depth : ℕ} (b : ℕ) (a : Form) (ps : tree.Products) (i : Names) → AreNamed (products_words ps) → State depth i → IsForm depth a i → Reads depth i (products_means b a ps i) (IsForm depth)
  products_form b a tree.product_end i n s h = stays s h
  products_form {depth} b a (tree.times f ps) i n s h = bind (factor_means b f i) (factor_form b f i (first_named (factor_words f) (products_words ps) n.1) s) (λ c j u k g.
      bind (mean.given (mean.times a c) j) (gives (mean.times a c) u (times_row j.parameters depth a c (row-grown k.grown h) g)) (λ d l v m f2. products_form b d ps l (second_named (factor_words f) (products_words ps) n.1) v f2))

  factor_form : {depth : ℕ} (b : ℕ) (f : tree.Factor) (i : Names) → AreNamed (factor_words f) → State depth i → Reads depth i (factor_means b f i) (IsForm depth)
  factor_form {depth} b (tree.integer bytes) i n s = bind (mean.given (mean.integer_means bytes) i) {Q = λ (m : ℤ) (j : Names). IsRow j.parameters depth (single 0 m)} (gives (mean.integer_means bytes) s (integer_row i.parameters depth bytes)) (λ m j u k h. stays u h)
  factor_form {depth} b (tree.name name) i n s = bind (slot name i) (slot_there name i (n.0 refl) s) (λ at j u k h. stays u (single_row j.parameters depth at (pos 1) (lit< tt) h))
  factor_form zero (tree.in_brackets a) i n s = nothing
  factor_form (suc b) (tree.in_brackets a) i n s = affine_form b a i (first_named (affine_words a) (a_symbol (codes ")") ∷ []) n.1) s
  factor_form {depth} b (tree.negative f) i n s = bind (factor_means b f i) (factor_form b f i n.1 s) (λ a j u k h. gives (mean.negated a) u (form_row j.parameters depth a.has_name _ (combined_row (negsuc 0) (pos 0) zeros a.numbers (zeros_row j.parameters depth) h)))
  factor_form b (tree.positive f) i n s = factor_form b f i n.1 s

-- ---- subscripts

-- rows, not too many
pub record AreSubscripts (depth : ℕ) (i : Names) (rows : List (List ℤ)) : Type 0 where
  pub few : length rows ≤ SUBSCRIPTS
  pub each : AllByRecursion (IsRow i.parameters depth) rows

-- subscripts are rows, not too many with those before
subscripts_are : (depth b : ℕ) (rows : List (List ℤ)) (ss : tree.Subscripts) (i : Names) → AreNamed (subscripts_words ss) → State depth i → AreSubscripts depth i rows → Reads depth i (subscripts_means b rows ss i) (λ all j. AreSubscripts depth j all)
unfolding subscripts_means
subscripts_are depth b rows tree.subscript_end i n s h = stays s h
subscripts_are depth zero rows (tree.subscript a ss) i n s h = nothing
subscripts_are depth (suc b) rows (tree.subscript a ss) i n s h = either_of (nat_le most_subscripts (length rows)) _ _ (λ _. nothing) (λ few.
    let below : length rows < SUBSCRIPTS = leb-false _ _ few in
    let ws = a_symbol (codes "]") ∷ subscripts_words ss in
    bind (affine_means b a i) (affine_form b a i (first_named (affine_words a) ws n.1) s) (λ row j t k g.
    subscripts_are depth (suc b) (rows ++ row.numbers ∷ []) ss j (second_named (affine_words a) ws n.1).1 t (record {
      few = omega (arith, length-append rows (row.numbers ∷ []));
      each = All-append (IsRow j.parameters depth) rows (row.numbers ∷ []) (rows-grown depth rows k.grown h.each) (g, tt);
    })))

-- ---- a new array gets its subscripts

-- what lies between the state before a new array and the one in which it gets its subscripts
record IsBehind (i k : Names) (more : List Kind) : Type 0 where
  pub kinds : k.kinds ≡ (i.kinds ++ Array i.arrays 0 ∷ []) ++ more
  pub settled : AllByRecursion (KindFits k.parameters 0) more
  pub parameters : i.parameters ≤ k.parameters
  pub names : length i.names ≤ length k.names
  pub arrays : k.arrays ≡ i.arrays + 1
  pub statements : k.statements ≡ i.statements

module _ (depth : ℕ) (i k : Names) (more : List Kind) (rank : ℕ) (s : State depth i) (t : State depth k) (b : IsBehind i k more) (few : rank ≤ SUBSCRIPTS) where
  -- the kinds with the new array
  kinds_are : slice_set k.kinds (length i.names) (Array i.arrays rank) ≡ i.kinds ++ Array i.arrays rank ∷ more
  kinds_are =
      ap (λ (n : ℕ). slice_set k.kinds n (Array i.arrays rank)) (sym s.kinds)
      ∙ ap (λ (l : List Kind). slice_set l (length i.kinds) (Array i.arrays rank)) (b.kinds ∙ append_assoc i.kinds (Array i.arrays 0 ∷ []) more)
      ∙ set-append_seam i.kinds (Array i.arrays 0) more (Array i.arrays rank)

  -- the new array is there
  there : slice_get k.kinds (length i.names) ≡ Some (Array i.arrays 0)
  there = ap (slice_get k.kinds) (sym s.kinds) ∙ ap (λ (l : List Kind). slice_get l (length i.kinds)) b.kinds ∙ get-behind i.kinds more (Array i.arrays 0)

  -- the state with the new array
  ranked_state : State depth (with_kind (length i.names) (Array i.arrays rank) k)
  unfolding with_kind
  ranked_state = set_state k (length i.names) (Array i.arrays 0) (Array i.arrays rank) t there refl refl (All-set (KindFits k.parameters depth) k.kinds (length i.names) (Array i.arrays rank) few t.fit)

  -- only names were added
  ranked_kept : Kept i (i.arrays ∷ []) (with_kind (length i.names) (Array i.arrays rank) k)
  unfolding with_kind
  ranked_kept = record {
    grown = record {
      more = Array i.arrays rank ∷ more;
      kinds = kinds_are;
      settled = (few, b.settled);
      parameters = b.parameters;
      names = b.names;
    };
    order = (let above : nat_lt i.arrays i.arrays ≡ false = grind (arith, nat_tests) in (omega arith, rw above (omega (arith, b.arrays))));
    statements = b.statements;
  }

  -- the reference fits
  ranked_access : (rows : List (List ℤ)) → length rows ≡ rank → AllByRecursion (IsRow k.parameters depth) rows → AccessIn depth (with_kind (length i.names) (Array i.arrays rank) k) (record { array = i.arrays; subscripts = rows })
  unfolding with_kind
  ranked_access rows long h = record {
    rank = rank_at k.arrays _ (length i.names) i.arrays rank ranked_state.numbered (get-set k.kinds (length i.names) (Array i.arrays 0) (Array i.arrays rank) there) ∙ ap Some (sym long);
    rows = h;
  }

-- ---- references

-- a reference, and what it adds
pub record IsReference (depth : ℕ) (i : Names) (a : Access) (j : Names) : Type 0 where
  pub state : State depth j
  pub kept : Kept i (a.array ∷ []) j
  pub fits : AccessIn depth j a

-- a meaning behind one of two
either_then : {A B : Type 0} (c : Bool) (x y : Option (A × Names)) (f : A → Meaning B) {Q : B → Names → Type 0} → (c ≡ true → Gives (then_in x f) Q) → (c ≡ false → Gives (then_in y f) Q) → Gives (then_in (if c then x else y) f) Q
either_then c x y p {Q} f g = if_holds (λ o. Gives (then_in o p) Q) x y c f g

-- a reference by the kind of its name
reference_by : (depth b : ℕ) (name : List ℕ) (ss : tree.Subscripts) (o : Option Kind) (i : Names) → kind_of name i ≡ o → IsWord name → AreNamed (subscripts_words ss) → State depth i
    → Gives (then_in (array_by name o i) (λ seen. λ s. then_in (subscripts_means b [] ss s) (λ rows. access_by (length i.names) rows seen.array seen.subscripts))) (IsReference depth i)
unfolding with_name
reference_by depth b name ss None i e w n s = either_then (is_short name && nat_lt i.arrays most_arrays) _ _ _
    (λ h.
    let both = and_parts (is_short name) (nat_lt i.arrays most_arrays) h in
    let few : i.arrays < ARRAYS = ltb-true _ _ both.1 in
    let none : i.parameters + 0 ≡ i.parameters = omega arith in
    let at_end : i.arrays ≡ 0 + i.arrays = omega arith in
    let j : Names = with_new name (Array i.arrays 0) i.parameters (i.arrays + 1) i in
    let t : State depth j = new_state i name (Array i.arrays 0) i.parameters (i.arrays + 1) s (short_word name w both.0) e (omega arith) (omega arith) none s.few_parameters (ap (λ n. range_with_len 0 i.arrays ++ n ∷ []) at_end ∙ range_more 0 i.arrays 1) (omega arith) in
    chained (subscripts_means b [] ss j) (subscripts_are depth b [] ss j n t (record { few = omega arith; each = tt })) (λ rows k after.
    let behind : IsBehind i k after.kept.grown.more = record {
      kinds = after.kept.grown.kinds;
      settled = after.kept.grown.settled;
      parameters = after.kept.grown.parameters;
      names = omega (arith, after.kept.grown.names, length-append i.names (name ∷ []));
      arrays = sym after.kept.order;
      statements = after.kept.statements;
    } in
    ok (record {
      state = ranked_state depth i k _ (length rows) s after.state behind after.value.few;
      kept = ranked_kept depth i k _ (length rows) s after.state behind after.value.few;
      fits = ranked_access depth i k _ (length rows) s after.state behind after.value.few rows refl after.value.each;
    })))
    (λ _. nothing)
reference_by depth b name ss (Some (Array number r)) i e w n s =
    chained (subscripts_means b [] ss i) (subscripts_are depth b [] ss i n s (record { few = omega arith; each = tt })) (λ rows j after.
    either (length rows == r) (λ same.
    let rank : slice_get (ranks i.kinds) number ≡ Some r = (let found = kind_found name i (Array number r) e in rank_at i.arrays i.kinds found.0 number r s.numbered found.2) in
    let below : number < i.arrays = omega (arith, slice_get_within (ranks i.kinds) number r rank, ranks-length i.arrays i.kinds s.numbered) in
    let seen : nat_lt number i.arrays ≡ true = grind (arith, nat_tests) in
    ok (record {
      state = after.state;
      kept = record { grown = after.kept.grown; order = (omega arith, rw seen after.kept.order); statements = after.kept.statements };
      fits = record { rank = rank-grown number r after.kept.grown rank ∙ ap Some (sym (eqb-true _ _ same)); rows = after.value.each };
    })) (λ _. nothing))
reference_by depth b name ss (Some _) i e w n s = nothing

-- a reference fits an array that is there
pub reference_in : {depth : ℕ} (b : ℕ) (r : tree.Reference) (i : Names) → AreNamed (reference_words r) → State depth i → Gives (reference_means b r i) (IsReference depth i)
unfolding reference_means access_from mean.array
reference_in {depth} b r i n s = reference_by depth b r.name r.subscripts (kind_of r.name i) i refl (n.0 refl) n.1 s

-- ---- values

-- references that fit, not too many
pub record AreReads (depth : ℕ) (i : Names) (reads : Accesses) : Type 0 where
  pub few : length reads ≤ READS
  pub each : AllByRecursion (AccessIn depth i) reads

-- references behind others
pub record Read (depth : ℕ) (i : Names) (before after : Accesses) (j : Names) : Type 0 where
  pub state : State depth j
  pub numbers : List ℕ
  pub kept : Kept i numbers j
  pub same : numbers_of after ≡ numbers_of before ++ numbers
  pub reads : AreReads depth j after

-- a meaning that reads more
abbrev ReadsMore : ℕ → Names → Accesses → Option (Accesses × Names) → Type 0
ReadsMore depth i before o = Gives o (λ after j. Read depth i before after j)

-- nothing more
none_read : {depth : ℕ} (i : Names) (reads : Accesses) → State depth i → AreReads depth i reads → ReadsMore depth i reads (Some (reads, i))
none_read i reads s h = ok (record { state = s; numbers = []; kept = kept_self i; same = sym (append-nil (numbers_of reads)); reads = h })

-- one behind another
read_both : {depth : ℕ} {i : Names} {before : Accesses} (o : Option (Accesses × Names)) {f : Accesses → Meaning Accesses} → ReadsMore depth i before o → ((a : Accesses) (j : Names) → State depth j → AreReads depth j a → ReadsMore depth j a (f a j)) → ReadsMore depth i before (then_in o f)
read_both {before = before} o {f = f} g h = chained o g (λ a j q. weaken (f a j) (h a j q.state q.reads) (λ c k r. record {
  state = r.state;
  numbers = q.numbers ++ r.numbers;
  kept = kept-trans q.kept r.kept;
  same = r.same ∙ ap (λ ns. ns ++ r.numbers) q.same ∙ append_assoc (numbers_of before) q.numbers r.numbers;
  reads = r.reads;
}))

-- the arrays of references behind others
numbers_both : (xs : Accesses) (y : Access) → numbers_of (xs ++ y ∷ []) ≡ numbers_of xs ++ y.array ∷ []
numbers_both [] y = refl
numbers_both (x ∷ xs) y = ap (λ ns. x.array ∷ ns) (numbers_both xs y)

-- one reference more
one_read : {depth : ℕ} (b : ℕ) (reads : Accesses) (r : tree.Reference) (i : Names) → AreNamed (reference_words r) → State depth i → AreReads depth i reads → ReadsMore depth i reads (with_read b reads r i)
unfolding with_read
one_read {depth} b reads r i n s h = either_of (nat_le most_reads (length reads)) _ _ (λ _. nothing) (λ few.
    let below : length reads < READS = leb-false _ _ few in
    chained (reference_means b r i) (reference_in b r i n s) (λ a j q. ok (record {
      state = q.state;
      numbers = a.array ∷ [];
      kept = q.kept;
      same = numbers_both reads a;
      reads = record { few = omega (arith, length-append reads (a ∷ [])); each = All-append (AccessIn depth j) reads (a ∷ []) (accesses-grown depth reads q.kept.grown h.each) (q.fits, tt) };
    })))

-- a plain number
plain_read : {depth : ℕ} (reads : Accesses) (ss : tree.Subscripts) (i : Names) → State depth i → AreReads depth i reads → ReadsMore depth i reads (plain_means reads ss i)
plain_read reads tree.subscript_end i s h = none_read i reads s h
plain_read reads (tree.subscript a ss) i s h = nothing

-- a name that isn't called
name_read : {depth : ℕ} (b : ℕ) (reads : Accesses) (r : tree.Reference) (o : Option Kind) (i : Names) → AreNamed (reference_words r) → State depth i → AreReads depth i reads → ReadsMore depth i reads (named_means b reads r o i)
name_read b reads r (Some (Parameter k)) i n s h = plain_read reads r.subscripts i s h
name_read b reads r (Some (OpenLoop d)) i n s h = plain_read reads r.subscripts i s h
name_read b reads r (Some ClosedLoop) i n s h = nothing
name_read b reads r _ i n s h = one_read b reads r i n s h

mutual
  unfolding value_means operands_means unary_means arguments_means name_means

  -- values
  pub value_read : {depth : ℕ} (b : ℕ) (reads : Accesses) (v : value.Value) (i : Names) → AreNamed (value_words v) → State depth i → AreReads depth i reads → ReadsMore depth i reads (value_means b reads v i)
  value_read b reads (value.value u os) i n s h = read_both (unary_means b reads u i) (unary_read b reads u i (first_named (unary_words u) (operands_words os) n) s h) (λ a j t g. operands_read b a os j (second_named (unary_words u) (operands_words os) n) t g)

  operands_read : {depth : ℕ} (b : ℕ) (reads : Accesses) (os : value.Operands) (i : Names) → AreNamed (operands_words os) → State depth i → AreReads depth i reads → ReadsMore depth i reads (operands_means b reads os i)
  operands_read b reads value.operand_end i n s h = none_read i reads s h
  operands_read b reads (value.operand o u os) i n s h = read_both (unary_means b reads u i) (unary_read b reads u i (first_named (unary_words u) (operands_words os) n.1) s h) (λ a j t g. operands_read b a os j (second_named (unary_words u) (operands_words os) n.1) t g)

  unary_read : {depth : ℕ} (b : ℕ) (reads : Accesses) (u : value.Unary) (i : Names) → AreNamed (unary_words u) → State depth i → AreReads depth i reads → ReadsMore depth i reads (unary_means b reads u i)
  unary_read b reads (value.number bytes) i n s h = none_read i reads s h
  unary_read b reads (value.reference r) i n s h = name_read b reads r (kind_of r.name i) i n s h
  unary_read (suc b) reads (value.call_of_none name) i n s h = either_of (is_short name) _ _ (λ _. none_read i reads s h) (λ _. nothing)
  unary_read (suc b) reads (value.call name vs) i n s h = either_of (is_short name) _ _ (λ _. arguments_read b reads vs i (first_named (arguments_words vs) (a_symbol (codes ")") ∷ []) n.1.1) s h) (λ _. nothing)
  unary_read (suc b) reads (value.in_brackets v) i n s h = value_read b reads v i (first_named (value_words v) (a_symbol (codes ")") ∷ []) n.1) s h
  unary_read b reads (value.negative u) i n s h = unary_read b reads u i n.1 s h
  unary_read b reads (value.positive u) i n s h = unary_read b reads u i n.1 s h
  unary_read zero reads _ i n s h = nothing

  arguments_read : {depth : ℕ} (b : ℕ) (reads : Accesses) (vs : value.Arguments) (i : Names) → AreNamed (arguments_words vs) → State depth i → AreReads depth i reads → ReadsMore depth i reads (arguments_means b reads vs i)
  arguments_read b reads (value.last_argument v) i n s h = value_read b reads v i n s h
  arguments_read b reads (value.argument v vs) i n s h =
      let ws = a_symbol (codes ",") ∷ arguments_words vs in
      read_both (value_means b reads v i) (value_read b reads v i (first_named (value_words v) ws n) s h) (λ a j t g. arguments_read b a vs j (second_named (value_words v) ws n).1 t g)
