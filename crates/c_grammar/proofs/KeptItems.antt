-- Items are over names that are there, and within the limits.
use Rattle.std.proofs.Common.{◌≡◌, refl, sym, ◌∙◌, ap, subst, ℕ, zero, suc, ◌+◌, ◌-◌, ◌<◌, List, [], ◌∷◌, ◌++◌, length, arith, append-nil, Bool, true, false, leb-false}
use Rattle.std.specs.Prelude.{ℤ, pos, slice_get, slice_set, nat_lt, nat_le, not, Option, Some, None, ◌||◌, codes}
use Rattle.std.specs.List.{AllByRecursion, range_with_len}
use Rattle.std.proofs.lemmas.Bool.{or_parts}
use Rattle.std.proofs.lemmas.Bool.Decides.{nat_tests}
use Rattle.std.proofs.lemmas.Option.{slice_get_within, slice_get-get_or}
use Rattle.std.proofs.lemmas.List.{get_or_push, length-append}
use Rattle.base_laws.proofs.Lists.{All-append, All-weaken}
use Rattle.iolb_model.specs.declared.limits.TheConstants.{LOOPS, GUARDS, STATEMENTS}
use Rattle.c_reading.specs.declared.named.Kind.{Kind}
use Rattle.c_reading.specs.declared.named.Kind.TheVariants.{OpenLoop, ClosedLoop}
use Rattle.c_reading.specs.declared.tree.Header.{Header}
use Rattle.c_reading.specs.Tree.{Item, assign, loop, guard, Items, done, with_item}
use Rattle.c_reading.specs.Access.{Access}
use Rattle.c_reading.specs.Affine.{kind_of, number_of, with_name, is_short}
use Rattle.c_reading.specs.Items.{first_reads, header_by, is_array, most_statements}
use Rattle.c_reading.specs.Numbers.{most_loops, zeros}
use Rattle.c_reading.specs.Refs.{with_kind}
use Rattle.c_grammar.specs.Words.{Word, a_name, a_symbol}
use Rattle.c_tokens.specs.Names.{IsWord}
use Rattle.affine_program.specs.Printable.{IsOrdered}
use Rattle.c_grammar.specs.Well.{numbers_of, item_numbers, items_numbers, IsLoop, IsLoopAt, IsNested, AreNested, item_count, statement_count}
use Rattle.c_reading.specs.Compare.{Rows}
use Rattle.c_grammar.specs.Affine.{affine_words, Compares, compares_words, reference_words}
use Rattle.c_grammar.specs.Value.{value_words}
use Rattle.c_grammar.specs.Item as item
use Rattle.c_grammar.specs.Item.{assigner_word, assign_words, int_words, bounds_words, header_words, conditions_words, item_words, items_words}
use Rattle.c_grammar.specs.Meaning as mean
use Rattle.c_grammar.specs.Meaning.{Names, Meaning, then_in, affine_means, compares_mean, reference_means, value_means, updates, assign_means, statement_means, loop_by, header_means, begin, end, item_means, items_means}
use Rattle.c_grammar.proofs.Forms.{IsWhereSome, IsRow, more_row, combined_row, zeros_row}
use Rattle.c_grammar.proofs.NameKinds.{KindFits, more_fits, get-append, rank_of, flat_map-set, All-set, get-set, set-back}
use Rattle.c_grammar.proofs.Kept.{AreNamed, first_named, second_named, short_word, State, set_state, Grown, grown-same, grown-trans, Kept, kept-trans, kept_self, ordered_both, row-grown, AccessIn, accesses-grown, Wider, wider, access-wider, rows-grown, GuardFits, kind_found, new_state, new_grown, Gives, nothing, ok, chained, either, Reads, stays, ItemIn, ItemsIn, items-wider, items_more, count_more, numbers_more, nested_more, nested-items, IsOpenAt, opens_stay}
use Rattle.c_grammar.proofs.KeptRows.{compares_few}
use Rattle.c_grammar.proofs.KeptRefs.{affine_form, reference_in, AreReads, value_read}
use Rattle.c_grammar.proofs.Steps.{bool_cases}

-- ---- items behind items

-- Items behind these names, inside so many loops and guards of so many rows: they fit, and the names count their statements
-- and their arrays.
pub record Holds (depth guards : ℕ) (s : Names) (items : Items) (i : Names) : Type 0 where
  pub state : State depth i
  pub grown : Grown s i
  pub fit : ItemsIn depth guards i items
  pub statements : i.statements ≡ s.statements + statement_count items
  pub nested : (around : List ℕ) → AllByRecursion (IsOpenAt s.kinds) around → AreNested i.kinds around items
  pub order : IsOrdered s.arrays (items_numbers items) i.arrays

-- no item
pub holds_none : (depth guards : ℕ) (i : Names) → State depth i → Holds depth guards i done i
holds_none depth guards i s = record { state = s; grown = (kept_self i).grown; fit = tt; statements = omega arith; nested = λ around o. tt; order = refl }

-- one item more
record Adds (depth guards : ℕ) (i : Names) (t : Item) (j : Names) : Type 0 where
  pub state : State depth j
  pub grown : Grown i j
  pub fits : ItemIn depth guards j t
  pub statements : j.statements ≡ i.statements + item_count t
  pub nested : (around : List ℕ) → AllByRecursion (IsOpenAt i.kinds) around → IsNested j.kinds around t
  pub order : IsOrdered i.arrays (item_numbers t) j.arrays

-- it is held with the others
holds_more : {depth guards : ℕ} {s i j : Names} {items : Items} {t : Item} → Holds depth guards s items i → Adds depth guards i t j → Holds depth guards s (with_item items t) j
holds_more {depth} {guards} {s} {i} {j} {items} {t} h a = record {
  state = a.state;
  grown = grown-trans h.grown a.grown;
  fit = items_more depth guards j items t (items-wider depth guards items (wider a.grown) h.fit) a.fits;
  statements = omega (arith, count_more items t, h.statements, a.statements);
  nested = λ around o. nested_more j.kinds around items t
      (nested-items i.kinds j.kinds (λ at l. subst (λ ks. IsLoopAt ks at) (sym a.grown.kinds) (l.0, get-append i.kinds a.grown.more at l.0 l.1, l.2)) around items (h.nested around o))
      (a.nested around (opens_stay h.grown around o));
  order = subst (λ ns. IsOrdered s.arrays ns j.arrays) (sym (numbers_more items t)) (ordered_both s.arrays i.arrays j.arrays (items_numbers items) (item_numbers t) h.order a.order);
}

-- ---- statements

-- a statement, which is counted
statement_adds : (depth guards n : ℕ) (i l : Names) (w : Access) (u : Bool) (reads : List Access) (numbers : List ℕ) → i.statements < STATEMENTS → n ≡ i.statements + 1 → State depth l → Kept i (w.array ∷ numbers) l → AccessIn depth l w → AreReads depth l reads
    → numbers_of reads ≡ numbers_of (first_reads u w) ++ numbers → Adds depth guards i (assign (record { writes = w; reads = reads })) (record l { statements = n })
statement_adds depth guards n i l w u reads numbers few counts s k fits reads_fit same =
    let last : Names = record l { statements = n } in
    let here : Grown l last = grown-same l last refl refl refl in
    record {
      state = record { kinds = s.kinds; fit = s.fit; parameters = s.parameters; few_parameters = s.few_parameters; numbered = s.numbered; few_arrays = s.few_arrays; few_statements = omega arith; names = s.names; distinct = s.distinct };
      grown = grown-trans k.grown here;
      fits = record { writes = access-wider (wider here) fits; few = reads_fit.few; reads = accesses-grown depth reads here reads_fit.each };
      statements = counts;
      nested = λ around h. tt;
      order = subst (λ ns. IsOrdered i.arrays (w.array ∷ ns) l.arrays) (sym same) (read_first u k.order);
    } where
      -- what is written is read first, or not
      read_first : (u : Bool) → IsOrdered i.arrays (w.array ∷ numbers) l.arrays → IsOrdered i.arrays (w.array ∷ (numbers_of (first_reads u w) ++ numbers)) l.arrays
      read_first false h = h
      read_first true h = (
        h.0,
        bool_cases (nat_lt w.array i.arrays)
            (λ e. let below : w.array < i.arrays = grind (arith, nat_tests) in rw e (omega arith, rw e (rw e at h).1))
            (λ e. let after : nat_lt w.array (suc i.arrays) ≡ true = (let le = h.0 in grind (arith, nat_tests)) in rw e (omega (arith, h.0), rw after (rw e at h).1)),
      )

-- a statement is one more
statement_holds : {depth guards : ℕ} (b : ℕ) (s : Names) (before : Items) (a : item.Assign) (i : Names) → AreNamed (assign_words a) → Holds depth guards s before i → Gives (statement_means b before a i) (Holds depth guards s)
unfolding statement_means assign_means
statement_holds {depth} {guards} b s before a i n h = either (not (is_array (kind_of a.target.name i)) || nat_le most_statements i.statements) (λ _. nothing) (λ test.
    let few : i.statements < STATEMENTS = leb-false _ _ (or_parts (not (is_array (kind_of a.target.name i))) (nat_le most_statements i.statements) test).1 in
    let ws = assigner_word a.assigner ∷ value_words a.value in
    let u : Bool = updates a.assigner in
    chained (assign_means b a i) {Q = λ statement l. (n : ℕ) → n ≡ i.statements + 1 → Adds depth guards i (assign statement) (record l { statements = n })}
    (chained (reference_means b a.target i) (reference_in b a.target i (first_named (reference_words a.target) ws n) h.state) (λ w j q.
    chained (value_means b (first_reads u w) a.value j) (value_read b (first_reads u w) a.value j (second_named (reference_words a.target) ws n).1 q.state (first_are depth j u w q.fits)) (λ reads l r.
    ok (λ m e. statement_adds depth guards m i l w u reads r.numbers few e r.state (kept-trans q.kept r.kept) (access-wider (wider r.kept.grown) q.fits) r.reads r.same))))
    (λ statement l r. ok (holds_more h (r (i.statements + 1) refl)))) where
      first_are : (depth : ℕ) (i : Names) (u : Bool) (w : Access) → AccessIn depth i w → AreReads depth i (first_reads u w)
      first_are depth i true w h = record { few = omega arith; each = (h, tt) }
      first_are depth i false w h = record { few = omega arith; each = tt }

-- ---- headers

-- a header, of which the name is that of no open loop
record HeaderIn (depth : ℕ) (i : Names) (h : Header) (j : Names) : Type 0 where
  pub state : State depth j
  pub kept : Kept i [] j
  pub closed : slice_get j.kinds h.name ≡ Some ClosedLoop
  pub lower : IsRow j.parameters depth h.lower
  pub upper : IsRow j.parameters depth h.upper

-- a loop's name is closed
loop_by_closed : (depth : ℕ) (name : List ℕ) (o : Option Kind) (i : Names) → kind_of name i ≡ o → IsWord name → State depth i → Reads depth i (loop_by name o i) (λ at j. slice_get j.kinds at ≡ Some ClosedLoop)
unfolding with_name
loop_by_closed depth name None i e w s = either (is_short name)
    (λ short.
    let none : i.parameters + 0 ≡ i.parameters = omega arith in
    ok (record {
      state = new_state i name ClosedLoop i.parameters i.arrays s (short_word name w short) e tt (omega arith) none s.few_parameters (append-nil (range_with_len 0 i.arrays)) s.few_arrays;
      kept = record { grown = new_grown i name ClosedLoop i.parameters i.arrays tt (omega arith); order = refl; statements = refl };
      value = ap (slice_get (i.kinds ++ ClosedLoop ∷ [])) (sym s.kinds) ∙ slice_get-get_or (i.kinds ++ ClosedLoop ∷ []) (length i.kinds) ClosedLoop (omega (arith, length-append i.kinds (ClosedLoop ∷ []))) ∙ ap Some (get_or_push i.kinds ClosedLoop ClosedLoop (length i.kinds) refl);
    }))
    (λ _. nothing)
loop_by_closed depth name (Some ClosedLoop) i e w s =
    let found = kind_found name i ClosedLoop e in
    again (number_of name i) found.1 found.2 where
      again : (o : Option ℕ) {at : ℕ} → o ≡ Some at → slice_get i.kinds at ≡ Some ClosedLoop → Reads depth i (mean.loop_again o i) (λ n j. slice_get j.kinds n ≡ Some ClosedLoop)
      again None f g = nothing
      again (Some m) {at} f g = let same : m ≡ at = cc in stays s (ap (slice_get i.kinds) same ∙ g)
loop_by_closed depth name (Some _) i e w s = nothing

-- a header names a loop that isn't open, and its bounds are rows
header_in : {depth : ℕ} (b : ℕ) (h : item.Header) (i : Names) → IsWord h.name → AreNamed (affine_words h.first) → AreNamed (affine_words h.last) → State depth i → Gives (header_means b h i) (HeaderIn depth i)
unfolding header_means mean.loop_name
header_in {depth} b h i w first last s =
    chained (loop_by h.name (kind_of h.name i) i) (loop_by_closed depth h.name (kind_of h.name i) i refl w s) (λ at j q.
    chained (affine_means b h.first j) (affine_form b h.first j first q.state) (λ start k r.
    chained (affine_means b h.last k) (affine_form b h.last k last r.state) (λ end l t.
    bounded at h.falls start.numbers l (mean.last_bound h.falls h.excludes end.numbers) (combined_row (pos 1) (mean.excluded h.falls h.excludes) zeros end.numbers (zeros_row l.parameters depth) t.value)
    t.state (kept-trans q.kept (kept-trans r.kept t.kept)) (closed_stays (grown-trans r.kept.grown t.kept.grown) at q.value) (row-grown t.kept.grown r.value)))) where
      closed_stays : {j l : Names} → Grown j l → (at : ℕ) → slice_get j.kinds at ≡ Some ClosedLoop → slice_get l.kinds at ≡ Some ClosedLoop
      closed_stays {j} {l} g at e = ap (λ ks. slice_get ks at) g.kinds ∙ get-append j.kinds g.more at ClosedLoop e

      bounded : (at : ℕ) (falls : Bool) (start : List ℤ) (l : Names) (o : Option (List ℤ)) → IsWhereSome (IsRow l.parameters depth) o → State depth l → Kept i [] l → slice_get l.kinds at ≡ Some ClosedLoop → IsRow l.parameters depth start
          → Gives (then_in (mean.given o l) (λ numbers. mean.pure (header_by at falls start numbers))) (HeaderIn depth i)
      bounded at falls start l None g t k c r = nothing
      bounded at false start l (Some row) g t k c r = ok (record { state = t; kept = k; closed = c; lower = r; upper = g })
      bounded at true start l (Some row) g t k c r = ok (record { state = t; kept = k; closed = c; lower = g; upper = r })

-- ---- loops

-- a member that is set changes no other
get_other : {X : Type 0} (xs : List X) (at other : ℕ) (x y : X) → (other ≡ at → ⊥) → slice_get xs other ≡ Some x → slice_get (slice_set xs at y) other ≡ Some x
get_other [] at other x y apart e = cc
get_other (z ∷ xs) zero zero x y apart e = absurd (apart refl)
get_other (z ∷ xs) zero (suc other) x y apart e = e
get_other (z ∷ xs) (suc at) zero x y apart e = e
get_other (z ∷ xs) (suc at) (suc other) x y apart e = get_other xs at other x y (λ same. apart (ap suc same)) e

-- a loop stays one where another becomes one
loop_set : (kinds : List Kind) (at : ℕ) (k : Kind) (other : ℕ) → IsLoop k → IsLoopAt kinds other → IsLoopAt (slice_set kinds at k) other
loop_set [] at k other is (l, e, h) = cc
loop_set (x ∷ kinds) zero k zero is l = (k, refl, is)
loop_set (x ∷ kinds) zero k (suc other) is l = l
loop_set (x ∷ kinds) (suc at) k zero is l = l
loop_set (x ∷ kinds) (suc at) k (suc other) is l = loop_set kinds at k other is l

-- an open loop is none that is closed
open_apart : (kinds : List Kind) (at other : ℕ) → slice_get kinds at ≡ Some ClosedLoop → IsOpenAt kinds other → other ≡ at → ⊥
open_apart kinds at other closed o same = let both : Some (OpenLoop o.0) ≡ Some ClosedLoop = sym o.1 ∙ ap (slice_get kinds) same ∙ closed in cc

-- the names where a loop is open
abbrev pub opened_at : ℕ → Header → Names → Names
opened_at depth h j = record j { kinds = slice_set j.kinds h.name (OpenLoop depth) }

-- where it ended
abbrev pub closed_at : Header → Names → Names
closed_at h l = record l { kinds = slice_set l.kinds h.name ClosedLoop }

-- the state inside a loop that begins
opened_state : (depth : ℕ) (h : Header) (j : Names) → State depth j → slice_get j.kinds h.name ≡ Some ClosedLoop → State (suc depth) (opened_at depth h j)
opened_state depth h j s closed =
    set_state j h.name ClosedLoop (OpenLoop depth) s closed refl refl
    (All-set (KindFits j.parameters (suc depth)) j.kinds h.name (OpenLoop depth) (omega arith) (All-weaken (KindFits j.parameters depth) (KindFits j.parameters (suc depth)) j.kinds (more_fits j.parameters depth j.parameters (suc depth) (omega arith) (omega arith)) s.fit))

-- a loop behind its header
module _ (depth guards : ℕ) (h : Header) (body : Items) (i j l : Names) (few : depth < LOOPS) (f : HeaderIn depth i h j) (b : Holds (suc depth) guards (opened_at depth h j) body l) where
  -- the name of the loop is as it was before
  kinds_back : slice_set l.kinds h.name ClosedLoop ≡ j.kinds ++ b.grown.more
  kinds_back = ap (λ (k : List Kind). slice_set k h.name ClosedLoop) b.grown.kinds ∙ set-back j.kinds b.grown.more h.name ClosedLoop (OpenLoop depth) f.closed

  -- the name of the loop is still that of an open loop
  still_open : slice_get l.kinds h.name ≡ Some (OpenLoop depth)
  still_open = subst (λ (k : List Kind). slice_get k h.name ≡ Some (OpenLoop depth)) (sym b.grown.kinds) (get-append (slice_set j.kinds h.name (OpenLoop depth)) b.grown.more h.name (OpenLoop depth) (get-set j.kinds h.name ClosedLoop (OpenLoop depth) f.closed))

  -- the end of a loop takes nothing away
  closed_wider : Wider l (closed_at h l)
  closed_wider = record { parameters = omega arith; names = omega arith; ranks = λ n r e. subst (λ (k : List ℕ). slice_get k n ≡ Some r) (sym (flat_map-set rank_of l.kinds h.name (OpenLoop depth) ClosedLoop still_open refl)) e }

  -- the state behind the loop
  closed_state : State depth (closed_at h l)
  closed_state =
      set_state l h.name (OpenLoop depth) ClosedLoop b.state still_open refl refl
      (subst (AllByRecursion (KindFits l.parameters depth)) (sym kinds_back)
      (All-append (KindFits l.parameters depth) j.kinds b.grown.more
      (All-weaken (KindFits j.parameters depth) (KindFits l.parameters depth) j.kinds (more_fits j.parameters depth l.parameters depth b.grown.parameters (omega arith)) f.state.fit)
      (All-weaken (KindFits l.parameters 0) (KindFits l.parameters depth) b.grown.more (more_fits l.parameters 0 l.parameters depth (omega arith) (omega arith)) b.grown.settled)))

  -- the whole loop is an item more
  loop_adds : Adds depth guards i (loop h body) (closed_at h l)
  loop_adds = record {
    state = closed_state;
    grown = grown-trans f.kept.grown (record { more = b.grown.more; kinds = kinds_back; settled = b.grown.settled; parameters = b.grown.parameters; names = b.grown.names });
    fits = (
      record {
        name = omega (arith, slice_get_within j.kinds h.name ClosedLoop f.closed, f.state.kinds, b.grown.names);
        few = few;
        lower = more_row b.grown.parameters (omega arith) f.lower;
        upper = more_row b.grown.parameters (omega arith) f.upper;
      },
      items-wider (suc depth) guards body closed_wider b.fit,
    );
    statements = omega (arith, b.statements, f.kept.statements);
    nested = λ around o.
        let opens : AllByRecursion (IsOpenAt j.kinds) around = opens_stay f.kept.grown around o in (
          (ClosedLoop, get-set l.kinds h.name (OpenLoop depth) ClosedLoop still_open, tt),
          All-weaken (IsOpenAt j.kinds) (λ n. n ≡ h.name → ⊥) around (λ n p. open_apart j.kinds h.name n f.closed p) opens,
          nested-items l.kinds (slice_set l.kinds h.name ClosedLoop) (λ at k. loop_set l.kinds h.name ClosedLoop at tt k) (h.name ∷ around) body
              (b.nested (h.name ∷ around) ((depth, get-set j.kinds h.name ClosedLoop (OpenLoop depth) f.closed), All-weaken (IsOpenAt j.kinds) (IsOpenAt (slice_set j.kinds h.name (OpenLoop depth))) around (λ n o. (o.0, get_other j.kinds h.name n (OpenLoop o.0) (OpenLoop depth) (open_apart j.kinds h.name n f.closed o) o.1)) opens)),
        );
    order = subst (λ n. IsOrdered n (items_numbers body) l.arrays) (sym f.kept.order) b.order;
  }

-- a guard behind what its `if` asks is an item more
guard_adds : (depth guards : ℕ) (rows : Rows) (body : Items) (i j l : Names) → GuardFits depth guards j rows → Kept i [] j → Holds depth (guards + length rows) j body l → Adds depth guards i (guard rows body) l
guard_adds depth guards rows body i j l f k b = record {
  state = b.state;
  grown = grown-trans k.grown b.grown;
  fits = (record { some = f.some; few = f.few; rows = rows-grown depth rows b.grown f.rows }, b.fit);
  statements = omega (arith, b.statements, k.statements);
  nested = λ around o. b.nested around (opens_stay k.grown around o);
  order = subst (λ n. IsOrdered n (items_numbers body) l.arrays) (sym k.order) b.order;
}

-- the names of a header
header_named : (h : item.Header) (ws : List Word) → AreNamed (header_words h ++ ws) → IsWord h.name × AreNamed (affine_words h.first) × AreNamed (affine_words h.last)
header_named h ws n =
    let whole = first_named (header_words h) ws n in
    let tail = second_named (int_words h.has_int) (a_name h.name ∷ bounds_words h) whole.1.1 in
    let bounds = second_named (affine_words h.first) _ tail.1.1 in
    (tail.0 refl, first_named (affine_words h.first) _ tail.1.1, first_named (affine_words h.last) _ bounds.1.1.1)

-- the names of what an `if` asks
conditions_named : (cs : Compares) (ws : List Word) → AreNamed (conditions_words cs ++ ws) → AreNamed (compares_words cs)
conditions_named cs ws n = first_named (compares_words cs) (a_symbol (codes ")") ∷ []) (first_named (conditions_words cs) ws n).1.1

mutual
  unfolding item_means items_means begin end with_kind

  -- an item is one more, or none
  item_holds : (more depth room guards b : ℕ) (s : Names) (before : Items) (t : item.Item) (i : Names) → depth + more ≡ LOOPS → guards + room ≡ GUARDS → AreNamed (item_words t) → Holds depth guards s before i
      → Gives (item_means more room b before t i) (Holds depth guards s)
  item_holds more depth room guards b s before item.nothing i e r n h = ok h
  item_holds more depth room guards (suc b) s before (item.block is) i e r n h = items_hold more depth room guards b s before is i e r (first_named (items_words is) (a_symbol (codes "}") ∷ []) n.1) h
  item_holds (suc more) depth room guards (suc b) s before (item.loop header t) i e r n h =
      let named = header_named header (item_words t) n in
      let at_depth : most_loops - 1 - more ≡ depth = omega arith in
      chained (header_means b header i) (header_in b header i named.0 named.1 named.2 h.state) (λ l j f.
      rw at_depth (
      let opened : Names = opened_at depth l j in
      chained (item_means more room (suc b) done t opened) (item_holds more (suc depth) room guards (suc b) opened done t opened (omega arith) r (second_named (header_words header) (item_words t) n) (holds_none (suc depth) guards opened (opened_state depth l j f.state f.closed))) (λ body k a.
      ok (holds_more h (loop_adds depth guards l body i j k (omega arith) f a)))))
  item_holds more depth room guards (suc b) s before (item.guarded cs t) i e r n h =
      chained (compares_mean b room [] cs i) (compares_few depth b room [] cs i (conditions_named cs (item_words t) n) h.state tt) (λ rows j f.
      let inside : (guards + length rows) + (room - length rows) ≡ GUARDS = omega (arith, f.value.0.few) in
      chained (item_means more (room - length rows) (suc b) done t j) (item_holds more depth (room - length rows) (guards + length rows) (suc b) j done t j e inside (second_named (conditions_words cs) (item_words t) n) (holds_none depth (guards + length rows) j f.state)) (λ body k a.
      ok (holds_more h (guard_adds depth guards rows body i j k (record { some = f.value.1; few = omega (arith, f.value.0.few); rows = f.value.0.each }) f.kept a))))
  item_holds more depth room guards b s before (item.statement a) i e r n h = statement_holds b s before a i (first_named (assign_words a) (a_symbol (codes ";") ∷ []) n) h
  item_holds _ depth room guards _ s before _ i e r n h = nothing

  -- items are more, or none
  pub items_hold : (more depth room guards b : ℕ) (s : Names) (before : Items) (ts : item.Items) (i : Names) → depth + more ≡ LOOPS → guards + room ≡ GUARDS → AreNamed (items_words ts) → Holds depth guards s before i
      → Gives (items_means more room b before ts i) (Holds depth guards s)
  items_hold more depth room guards b s before item.item_end i e r n h = ok h
  items_hold more depth room guards b s before (item.item t ts) i e r n h =
      chained (item_means more room b before t i) (item_holds more depth room guards b s before t i e r (first_named (item_words t) (items_words ts) n) h) (λ all j u. items_hold more depth room guards b s all ts j e r (second_named (item_words t) (items_words ts) n) u)
