-- Every text that is read is well read.
use Rattle.std.proofs.Common.{◌≡◌, refl, sym, ◌∙◌, ap, subst, ℕ, zero, suc, ◌+◌, ◌<◌, ◌≤◌, List, [], ◌∷◌, ◌++◌, length, map, arith, true, false, length-append}
use Rattle.std.specs.Prelude.{⊤, ℤ, slice_get, IsSomeAnd, option_map, Option, Some, None}
use Rattle.std.specs.List.{AllByRecursion}
use Rattle.base_laws.proofs.Lists.{All-weaken}
use Rattle.iolb_model.specs.declared.limits.TheConstants.{SUBSCRIPTS, ASSUMPTIONS}
use Rattle.c_tokens.specs.declared.token.Token.{Token}
use Rattle.c_tokens.specs.Text.{tokens_of}
use Rattle.c_reading.specs.declared.named.Kind.{Kind}
use Rattle.c_reading.specs.declared.named.Kind.TheVariants.{Array}
use Rattle.c_reading.specs.Tree.{Item, assign, loop, guard, Items, done, next}
use Rattle.c_reading.specs.Access.{Access}
use Rattle.c_reading.specs.Numbers.{most_loops, most_guards}
use Rattle.c_reading.specs.Compare.{Rows, most_brackets, most_rows}
use Rattle.c_reading.specs.Head.{Head}
use Rattle.c_reading.specs.Names.{arrays_among}
use Rattle.c_reading.specs.Text.{Reading, all_at_least_one, at_least_one, assumptions_of, start_of}
use Rattle.c_grammar.specs.Words.{word_of, a_name, line_end, program_end}
use Rattle.c_grammar.specs.Affine.{compares_words}
use Rattle.c_grammar.specs.Item.{items_words}
use Rattle.c_grammar.specs.Text as text
use Rattle.c_grammar.specs.Text.{Text, lines_words, text_words}
use Rattle.c_grammar.specs.Meaning as mean
use Rattle.c_grammar.specs.Meaning.{Names, affine_means, with_compare, row_count, compare_means, slot, items_means, parameters_mean, compares_mean, lines_mean, whole_means, text_means}
use Rattle.affine_program.specs.Printable.{IsOrdered}
use Rattle.c_grammar.specs.Well.{IsRowOver, parameters_of, arrays_of, IsAccessIn, IsItemIn, AreItemsIn, items_numbers, IsWellRead, ReadingsAreWellRead}
use Rattle.c_grammar.proofs.Steps.{AreLexical, IsSpelled, all_spelled, class, word_spelled, if_holds}
use Rattle.c_grammar.proofs.Lexical.{text_lexical}
use Rattle.c_grammar.proofs.SoundText.{accepted}
use Rattle.c_grammar.proofs.Forms.{IsRow, stated_row, all_rows}
use Rattle.c_grammar.proofs.NameKinds.{KindFits, ranks, ranks-length, parameters-length}
use Rattle.std.proofs.lemmas.Option.{slice_get-map}
use Rattle.std.proofs.lemmas.List.{length-map}
use Rattle.c_grammar.proofs.Kept.{IsNamed, AreNamed, first_named, second_named, State, rows-grown, AccessIn, Gives, ok, chained, Reads, bind, stays, ItemIn, ItemsIn}
use Rattle.c_grammar.proofs.KeptRefs.{slot_there}
use Rattle.c_grammar.proofs.KeptRows.{AreFew, compares_few}
use Rattle.c_grammar.proofs.KeptItems.{Holds, holds_none, items_hold}

-- ---- the lines before a program

-- names, each a parameter
names_kept : (names : List (List ℕ)) (i : Names) → AreNamed (map a_name names) → State 0 i → Reads 0 i (parameters_mean names i) (λ _ _. ⊤)
unfolding parameters_mean
names_kept [] i n s = stays s tt
names_kept (name ∷ names) i n s = bind (slot name i) (slot_there name i (n.0 refl) s) (λ _ j t k _. names_kept names j n.1 t)

-- what is assumed is within the limits, and where a line assumes there is a row
record IsHead (h : Head) (j : Names) : Type 0 where
  pub few : AreFew j.parameters 0 most_rows h.rows
  pub some : h.assumed ≡ true → 0 < length h.rows

-- the lines give what is assumed
lines_kept : (h : Head) (ls : text.Lines) (i : Names) → AreNamed (lines_words ls) → State 0 i → IsHead h i → Reads 0 i (lines_mean h ls i) IsHead
unfolding lines_mean
lines_kept h text.line_none i n s g = stays s g
lines_kept h (text.parameters head names ls) i n s g =
    let ws = line_end ∷ lines_words ls in
    bind (parameters_mean names i) (names_kept names i (first_named (map a_name names) ws n.1) s) (λ _ j t k _.
    lines_kept h ls j (second_named (map a_name names) ws n.1).1 t (record { few = record { few = g.few.few; each = rows-grown 0 h.rows k.grown g.few.each }; some = g.some }))
lines_kept h (text.assumptions head cs ls) i n s g =
    let ws = line_end ∷ lines_words ls in
    bind (compares_mean most_brackets most_rows h.rows cs i) (compares_few 0 most_brackets most_rows h.rows cs i (first_named (compares_words cs) ws n.1) s g.few.each) (λ rows j t k f.
    lines_kept (record { assumed = true; rows = rows }) ls j (second_named (compares_words cs) ws n.1).1 t (record { few = f.0; some = λ _. f.1 }))

-- ---- arrays by their names

-- names that are arrays have the numbers of subscripts of their kinds
arrays_ranks : (names : List (List ℕ)) (kinds : List Kind) → length kinds ≡ length names → map (λ (array : List ℕ × ℕ). array.1) (arrays_among names kinds) ≡ ranks kinds
arrays_ranks [] [] e = refl
arrays_ranks [] (k ∷ kinds) e = absurd (omega (arith, e))
arrays_ranks (name ∷ names) [] e = refl
arrays_ranks (name ∷ names) (Array m s ∷ kinds) e = ap (λ (ns : List ℕ). s ∷ ns) (arrays_ranks names kinds (omega (arith, e)))
arrays_ranks (name ∷ names) (_ ∷ kinds) e = arrays_ranks names kinds (omega (arith, e))

-- an array has its number of subscripts by its name
ranked : (names : List (List ℕ)) (kinds : List Kind) (n r : ℕ) → length kinds ≡ length names → slice_get (ranks kinds) n ≡ Some r → IsSomeAnd (slice_get (arrays_among names kinds) n) (λ array. r ≡ array.1)
ranked names kinds n r e g = by (slice_get (arrays_among names kinds) n) (sym (slice_get-map _ (arrays_among names kinds) n) ∙ ap (λ (l : List ℕ). slice_get l n) (arrays_ranks names kinds e) ∙ g) where
  by : (o : Option (List ℕ × ℕ)) → option_map (λ (array : List ℕ × ℕ). array.1) o ≡ Some r → IsSomeAnd o (λ array. r ≡ array.1)
  by None f = cc
  by (Some array) f = (let same : array.1 ≡ r = cc in sym same)

-- each array has few subscripts
few_ranks : (parameters depth : ℕ) (names : List (List ℕ)) (kinds : List Kind) → AllByRecursion (KindFits parameters depth) kinds → AllByRecursion (λ (array : List ℕ × ℕ). array.1 ≤ SUBSCRIPTS) (arrays_among names kinds)
few_ranks parameters depth [] kinds h = tt
few_ranks parameters depth (name ∷ names) [] h = tt
few_ranks parameters depth (name ∷ names) (Array m s ∷ kinds) h = (h.0, few_ranks parameters depth names kinds h.1)
few_ranks parameters depth (name ∷ names) (_ ∷ kinds) h = few_ranks parameters depth names kinds h.1

-- ---- what is read, as it is stated

-- a reading of this state
abbrev reading_at : Rows → Items → Names → Reading
reading_at rows items i = record { names = i.names; kinds = i.kinds; assumptions = rows; items = items }

module _ (assumed : Rows) (all : Items) (i : Names) (s : State 0 i) where
  -- the parameters are as many as the state counts
  parameters_are : length (parameters_of (reading_at assumed all i)) ≡ i.parameters
  parameters_are = parameters-length i.names i.kinds s.kinds ∙ s.parameters

  -- a row as it is stated
  row_over : (depth : ℕ) (row : List ℤ) → IsRow i.parameters depth row → IsRowOver (length (parameters_of (reading_at assumed all i))) depth row
  row_over depth row h = subst (λ (p : ℕ). IsRowOver p depth row) (sym parameters_are) (stated_row i.parameters depth row s.few_parameters h)

  -- rows as they are stated
  rows_over : (depth : ℕ) (rows : Rows) → AllByRecursion (IsRow i.parameters depth) rows → AllByRecursion (IsRowOver (length (parameters_of (reading_at assumed all i))) depth) rows
  rows_over depth rows h = All-weaken (IsRow i.parameters depth) (IsRowOver (length (parameters_of (reading_at assumed all i))) depth) rows (row_over depth) h

  -- a reference as it is stated
  access_over : (depth : ℕ) (access : Access) → AccessIn depth i access → IsAccessIn (reading_at assumed all i) depth access
  access_over depth access h =
      record { rank = ranked i.names i.kinds access.array (length access.subscripts) s.kinds h.rank; rows = rows_over depth access.subscripts h.rows }

  -- items as they are stated
  mutual
    item_over : (depth guards : ℕ) (t : Item) → ItemIn depth guards i t → IsItemIn (reading_at assumed all i) depth guards t
    item_over depth guards (assign statement) h = record {
      writes = access_over depth statement.writes h.writes;
      few = h.few;
      reads = All-weaken (AccessIn depth i) (IsAccessIn (reading_at assumed all i) depth) statement.reads (access_over depth) h.reads;
    }
    item_over depth guards (loop l body) h = (h.0.name, h.0.few, row_over depth l.lower h.0.lower, row_over depth l.upper h.0.upper, items_over (suc depth) guards body h.1)
    item_over depth guards (guard rows body) h = (h.0.some, h.0.few, rows_over depth rows h.0.rows, items_over depth (guards + length rows) body h.1)

    items_over : (depth guards : ℕ) (items : Items) → ItemsIn depth guards i items → AreItemsIn (reading_at assumed all i) depth guards items
    items_over depth guards done h = tt
    items_over depth guards (next t items) h = (item_over depth guards t h.0, items_over depth guards items h.1)

-- ---- whole texts

-- one row for each parameter
rows-length : (k : ℕ) → length (all_at_least_one k) ≡ k
rows-length zero = refl
rows-length (suc k) = omega (arith, length-append (all_at_least_one k) (at_least_one k ∷ []), rows-length k)

-- the rows that are assumed, of which there is one where there is a parameter
assumed_few : (h : Head) (i : Names) → State 0 i → IsHead h i → AreFew i.parameters 0 ASSUMPTIONS (assumptions_of h i) × (0 < i.parameters → 0 < length (assumptions_of h i))
unfolding assumptions_of
assumed_few h i s e = if_holds (λ (rows : Rows). AreFew i.parameters 0 ASSUMPTIONS rows × (0 < i.parameters → 0 < length rows)) h.rows (all_at_least_one i.parameters) h.assumed
    (λ is. (e.few, λ _. e.some is))
    (λ _. (record { few = omega (arith, rows-length i.parameters, s.few_parameters); each = all_rows i.parameters i.parameters (omega arith) s.few_parameters }, λ some. omega (arith, rows-length i.parameters)))

-- what is meant is well read
module _ (h : Head) (items : Items) (j k : Names) (g : IsHead h j) (counts : j.statements ≡ 0) (arrays : j.arrays ≡ 0) (a : Holds 0 0 j items k) where
  meant_well : IsWellRead (reading_at (assumptions_of h k) items k)
  meant_well =
      let s : State 0 k = a.state in
      let rows : Rows = assumptions_of h k in
      let head : IsHead h k = record { few = record { few = g.few.few; each = rows-grown 0 h.rows a.grown g.few.each }; some = g.some } in
      let assumed = assumed_few h k s head in
      let params : length (parameters_of (reading_at rows items k)) ≡ k.parameters = parameters_are rows items k s in
      let many : length (arrays_of (reading_at rows items k)) ≡ k.arrays = sym (length-map (arrays_among k.names k.kinds) (λ (array : List ℕ × ℕ). array.1)) ∙ ap length (arrays_ranks k.names k.kinds s.kinds) ∙ ranks-length k.arrays k.kinds s.numbered in
      record {
        kinds = s.kinds;
        parameters = omega (arith, params, s.few_parameters);
        few_assumptions = assumed.0.few;
        assumptions = rows_over rows items k s 0 rows assumed.0.each;
        few_arrays = omega (arith, many, s.few_arrays);
        ranks = few_ranks k.parameters 0 k.names k.kinds s.fit;
        statements = omega (arith, a.statements, s.few_statements);
        items = items_over rows items k s 0 0 items a.fit;
        names = s.names;
        distinct = s.distinct;
        nested = a.nested [] tt;
        order = subst (λ n. IsOrdered 0 (items_numbers items) n) (sym many) (subst (λ n. IsOrdered n (items_numbers items) k.arrays) arrays a.order);
        some_assumptions = λ some. assumed.1 (omega (arith, params));
      }

-- what a text's tree means
whole_well : (t : Text) → AreNamed (text_words t) → Gives (whole_means t (start_of [] [])) (λ p k. IsWellRead (reading_at (assumptions_of p.0 k) p.1 k))
unfolding whole_means
whole_well t n =
    let ws = items_words t.items ++ (program_end ∷ []) in
    chained (lines_mean (record { assumed = false; rows = [] }) t.lines (start_of [] []))
    (lines_kept (record { assumed = false; rows = [] }) t.lines (start_of [] []) (first_named (lines_words t.lines) ws n) (record { kinds = refl; fit = tt; parameters = refl; few_parameters = omega arith; numbered = refl; few_arrays = omega arith; few_statements = omega arith; names = tt; distinct = λ a b name e f. cc }) (record { few = record { few = omega arith; each = tt }; some = λ e. cc })) (λ h j q.
    chained (items_means most_loops most_guards most_brackets done t.items j) (items_hold most_loops 0 most_guards 0 most_brackets j done t.items j refl refl (first_named (items_words t.items) (program_end ∷ []) (second_named (lines_words t.lines) ws n)) (holds_none 0 0 j q.state)) (λ items k a.
    ok (meant_well h items j k q.value q.kept.statements (sym q.kept.order) a)))

-- a text's tree means what is well read
text_well : (t : Text) (r : Reading) → AreNamed (text_words t) → text_means t ≡ Some r → IsWellRead r
text_well t r n e = read (whole_means t (start_of [] [])) (whole_well t n) e where
  read : (o : Option ((Head × Items) × Names)) → Gives o (λ p k. IsWellRead (reading_at (assumptions_of p.0 k) p.1 k)) → mean.reading_from o ≡ Some r → IsWellRead r
  read None g f = cc
  read (Some p) g f = let same : reading_at (assumptions_of p.0.0 p.1) p.0.1 p.1 ≡ r = cc in subst IsWellRead same g.holds

-- every text that is read is well read
pub readings_are_well_read : ReadingsAreWellRead
readings_are_well_read bytes r e = by_tree (tokens_of bytes) (text_lexical bytes) (accepted bytes r (tokens_of bytes) (text_lexical bytes) e) where
  by_tree : (o : Option (List Token)) → ((tokens : List Token) → o ≡ Some tokens → AreLexical (map (word_of bytes) tokens)) → (t : Text) × (option_map (map (word_of bytes)) o ≡ Some (text_words t)) × (text_means t ≡ Some r) → IsWellRead r
  by_tree None lexical t = cc
  by_tree (Some tokens) lexical t =
      let same : map (word_of bytes) tokens ≡ text_words t.0 = cc in
      text_well t.0 r (All-weaken IsSpelled IsNamed (text_words t.0) (λ w spelled name. word_spelled w.bytes (sym (ap class name) ∙ spelled)) (all_spelled (text_words t.0) (subst AreLexical same (lexical tokens refl)))) t.2
