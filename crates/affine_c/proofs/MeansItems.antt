-- What the trees of printed loops, guards and rows mean: themselves.
use Rattle.std.proofs.Common.{◌≡◌, pos, refl, sym, ap, subst, ◌∙◌, ℕ, zero, suc, ◌+◌, ◌-◌, ◌≤◌, Bool, true, false, List, [], ◌∷◌, ◌++◌, append_assoc, append-nil, length, map, arith, length-append, ⊎_elim, ℤ}
use Rattle.std.specs.Prelude.{bytes_eq, Some, slice_index_or}
use Rattle.std.specs.List.{AllByRecursion, list_any, range_with_len}
use Rattle.iolb_model.specs.Form.{AffineForm}
use Rattle.iolb_model.specs.Program.{Direction, upward, downward, Item, assign, loop, guard, Row, done, next, AffineProgram, statement_at, IsOver, AccessFits, ItemFits, RowFits, item_statements, row_statements}
use Rattle.c_reading.specs.declared.named.Kind.TheVariants.{OpenLoop, ClosedLoop}
use Rattle.c_reading.specs.declared.tree.Header.{Header as ReadHeader}
use Rattle.c_reading.specs.Tree as read
use Rattle.c_reading.specs.Tree.{Item as ReadItem, Items as ReadItems, with_item}
use Rattle.c_reading.specs.Affine.{with_name}
use Rattle.c_reading.specs.Compare.{Rows, most_brackets}
use Rattle.c_reading.specs.Items.{most_statements}
use Rattle.c_reading.specs.Numbers.{most_loops, most_guards, is_small, combined, zeros}
use Rattle.c_reading.specs.Refs.{with_kind}
use Rattle.c_grammar.specs.Meaning as mean
use Rattle.c_grammar.specs.Meaning.{Names, affine_means, compares_mean, header_means, loop_by, item_means, items_means, begin, end, statement_means}
use Rattle.affine_form.specs.Rows.{direction_of}
use Rattle.affine_program.specs.Tree.{row_from}
use Rattle.c_grammar.specs.Well.{item_count, statement_count}
use Rattle.c_grammar.specs.Program.{narrowed, narrowed_statement, statements_in_item, statements_in, item_meant, items_meant}
use Rattle.c_grammar.proofs.Kept.{count_more}
use Rattle.affine_c.specs.Tree.{conditions_tree, header_tree, item_tree, row_tree}
use Rattle.affine_c.proofs.Roles.{widened, widened_statement, IsSmall, HasRoles, IsReadableHeader, IsSmallForm, IsReadableItem, IsReadableRow, item_seen, row_seen, statement_seen, other, role}
use Rattle.c_tokens.specs.Names.{IsName}
use Rattle.base_laws.proofs.Lists.{All-append, All-weaken}
use Rattle.affine_c.proofs.RowForms.{small_is, form_back, forms_back, form_statement_back}
use Rattle.c_grammar.proofs.NameKinds.{place_of, lookup, position-place, kind_of-lookup, place-new, place-more, place-get, lookup-new, lookup-place}
use Rattle.affine_c.proofs.State.{AreLoops, Knows, named, knows-variables, knows_loop, changed, knows_opened, knows_closed}
use Rattle.affine_c.proofs.MeansForms.{KnowsVariables, form_means}
use Rattle.affine_c.proofs.MeansConditions.{length-widened, conditions_mean}
use Rattle.affine_c.proofs.MeansRefs.{Means, Extends, extends_none, extends_both, short_name, statement_meant}
use Rattle.std.proofs.lemmas.List.{length-map, map-append}
use Rattle.std.proofs.lemmas.Option.{get_or_from_slice_get}
use Rattle.c_grammar.proofs.Steps.{means_then, means_given}
use Rattle.c_grammar.proofs.Forms.{combined_kept}

-- ---- headers

-- whether a loop that goes so runs downward
abbrev falls : Direction → Bool
falls upward = false
falls downward = true

falls_back : (direction : Direction) → direction_of (falls direction) ≡ direction
falls_back upward = refl
falls_back downward = refl

-- what is known behind a loop's name
pub record IsLoopNamed (p : AffineProgram) (around : List (List ℕ)) (seen count : ℕ) (i : Names) (name : List ℕ) (number : ℕ) (j : Names) : Type 0 where
  pub knows : Knows p (length p.parameters) around seen count j
  pub names : Extends i.names j.names
  pub there : place_of name j.names ≡ Some number
  pub closed : lookup name j.names j.kinds ≡ Some ClosedLoop

module _ (p : AffineProgram) (around : List (List ℕ)) (is : HasRoles p) (loops : AreLoops p around) where
  -- a loop's name means its number
  loop_named : (seen count : ℕ) (i : Names) (name : List ℕ) → Knows p (length p.parameters) around seen count i → IsName name → role p name ≡ other → list_any (bytes_eq name) around ≡ false
      → (number : ℕ) × Means (mean.loop_name name i) number (IsLoopNamed p around seen count i name number)
  unfolding mean.loop_name with_name
  loop_named seen count i name knows is_name is_other apart = ⊎_elim
      (λ none.
      let short = short_name name is_name in (
        length i.names,
        record {
          names = named name ClosedLoop i;
          is = ap (λ o. loop_by name o i) (kind_of-lookup name i knows.0.same ∙ none) ∙ rw short refl;
          so = record { knows = (knows_loop p is around name is_other apart seen i.names i.kinds knows.0 none, knows.1, knows.2, knows.3); names = (name ∷ [], refl); there = place-new name i.names i.kinds knows.0.same none; closed = lookup-new name ClosedLoop i.names i.kinds knows.0.same none };
        },
      ))
      (λ again.
      let found = lookup-place name i.names i.kinds ClosedLoop knows.0.same again in (
        found.0,
        record {
          names = i;
          is = ap (λ o. loop_by name o i) (kind_of-lookup name i knows.0.same ∙ again) ∙ ap (λ o. mean.loop_again o i) (position-place name i.names ∙ found.1);
          so = record { knows = knows; names = extends_none i.names; there = found.1; closed = again };
        },
      ))
      (knows.0.other_names name is_other apart)

  -- a bound that isn't excluded is its form
  kept_form : (form : AffineForm) → IsSmallForm (length p.parameters) (length around) form
      → combined (pos 1) (pos 0) zeros (widened (length p.parameters) (length around) form) ≡ Some (widened (length p.parameters) (length around) form)
  kept_form form small =
      let wide : List ℤ = widened (length p.parameters) (length around) form in
      combined_kept wide (record { few = omega (arith, length-widened (length p.parameters) (length around) form); small = All-weaken IsSmall (λ n. is_small n ≡ true) wide small_is small })

  -- a printed header means its loop
  header_meant : (brackets seen count : ℕ) (i : Names) (name : List ℕ) (direction : Direction) (lower upper : AffineForm) → Knows p (length p.parameters) around seen count i → IsReadableHeader p around name lower upper
      → (number : ℕ) × Means (header_means brackets (header_tree (p.parameters ++ around) name direction lower upper) i) (record { name = number; down = falls direction; lower = widened (length p.parameters) (length around) lower; upper = widened (length p.parameters) (length around) upper }) (IsLoopNamed p around seen count i name number)
  unfolding header_means
  header_meant brackets seen count i name upward lower upper knows fits =
      let first = loop_named seen count i name knows fits.is_name fits.is_other fits.is_new in
      let j : Names = first.1.names in
      let variables : KnowsVariables j p.parameters around = knows-variables p around seen j is loops first.1.so.knows.0 in
      let low = form_means brackets j p.parameters around lower variables fits.lower_small in
      let high = form_means brackets j p.parameters around upper variables fits.upper_small in (
        first.0,
        record {
          names = j;
          is = means_then (mean.loop_name name i) _ first.1.is (means_then (affine_means brackets _ j) _ low.1 (means_then (affine_means brackets _ j) _ high.1
              (means_given _ _ j (kept_form upper fits.upper_small) refl)));
          so = first.1.so;
        },
      )
  header_meant brackets seen count i name downward lower upper knows fits =
      let first = loop_named seen count i name knows fits.is_name fits.is_other fits.is_new in
      let j : Names = first.1.names in
      let variables : KnowsVariables j p.parameters around = knows-variables p around seen j is loops first.1.so.knows.0 in
      let low = form_means brackets j p.parameters around lower variables fits.lower_small in
      let high = form_means brackets j p.parameters around upper variables fits.upper_small in (
        first.0,
        record {
          names = j;
          is = means_then (mean.loop_name name i) _ first.1.is (means_then (affine_means brackets _ j) _ high.1 (means_then (affine_means brackets _ j) _ low.1
              (means_given _ _ j (kept_form lower fits.lower_small) refl)));
          so = first.1.so;
        },
      )

-- ---- numbers of statements

-- numbers that rise by one, split
pub split_numbers : (first : ℕ) (xs ys : List ℕ) → xs ++ ys ≡ range_with_len first (length (xs ++ ys)) → (xs ≡ range_with_len first (length xs)) × (ys ≡ range_with_len (first + length xs) (length ys))
split_numbers first [] ys e = let none : first ≡ first + 0 = omega arith in (refl, e ∙ ap (λ n. range_with_len n (length ys)) none)
split_numbers first (x ∷ xs) ys e =
    let here : x ≡ first = cc in
    let behind : xs ++ ys ≡ range_with_len (first + 1) (length (xs ++ ys)) = cc in
    let rest = split_numbers (first + 1) xs ys behind in
    let more : first + 1 + length xs ≡ first + suc (length xs) = omega arith in
    (ap (λ n. n ∷ xs) here ∙ ap (λ ns. first ∷ ns) rest.0, rest.1 ∙ ap (λ n. range_with_len n (length ys)) more)

-- ---- items and rows

-- the items of a row
abbrev pub row_list : Row → List Item
row_list done = []
row_list (next item row) = item ∷ row_list row

-- they are the row again
pub row_back : (row : Row) → row_from (row_list row) ≡ row
row_back done = refl
row_back (next item row) = ap (next item) (row_back row)

-- one item more means one item more
meant_more : (names : List (List ℕ)) (parameters depth start : ℕ) (items : ReadItems) (t : ReadItem)
    → items_meant names parameters depth start (with_item items t) ≡ items_meant names parameters depth start items ++ item_meant names parameters depth (start + statement_count items) t ∷ []
meant_more names parameters depth start read.done t = let none : start ≡ start + 0 = omega arith in ap (λ n. item_meant names parameters depth n t ∷ []) none
meant_more names parameters depth start (read.next i items) t =
    let sum : start + item_count i + statement_count items ≡ start + (item_count i + statement_count items) = omega arith in
    ap (λ l. item_meant names parameters depth start i ∷ l) (meant_more names parameters depth (start + item_count i) items t ∙ ap (λ n. items_meant names parameters depth (start + item_count i) items ++ item_meant names parameters depth n t ∷ []) sum)

-- its statements stand behind the others
statements_more : (parameters depth : ℕ) (items : ReadItems) (t : ReadItem) → statements_in parameters depth (with_item items t) ≡ statements_in parameters depth items ++ statements_in_item parameters depth t
statements_more parameters depth read.done t = append-nil (statements_in_item parameters depth t)
statements_more parameters depth (read.next i items) t =
    ap (λ l. statements_in_item parameters depth i ++ l) (statements_more parameters depth items t) ∙ sym (append_assoc (statements_in_item parameters depth i) (statements_in parameters depth items) (statements_in_item parameters depth t))

-- Printed items, whose statements have these numbers, mean themselves, behind what was meant before.
pub record AreMeant (p : AffineProgram) (around : List (List ℕ)) (seen first : ℕ) (numbers : List ℕ) (i : Names) (before after : ReadItems) (printed : List Item) (j : Names) : Type 0 where
  pub knows : Knows p (length p.parameters) around seen (first + length numbers) j
  pub names : Extends i.names j.names
  pub count : statement_count after ≡ statement_count before + length numbers
  pub same : (longer : List (List ℕ)) (start : ℕ) → Extends j.names longer → start + statement_count before ≡ first
      → items_meant longer (length p.parameters) (length around) start after ≡ items_meant longer (length p.parameters) (length around) start before ++ printed
  pub table : statements_in (length p.parameters) (length around) after ≡ statements_in (length p.parameters) (length around) before ++ map (statement_at p) numbers

module _ (p : AffineProgram) (is : HasRoles p) where
  -- a loop more around
  loops_more : (around : List (List ℕ)) (name : List ℕ) (lower upper : AffineForm) → AreLoops p around → IsReadableHeader p around name lower upper → AreLoops p (around ++ name ∷ [])
  loops_more around name lower upper loops fits = record {
    names = All-append IsName around (name ∷ []) loops.names (fits.is_name, tt);
    others = All-append (λ n. role p n ≡ other) around (name ∷ []) loops.others (fits.is_other, tt);
    deep = omega (arith, fits.depth, length-append around (name ∷ []));
  }

  mutual
    unfolding item_means items_means begin end with_kind

    -- a printed item means itself
    pub item_is_meant : (item : Item) (around : List (List ℕ)) (loops : AreLoops p around) (more room brackets guards seen first : ℕ) (before : ReadItems) (i : Names) → length around + more ≡ most_loops → room + guards ≡ most_guards → most_brackets ≤ brackets + length around + guards → Knows p (length p.parameters) around seen first i
        → first + length (item_statements item) ≤ most_statements → IsReadableItem p around guards seen item → ItemFits p (length p.parameters + length around) item → item_statements item ≡ range_with_len first (length (item_statements item))
        → (after : ReadItems) × Means (item_means more room brackets before (item_tree p (p.parameters ++ around) item) i) after (AreMeant p around (item_seen p seen item) first (item_statements item) i before after (item ∷ []))
    item_is_meant (assign number) around loops more room zero guards seen first before i depth rooms nested knows few fits over numbered = absurd (omega (arith, loops.deep))
    item_is_meant (assign number) around loops more room (suc zero) guards seen first before i depth rooms nested knows few fits over numbered = absurd (omega (arith, loops.deep))
    item_is_meant (assign number) around loops more room (suc (suc brackets)) guards seen first before i depth rooms nested knows few fits over numbered =
        let P : ℕ = length p.parameters in
        let D : ℕ = length around in
        let meant = statement_meant p around is loops brackets seen first before i (statement_at p number) (omega arith) knows fits in
        let here : number ≡ first = cc in
        let counts : suc first ≡ first + 1 = omega arith in
        let t : ReadItem = read.assign (widened_statement P D (statement_at p number)) in
        let same : narrowed_statement P D (widened_statement P D (statement_at p number)) ≡ statement_at p number =
        form_statement_back P D (statement_at p number) is.few_parameters loops.deep over.writes.subscripts
        (All-weaken (AccessFits p (P + D)) (λ a. AllByRecursion (IsOver (P + D)) a.subscripts) (statement_at p number).reads (λ a h. h.subscripts) over.reads) in (
          with_item before t,
          record {
            names = meant.names;
            is = meant.is;
            so = record {
              knows = subst (λ n. Knows p P around (statement_seen seen (statement_at p number)) n meant.names) counts meant.so.0;
              names = meant.so.1;
              count = count_more before t;
              same = λ longer start extends e. meant_more longer P D start before t ∙ ap (λ n. items_meant longer P D start before ++ assign n ∷ []) (e ∙ sym here);
              table = statements_more P D before t ∙ ap (λ s. statements_in P D before ++ s ∷ []) same;
            };
          },
        )
    item_is_meant (loop name direction lower upper body) around loops zero room brackets guards seen first before i depth rooms nested knows few fits over numbered = absurd (omega (arith, fits.0.depth))
    item_is_meant (loop name direction lower upper body) around loops (suc more) room zero guards seen first before i depth rooms nested knows few fits over numbered = absurd (omega (arith, rooms, nested, fits.0.depth))
    item_is_meant (loop name direction lower upper body) around loops (suc more) room (suc brackets) guards seen first before i depth rooms nested knows few fits over numbered =
        let P : ℕ = length p.parameters in
        let D : ℕ = length around in
        let inner : List (List ℕ) = around ++ name ∷ [] in
        let count : ℕ = first + length (row_statements body) in
        let deeper : length inner ≡ suc D = omega (arith, length-append around (name ∷ [])) in
        let inner_loops : AreLoops p inner = loops_more around name lower upper loops fits.0 in
        let head = header_meant p around is loops brackets seen first i name direction lower upper knows fits.0 in
        let j : Names = head.1.names in
        let known = head.1.so in
        let l : ReadHeader = record { name = head.0; down = falls direction; lower = widened P D lower; upper = widened P D upper } in
        let second : Names = changed l.name (OpenLoop D) j in
        let knows_second : Knows p (length p.parameters) inner seen first second = (knows_opened p is around name fits.0.is_other fits.0.is_new seen j.names j.kinds l.name known.knows.0 known.there known.closed, known.knows.1, known.knows.2, known.knows.3) in
        let at_depth : most_loops - 1 - more ≡ D = omega arith in
        let variables : suc (P + D) ≡ P + length inner = omega arith in
        let over_body : RowFits p (P + length inner) body = subst (λ n. RowFits p n body) variables over.2 in
        let rows = row_is_meant body inner inner_loops more room brackets guards seen first read.done second (omega arith) rooms (omega (arith, nested, deeper)) knows_second few fits.1 over_body numbered in
        let k : Names = rows.1.names in
        let t : ReadItem = read.loop l rows.0 in
        let last : Names = changed l.name ClosedLoop k in
        let place_k : place_of name k.names ≡ Some l.name = subst (λ ns. place_of name ns ≡ Some l.name) (sym rows.1.so.names.1) (place-more name j.names rows.1.so.names.0 l.name known.there) in
        let knows_last : Knows p (length p.parameters) around (row_seen p seen body) count last = (knows_closed p is around name fits.0.is_other fits.0.is_new (row_seen p seen body) k.names k.kinds l.name rows.1.so.knows.0 place_k, rows.1.so.knows.1, rows.1.so.knows.2, rows.1.so.knows.3) in
        let body_tree = row_tree p ((p.parameters ++ around) ++ name ∷ []) body in
        let body_is : items_means more room brackets read.done body_tree second ≡ Some (rows.0, k) = ap (λ ns. items_means more room brackets read.done (row_tree p ns body) second) (append_assoc p.parameters around (name ∷ [])) ∙ rows.1.is in (
          with_item before t,
          record {
            names = last;
            is = means_then (header_means brackets (header_tree (p.parameters ++ around) name direction lower upper) i) _ head.1.is
                (ap (λ d. mean.then_in (items_means more room brackets read.done body_tree (changed l.name (OpenLoop d) j)) (λ all. λ s. mean.then_in (end l.name s) (λ _. mean.pure (with_item before (read.loop l all))))) at_depth ∙ means_then (items_means more room brackets read.done body_tree second) _ body_is refl);
            so = record {
              knows = knows_last;
              names = extends_both i.names j.names k.names known.names rows.1.so.names;
              count = omega (arith, count_more before t, rows.1.so.count);
              same = λ longer start extends e.
                  let found : place_of name longer ≡ Some l.name = subst (λ ns. place_of name ns ≡ Some l.name) (sym extends.1) (place-more name k.names extends.0 l.name place_k) in
                  let name_is : slice_index_or longer l.name [] ≡ name = get_or_from_slice_get longer l.name name [] (place-get name longer l.name found) in
                  let low : narrowed P D (widened P D lower) ≡ lower = form_back P D lower is.few_parameters loops.deep over.0 in
                  let high : narrowed P D (widened P D upper) ≡ upper = form_back P D upper is.few_parameters loops.deep over.1 in
                  let none : first + 0 ≡ first = omega arith in
                  let inside : items_meant longer P (suc D) (start + statement_count before) rows.0 ≡ row_list body = ap (λ n. items_meant longer P (suc D) n rows.0) e ∙ ap (λ d. items_meant longer P d first rows.0) (sym deeper) ∙ rows.1.so.same longer first extends none in
                  meant_more longer P D start before t
                  ∙ ap (λ n. items_meant longer P D start before ++ loop n (direction_of (falls direction)) (narrowed P D (widened P D lower)) (narrowed P D (widened P D upper)) (row_from (items_meant longer P (suc D) (start + statement_count before) rows.0)) ∷ []) name_is
                  ∙ ap (λ f. items_meant longer P D start before ++ loop name (direction_of (falls direction)) f (narrowed P D (widened P D upper)) (row_from (items_meant longer P (suc D) (start + statement_count before) rows.0)) ∷ []) low
                  ∙ ap (λ f. items_meant longer P D start before ++ loop name (direction_of (falls direction)) lower f (row_from (items_meant longer P (suc D) (start + statement_count before) rows.0)) ∷ []) high
                  ∙ ap (λ r. items_meant longer P D start before ++ loop name (direction_of (falls direction)) lower upper r ∷ []) (ap row_from inside ∙ row_back body)
                  ∙ ap (λ d. items_meant longer P D start before ++ loop name d lower upper body ∷ []) (falls_back direction);
              table = statements_more P D before t ∙ ap (λ ss. statements_in P D before ++ ss) (ap (λ d. statements_in P d rows.0) (sym deeper) ∙ rows.1.so.table);
            };
          },
        )
    item_is_meant (guard [] body) around loops more room brackets guards seen first before i depth rooms nested knows few fits over numbered = absurd (omega (arith, fits.0.some))
    item_is_meant (guard (form ∷ forms) body) around loops more room zero guards seen first before i depth rooms nested knows few fits over numbered = absurd (omega (arith, rooms, nested, loops.deep))
    item_is_meant (guard (form ∷ forms) body) around loops more room (suc brackets) guards seen first before i depth rooms nested knows few fits over numbered =
        let P : ℕ = length p.parameters in
        let D : ℕ = length around in
        let conditions : List AffineForm = form ∷ forms in
        let rows : Rows = map (widened P D) conditions in
        let many : length rows ≡ length conditions = length-map conditions (widened P D) in
        let rows_left : ℕ = room - length rows in
        let names : List (List ℕ) = p.parameters ++ around in
        let variables : KnowsVariables i p.parameters around = knows-variables p around seen i is loops knows.0 in
        let meant = conditions_mean brackets room i p.parameters around variables form forms [] fits.0.small (omega (arith, rooms, fits.0.few)) in
        let inner = row_is_meant body around loops more rows_left brackets (guards + length conditions) seen first read.done i depth (omega (arith, many, rooms, fits.0.few)) (omega (arith, nested)) knows few fits.1 over.1 numbered in
        let t : ReadItem = read.guard rows inner.0 in (
          with_item before t,
          record {
            names = inner.1.names;
            is = means_then (compares_mean brackets room [] (conditions_tree names form forms) i) _ meant (means_then (items_means more rows_left brackets read.done (row_tree p names body) i) _ inner.1.is refl);
            so = record {
              knows = inner.1.so.knows;
              names = inner.1.so.names;
              count = omega (arith, count_more before t, inner.1.so.count);
              same = λ longer start extends e.
                  let none : first + 0 ≡ first = omega arith in
                  let inside : items_meant longer P D (start + statement_count before) inner.0 ≡ row_list body = ap (λ n. items_meant longer P D n inner.0) e ∙ inner.1.so.same longer first extends none in
                  meant_more longer P D start before t
                  ∙ ap (λ fs. items_meant longer P D start before ++ guard fs (row_from (items_meant longer P D (start + statement_count before) inner.0)) ∷ []) (forms_back P D conditions is.few_parameters loops.deep over.0)
                  ∙ ap (λ r. items_meant longer P D start before ++ guard conditions r ∷ []) (ap row_from inside ∙ row_back body);
              table = statements_more P D before t ∙ ap (λ ss. statements_in P D before ++ ss) inner.1.so.table;
            };
          },
        )

    -- a printed row means its items
    pub row_is_meant : (row : Row) (around : List (List ℕ)) (loops : AreLoops p around) (more room brackets guards seen first : ℕ) (before : ReadItems) (i : Names) → length around + more ≡ most_loops → room + guards ≡ most_guards → most_brackets ≤ brackets + length around + guards → Knows p (length p.parameters) around seen first i
        → first + length (row_statements row) ≤ most_statements → IsReadableRow p around guards seen row → RowFits p (length p.parameters + length around) row → row_statements row ≡ range_with_len first (length (row_statements row))
        → (after : ReadItems) × Means (items_means more room brackets before (row_tree p (p.parameters ++ around) row) i) after (AreMeant p around (row_seen p seen row) first (row_statements row) i before after (row_list row))
    row_is_meant done around loops more room brackets guards seen first before i depth rooms nested knows few fits over numbered =
        let counts : first ≡ first + 0 = omega arith in (
          before,
          record {
            names = i;
            is = refl;
            so = record {
              knows = subst (λ n. Knows p (length p.parameters) around seen n i) counts knows;
              names = extends_none i.names;
              count = omega arith;
              same = λ longer start extends e. sym (append-nil (items_meant longer (length p.parameters) (length around) start before));
              table = sym (append-nil (statements_in (length p.parameters) (length around) before));
            };
          },
        )
    row_is_meant (next item row) around loops more room brackets guards seen first before i depth rooms nested knows few fits over numbered =
        let P : ℕ = length p.parameters in
        let D : ℕ = length around in
        let both : length (item_statements item ++ row_statements row) ≡ length (item_statements item) + length (row_statements row) = length-append (item_statements item) (row_statements row) in
        let split = split_numbers first (item_statements item) (row_statements row) numbered in
        let middle : ℕ = first + length (item_statements item) in
        let one = item_is_meant item around loops more room brackets guards seen first before i depth rooms nested knows (omega arith) fits.0 over.0 split.0 in
        let j : Names = one.1.names in
        let rest = row_is_meant row around loops more room brackets guards (item_seen p seen item) middle one.0 j depth rooms nested one.1.so.knows (omega arith) fits.1 over.1 split.1 in
        let k : Names = rest.1.names in
        let counts : middle + length (row_statements row) ≡ first + length (item_statements item ++ row_statements row) = omega arith in (
          rest.0,
          record {
            names = k;
            is = means_then (item_means more room brackets before (item_tree p (p.parameters ++ around) item) i) _ one.1.is rest.1.is;
            so = record {
              knows = subst (λ n. Knows p (length p.parameters) around (row_seen p (item_seen p seen item) row) n k) counts rest.1.so.knows;
              names = extends_both i.names j.names k.names one.1.so.names rest.1.so.names;
              count = omega (arith, rest.1.so.count, one.1.so.count, both);
              same = λ longer start extends e.
                  let at_middle : start + statement_count one.0 ≡ middle = omega (arith, one.1.so.count, e) in
                  rest.1.so.same longer start extends at_middle ∙ ap (λ l. l ++ row_list row) (one.1.so.same longer start (extends_both j.names k.names longer rest.1.so.names extends) e)
                  ∙ append_assoc (items_meant longer P D start before) (item ∷ []) (row_list row);
              table = rest.1.so.table ∙ ap (λ l. l ++ map (statement_at p) (row_statements row)) one.1.so.table
                  ∙ append_assoc (statements_in P D before) (map (statement_at p) (item_statements item)) (map (statement_at p) (row_statements row))
                  ∙ ap (λ l. statements_in P D before ++ l) (sym (map-append (statement_at p) (item_statements item) (row_statements row)));
            };
          },
        )
