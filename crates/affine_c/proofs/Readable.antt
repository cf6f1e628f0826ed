-- The names of every program have roles, and its parts are printed so that their text can be read.
use Rattle.std.proofs.Common.{◌≡◌, refl, sym, ap, subst, ◌∙◌, ℕ, zero, suc, ◌+◌, ◌<◌, ◌≤◌, true, false, List, [], ◌∷◌, ◌++◌, length, map, take, drop, arith, length-append, drop-cons, ℤ}
use Rattle.std.specs.Prelude.{bytes_eq, Some, None, option_map, slice_get, slice_index_or, ◌||◌}
use Rattle.std.specs.List.{AllByRecursion, list_any, range_with_len}
use Rattle.std.proofs.lemmas.Bool.{or_parts}
use Rattle.std.proofs.lemmas.List.{length-map, drop_all}
use Rattle.std.proofs.lemmas.List.FromFn.{length-range_with_len}
use Rattle.std.proofs.lemmas.Option.{slice_get-map}
use Rattle.base_laws.proofs.Lists.{All-append, All-map, All-weaken, All-take, All-drop}
use Rattle.iolb_model.specs.Form.{AffineForm}
use Rattle.iolb_model.specs.Program.{Direction, Item, assign, loop, guard, Row, done, next, AffineProgram, statement_at, no_statement, AccessFits, ItemFits, RowFits, item_statements, row_statements}
use Rattle.iolb_model.specs.Program as program
use Rattle.iolb_model.specs.declared.limits.TheConstants.{READS, SUBSCRIPTS, NUMBER_SIZE}
use Rattle.c_tokens.specs.Names.{IsName}
use Rattle.affine_form.specs.Form.{IsSmallForm as IsSmallNumbers}
use Rattle.affine_program.specs.Limits.{IsStatementWithinLimits}
use Rattle.affine_program.specs.Parts.{ProgramParts, access_of, statement_of, array_of, meaning, IsProgram}
use Rattle.affine_program.specs.Printable.{AreDifferent, is_array_name, AreDifferentArrays, IsArrayName, IsOrdered, access_numbers, statement_numbers, IsPrintableHeader, IsPrintableGuard, IsPrintableItem, IsPrintableRow}
use Rattle.affine_program.specs.declared.statement.Statement.{Statement}
use Rattle.c_reading.specs.Numbers.{most_parameters, most_loops}
use Rattle.c_grammar.proofs.NameKinds.{place_of, bytes_same, All-get}
use Rattle.c_grammar.specs.Program.{Means}
use Rattle.affine_c.specs.Text.{program_text}
use Rattle.affine_c.proofs.WordsAre.{text_means_program}
use Rattle.affine_c.proofs.Roles.{padded, array, other, role_by, array_role, names_of, role, IsSmall, IsSmallForm, access_seen, accesses_seen, AreReadableAccesses, statement_seen, item_seen, row_seen, IsReadableHeader, IsReadableGuard, IsReadableItem, IsReadableRow, HasRoles}
use Rattle.affine_c.proofs.State.{among_differ}
use Rattle.affine_c.proofs.MeansItems.{split_numbers}

-- ---- roles

-- a name that isn't there has no place
place_absent : (name : List ℕ) (names : List (List ℕ)) → list_any (bytes_eq name) names ≡ false → place_of name names ≡ None
place_absent name [] h = refl
place_absent name (n ∷ names) h = let both = or_parts (bytes_eq name n) (list_any (bytes_eq name) names) h in let here : bytes_eq name n ≡ false = both.0 in rw here (ap (option_map suc) (place_absent name names both.1))

-- a name is at its place
place_there : (names : List (List ℕ)) (k : ℕ) (name : List ℕ) → AreDifferent names → slice_get names k ≡ Some name → place_of name names ≡ Some k
place_there [] k name d e = cc
place_there (n ∷ names) zero name d e =
    let same : n ≡ name = cc in
    let here : bytes_eq name n ≡ true = ap (bytes_eq name) same ∙ bytes_same name in
    rw here refl
place_there (n ∷ names) (suc k) name d e = let other : bytes_eq name n ≡ false = among_differ n names k name d.0 e in rw other (ap (option_map suc) (place_there names k name d.1 e))

-- an array's name is one of theirs
pub array_names : (name : List ℕ) (arrays : List program.Array) → is_array_name name arrays ≡ list_any (bytes_eq name) (names_of arrays)
array_names name [] = refl
array_names name (a ∷ arrays) = ap (λ b. bytes_eq name a.name || b) (array_names name arrays)

-- arrays that differ have names that do
names_different : (arrays : List program.Array) → AreDifferentArrays arrays → AreDifferent (names_of arrays)
names_different [] d = tt
names_different (a ∷ arrays) d = (sym (array_names a.name arrays) ∙ d.0, names_different arrays d.1)

-- ---- small rows

-- numbers with zeros behind them
small_padded : (k : ℕ) (ns : List ℤ) → AllByRecursion IsSmall ns → AllByRecursion IsSmall (padded k ns)
small_padded zero ns h = tt
small_padded (suc k) [] h = (omega arith, small_padded k [] tt)
small_padded (suc k) (n ∷ ns) h = (h.0, small_padded k ns h.1)

-- a small form has a small row
small_row : (parameters depth : ℕ) (form : AffineForm) → IsSmallNumbers NUMBER_SIZE form → IsSmallForm parameters depth form
small_row parameters depth form h =
    (h.1, All-append IsSmall (padded most_parameters (take parameters form.coefficients)) (padded most_loops (take depth (drop parameters form.coefficients))) (small_padded most_parameters _ (All-take IsSmall parameters form.coefficients h.0)) (small_padded most_loops _ (All-take IsSmall depth (drop parameters form.coefficients) (All-drop IsSmall parameters form.coefficients h.0))))

-- small forms have small rows
small_rows : (parameters depth : ℕ) (forms : List AffineForm) → AllByRecursion (IsSmallNumbers NUMBER_SIZE) forms → AllByRecursion (IsSmallForm parameters depth) forms
small_rows parameters depth forms h = All-weaken (IsSmallNumbers NUMBER_SIZE) (IsSmallForm parameters depth) forms (small_row parameters depth) h

-- ---- statements within their limits

-- a reference whose numbers are small
abbrev IsSmallAccess : program.Access → Type 0
IsSmallAccess a = AllByRecursion (IsSmallNumbers NUMBER_SIZE) a.subscripts

-- a statement whose numbers are small, and whose reads are few
record IsSmallStatement (s : program.Statement) : Type 0 where
  pub writes : IsSmallAccess s.writes
  pub few : length s.reads ≤ READS
  pub reads : AllByRecursion IsSmallAccess s.reads

-- a statement within its limits
small_statement : (s : Statement) → IsStatementWithinLimits s → IsSmallStatement (statement_of s)
small_statement s h = record { writes = h.written; few = omega (arith, h.reads, length-map s.reads.items access_of); reads = All-map IsSmallAccess access_of s.reads.items h.read }

-- the statement at a number
small_at : (ss : List Statement) (n : ℕ) → AllByRecursion IsStatementWithinLimits ss → n < length ss → IsSmallStatement (slice_index_or (map statement_of ss) n no_statement)
small_at [] n h below = absurd (omega arith)
small_at (s ∷ ss) zero h below = small_statement s h.0
small_at (s ∷ ss) (suc n) h below = small_at ss n h.1 (omega arith)

-- ---- items and rows

-- references, of which each is to an array that was seen or the next one
accesses_readable : (p : AffineProgram) (depth : ℕ) (accesses : List program.Access) (seen last : ℕ) (rest : List ℕ) → AllByRecursion (AccessFits p (length p.parameters + depth)) accesses → AllByRecursion IsSmallAccess accesses
    → IsOrdered seen (access_numbers accesses ++ rest) last → AreReadableAccesses p depth seen accesses × IsOrdered (accesses_seen seen accesses) rest last
accesses_readable p depth [] seen last rest fits small order = (tt, order)
accesses_readable p depth (a ∷ accesses) seen last rest fits small order =
    let more = accesses_readable p depth accesses (access_seen seen a) last rest fits.1 small.1 order.1 in
    ((record { seen_first = order.0; rank = fits.0.rank; subscripts = small_rows (length p.parameters) depth a.subscripts small.0 }, more.0), more.1)

module _ (parts : ProgramParts) (is : IsProgram parts) where
  -- the program
  abbrev whole : AffineProgram
  whole = meaning parts

  -- an array's name stands for it
  array_is : (k : ℕ) (a : program.Array) → slice_get whole.arrays k ≡ Some a → role whole a.name ≡ array k
  array_is k a e =
      let named : IsArrayName whole.parameters a = All-get (IsArrayName whole.parameters) whole.arrays k a is.printable.arrays e in
      ap (λ o. role_by o (place_of a.name (names_of whole.arrays))) (place_absent a.name whole.parameters named.1)
      ∙ ap array_role (place_there (names_of whole.arrays) k a.name (names_different whole.arrays is.printable.different_arrays) (slice_get-map (λ (b : program.Array). b.name) whole.arrays k ∙ ap (option_map (λ (b : program.Array). b.name)) e))

  -- a new name stands for nothing
  other_role : (name : List ℕ) → list_any (bytes_eq name) whole.parameters ≡ false → is_array_name name whole.arrays ≡ false → role whole name ≡ other
  other_role name no_parameter no_array =
      ap (λ o. role_by o (place_of name (names_of whole.arrays))) (place_absent name whole.parameters no_parameter)
      ∙ ap array_role (place_absent name (names_of whole.arrays) (sym (array_names name whole.arrays) ∙ no_array))

  -- a header is readable
  header_readable : (around : List (List ℕ)) (name : List ℕ) (lower upper : AffineForm) → IsPrintableHeader whole around name lower upper → IsReadableHeader whole around name lower upper
  header_readable around name lower upper h = record {
    depth = h.depth;
    is_name = h.is_name;
    is_other = other_role name h.no_parameter h.no_array;
    is_new = h.is_new;
    lower_small = small_row (length whole.parameters) (length around) lower h.lower_small;
    upper_small = small_row (length whole.parameters) (length around) upper h.upper_small;
  }

  -- a guard is readable
  guard_readable : (around : List (List ℕ)) (guards : ℕ) (rows : List AffineForm) → IsPrintableGuard guards rows → IsReadableGuard whole (length around) guards rows
  guard_readable around guards rows h = record { some = h.some; few = h.few; small = small_rows (length whole.parameters) (length around) rows h.small }

  -- what follows the statements up to this number is in order
  abbrev IsOrderedFrom : ℕ → ℕ → ℕ → Type 0
  IsOrderedFrom seen first last = IsOrdered seen (statement_numbers (drop first whole.statements)) last

  mutual
    -- an item is readable
    item_readable : (item : Item) (around : List (List ℕ)) (guards seen first last : ℕ) → IsPrintableItem whole around guards item → ItemFits whole (length whole.parameters + length around) item → item_statements item ≡ range_with_len first (length (item_statements item)) → IsOrderedFrom seen first last
        → IsReadableItem whole around guards seen item × IsOrderedFrom (item_seen whole seen item) (first + length (item_statements item)) last
    item_readable (assign number) around guards seen first last printable fits numbered order =
        let here : number ≡ first = cc in
        let s : program.Statement = statement_at whole number in
        let many : length whole.statements ≡ length parts.statements = length-map parts.statements statement_of in
        let small : IsSmallStatement s = small_at parts.statements number is.limits.each (omega (arith, fits.there, many)) in
        let front : drop first whole.statements ≡ s ∷ drop (suc first) whole.statements = ap (λ n. drop n whole.statements) (sym here) ∙ drop-cons whole.statements number no_statement (omega (arith, fits.there)) ∙ ap (λ n. s ∷ drop (suc n) whole.statements) here in
        let one : suc first ≡ first + 1 = omega arith in
        let split = accesses_readable whole (length around) (s.writes ∷ s.reads) seen last (statement_numbers (drop (suc first) whole.statements)) (fits.writes, fits.reads) (small.writes, small.reads) (subst (λ ss. IsOrdered seen (statement_numbers ss) last) front order) in
        (record { accesses = split.0; few = small.few }, subst (λ n. IsOrderedFrom (statement_seen seen s) n last) one split.1)
    item_readable (loop name direction lower upper body) around guards seen first last printable fits numbered order =
        let more : length (around ++ name ∷ []) ≡ suc (length around) = omega (arith, length-append around (name ∷ [])) in
        let variables : suc (length whole.parameters + length around) ≡ length whole.parameters + length (around ++ name ∷ []) = omega arith in
        let rows = row_readable body (around ++ name ∷ []) guards seen first last printable.1 (subst (λ n. RowFits whole n body) variables fits.2) numbered order in
        ((header_readable around name lower upper printable.0, rows.0), rows.1)
    item_readable (guard conditions body) around guards seen first last printable fits numbered order =
        let rows = row_readable body around (guards + length conditions) seen first last printable.1 fits.1 numbered order in
        ((guard_readable around guards conditions printable.0, rows.0), rows.1)

    -- a row is readable
    row_readable : (row : Row) (around : List (List ℕ)) (guards seen first last : ℕ) → IsPrintableRow whole around guards row → RowFits whole (length whole.parameters + length around) row → row_statements row ≡ range_with_len first (length (row_statements row)) → IsOrderedFrom seen first last
        → IsReadableRow whole around guards seen row × IsOrderedFrom (row_seen whole seen row) (first + length (row_statements row)) last
    row_readable done around guards seen first last printable fits numbered order = let none : first ≡ first + 0 = omega arith in (tt, subst (λ n. IsOrderedFrom seen n last) none order)
    row_readable (next item row) around guards seen first last printable fits numbered order =
        let split = split_numbers first (item_statements item) (row_statements row) numbered in
        let one = item_readable item around guards seen first last printable.0 fits.0 split.0 order in
        let rest = row_readable row around guards (item_seen whole seen item) (first + length (item_statements item)) last printable.1 fits.1 split.1 one.1 in
        let counts : first + length (item_statements item) + length (row_statements row) ≡ first + length (item_statements item ++ row_statements row) = omega (arith, length-append (item_statements item) (row_statements row)) in
        ((one.0, rest.0), subst (λ n. IsOrderedFrom (row_seen whole (item_seen whole seen item) row) n last) counts rest.1)

  -- an array's name and its rank
  ranked : (arrays : List (List ℕ × ℕ)) → AllByRecursion (IsArrayName whole.parameters) (map array_of arrays) → AllByRecursion (λ (a : List ℕ × ℕ). a.1 ≤ SUBSCRIPTS) arrays → AllByRecursion (λ (a : program.Array). IsName a.name × (a.rank ≤ SUBSCRIPTS)) (map array_of arrays)
  ranked [] h g = tt
  ranked (a ∷ arrays) h g = ((h.0.0, g.0), ranked arrays h.1 g.1)

  -- the names of a program have roles, and its parts are readable
  pub has_roles : HasRoles whole
  has_roles =
      let none : length whole.parameters ≡ length whole.parameters + 0 = omega arith in
      let statements : length whole.statements ≡ length parts.statements = length-map parts.statements statement_of in
      let many : length (row_statements whole.tree) ≡ length whole.statements = ap length is.well_formed.numbered ∙ length-range_with_len 0 (length whole.statements) in
      let tree = row_readable whole.tree [] 0 0 0 (length whole.arrays) is.printable.loops (subst (λ n. RowFits whole n whole.tree) none is.well_formed.tree) (is.well_formed.numbered ∙ ap (range_with_len 0) (sym many)) is.printable.order in
      let over : drop (0 + length (row_statements whole.tree)) whole.statements ≡ [] = drop_all (0 + length (row_statements whole.tree)) whole.statements (omega (arith, many)) in
      record {
        parameters = is.printable.parameters;
        few_parameters = is.limits.parameters;
        parameter_roles = λ k name e. ap (λ o. role_by o (place_of name (names_of whole.arrays))) (place_there whole.parameters k name is.printable.different e);
        arrays = ranked parts.arrays is.printable.arrays is.limits.ranks;
        few_arrays = omega (arith, is.limits.arrays, length-map parts.arrays array_of);
        array_roles = array_is;
        few_assumptions = is.limits.assumptions;
        some_assumptions = is.printable.some_assumptions;
        assumptions = small_rows (length whole.parameters) 0 whole.assumptions is.limits.assumed;
        few_statements = omega (arith, is.limits.statements, many, statements);
        tree = tree.0;
        seen = subst (λ ss. IsOrdered (row_seen whole 0 whole.tree) (statement_numbers ss) (length whole.arrays)) over tree.1;
      }

-- the text that prints a program means the program
pub printed_means : (parts : ProgramParts) (text : List ℕ) → IsProgram parts → text ≡ program_text (meaning parts) → Means text (meaning parts)
printed_means parts text is e = subst (λ t. Means t (meaning parts)) (sym e) (text_means_program (meaning parts) (has_roles parts is) is.well_formed)
