-- The program that a well-read text means is well formed, printable, and its loops are within the limits.
use Rattle.std.proofs.Common.{◌≡◌, refl, sym, ◌∙◌, ap, subst, ℕ, zero, suc, ◌+◌, ◌<◌, ◌≤◌, List, [], ◌∷◌, ◌++◌, map, length, drop, get_or, append_assoc, arith, length-append}
use Rattle.std.proofs.lemmas.List.{append-nil, length-map, length-drop, drop-drop, get_or-drop}
use Rattle.std.proofs.lemmas.Option.{slice_get-get_or}
use Rattle.std.specs.Prelude.{bytes_eq, true, false, Some, IsSomeAnd, slice_get, slice_index_or}
use Rattle.std.specs.List.{AllByRecursion, list_any, range_with_len}
use Rattle.base_laws.proofs.Lists.{All-append, All-weaken}
use Rattle.iolb_model.specs.Program.{Statement, AffineProgram, IsOver, AccessFits, StatementFits, ItemFits, RowFits, item_statements, row_statements, no_statement, IsWellFormed}
use Rattle.iolb_model.specs.declared.limits.TheConstants.{LOOPS, PARAMETERS}
use Rattle.c_tokens.specs.Names.{IsName}
use Rattle.c_reading.specs.Access.{Access as ReadAccess, Statement as ReadStatement}
use Rattle.c_reading.specs.declared.named.Kind.{Kind}
use Rattle.c_reading.specs.declared.named.Kind.TheVariants.{Parameter, OpenLoop, ClosedLoop}
use Rattle.c_reading.specs.Tree as read
use Rattle.c_reading.specs.Tree.{Item as ReadItem, Items as ReadItems}
use Rattle.c_reading.specs.Text.{Reading}
use Rattle.affine_program.specs.Parts.{array_of}
use Rattle.affine_program.specs.Printable.{AreDifferent, access_numbers, statement_numbers, IsOrdered, IsPrintableItem, IsPrintableRow, IsPrintable}
use Rattle.c_grammar.specs.Well.{IsAccessIn, IsStatementIn, IsItemIn, AreItemsIn, IsWellRead, parameters_of, arrays_of, numbers_of, item_numbers, items_numbers, IsLoop, IsNested, AreNested, item_count, statement_count}
use Rattle.affine_program.specs.Tree.{row_from}
use Rattle.c_grammar.specs.Program.{narrowed, narrowed_access, narrowed_statement, statements_in_item, statements_in, item_meant, items_meant, program_of}
use Rattle.std.proofs.Math.Seq.{drop-append_seam}
use Rattle.affine_c.specs.Built.{IsItemInside, AreItemsInside}
use Rattle.affine_c.proofs.Rows.{All-mapped, narrowed_over, narrowed_small, narrowed_all_small, narrowed_all_over}
use Rattle.affine_c.proofs.Among.{none_any, among, is_parameter, is_array, parameters-among, arrays-among, distinct-different, among_differs, among_all, among_none, Found, among_found, different_arrays, all_named}
use Rattle.affine_c.proofs.Roles.{names_of}
use Rattle.affine_c.proofs.Readable.{array_names}
use Rattle.c_grammar.proofs.NameKinds.{All-get}
use Rattle.c_grammar.proofs.Lists.{range_more}

-- ---- a statement

map_get : {X Y : Type 0} (f : X → Y) (P : Y → Type 0) (xs : List X) (k : ℕ) → IsSomeAnd (slice_get xs k) (λ x. P (f x)) → IsSomeAnd (slice_get (map f xs) k) P
map_get f P [] k h = absurd h
map_get f P (x ∷ xs) zero h = h
map_get f P (x ∷ xs) (suc k) h = map_get f P xs k h

access_fits : (r : Reading) (depth : ℕ) (a : ReadAccess) → length (parameters_of r) ≤ PARAMETERS → depth ≤ LOOPS → IsAccessIn r depth a → AccessFits (program_of r) (length (parameters_of r) + depth) (narrowed_access (length (parameters_of r)) depth a)
access_fits r depth a few inner is =
    let p = length (parameters_of r) in
    let many : length a.subscripts ≡ length (map (narrowed p depth) a.subscripts) = sym (length-map a.subscripts (narrowed p depth)) in
    record {
      rank = map_get array_of (λ array. length (map (narrowed p depth) a.subscripts) ≡ array.rank) (arrays_of r) a.array (subst (λ (n : ℕ). IsSomeAnd (slice_get (arrays_of r) a.array) (λ array. n ≡ array.1)) many is.rank);
      subscripts = narrowed_all_over p depth a.subscripts few inner is.rows;
    }

-- what stands at a place
pub at_front : {X : Type 0} (xs rest : List X) (k : ℕ) (x d : X) → drop k xs ≡ x ∷ rest → (k < length xs) × (slice_index_or xs k d ≡ x)
at_front {X} xs rest k x d e =
    let none : k + 0 ≡ k = omega arith in
    (omega (arith, length-drop k xs, ap (λ (l : List X). length l) e), sym (get_or-drop k xs 0 d ∙ ap (λ n. get_or xs n d) none) ∙ ap (λ (l : List X). get_or l 0 d) e)

statement_fits : (r : Reading) (depth number : ℕ) (s : ReadStatement) (rest : List Statement) → length (parameters_of r) ≤ PARAMETERS → depth ≤ LOOPS → IsStatementIn r depth s
    → drop number (program_of r).statements ≡ narrowed_statement (length (parameters_of r)) depth s ∷ rest → StatementFits (program_of r) (length (parameters_of r) + depth) number
statement_fits r depth number s rest few inner is e =
    let p = length (parameters_of r) in
    let front = at_front (program_of r).statements rest number (narrowed_statement p depth s) no_statement e in
    record {
      there = omega (arith, front.0);
      writes = subst (λ (t : Statement). AccessFits (program_of r) (p + depth) t.writes) (sym front.1) (access_fits r depth s.writes few inner is.writes);
      reads = subst (λ (t : Statement). AllByRecursion (AccessFits (program_of r) (p + depth)) t.reads) (sym front.1)
          (All-mapped (narrowed_access p depth) (AccessFits (program_of r) (p + depth)) (IsAccessIn r depth) (λ a fits. access_fits r depth a few inner fits) s.reads is.reads);
    }

-- ---- items inside guards

-- what is well read inside guards of so many rows fits inside any
mutual
  item_inside : (r : Reading) (depth guards : ℕ) (i : ReadItem) → IsItemIn r depth guards i → IsItemInside r depth i
  item_inside r depth guards (read.assign s) is = is
  item_inside r depth guards (read.loop h body) is = (is.0, is.1, is.2, is.3, items_inside r (suc depth) guards body is.4)
  item_inside r depth guards (read.guard rows body) is = (is.2, items_inside r depth (guards + length rows) body is.3)

  pub items_inside : (r : Reading) (depth guards : ℕ) (items : ReadItems) → AreItemsIn r depth guards items → AreItemsInside r depth items
  items_inside r depth guards read.done is = tt
  items_inside r depth guards (read.next i items) is = (item_inside r depth guards i is.0, items_inside r depth guards items is.1)

-- ---- the statements of items

-- as many as they count
mutual
  item_counted : (p depth : ℕ) (i : ReadItem) → length (statements_in_item p depth i) ≡ item_count i
  item_counted p depth (read.assign s) = refl
  item_counted p depth (read.loop h body) = statements_counted p (suc depth) body
  item_counted p depth (read.guard rows body) = statements_counted p depth body

  pub statements_counted : (p depth : ℕ) (items : ReadItems) → length (statements_in p depth items) ≡ statement_count items
  statements_counted p depth read.done = refl
  statements_counted p depth (read.next i items) =
      omega (arith, length-append (statements_in_item p depth i) (statements_in p depth items), item_counted p depth i, statements_counted p depth items)

-- the numbers of the arrays of a text's statements are those of its items
numbers_mapped : (p depth : ℕ) (accesses : List ReadAccess) → access_numbers (map (narrowed_access p depth) accesses) ≡ numbers_of accesses
numbers_mapped p depth [] = refl
numbers_mapped p depth (a ∷ accesses) = ap (λ ns. a.array ∷ ns) (numbers_mapped p depth accesses)

-- those of statements behind others
numbers_both : (xs ys : List Statement) → statement_numbers (xs ++ ys) ≡ statement_numbers xs ++ statement_numbers ys
numbers_both [] ys = refl
numbers_both (s ∷ xs) ys = ap (λ ns. s.writes.array ∷ ns) (ap (λ ns. access_numbers s.reads ++ ns) (numbers_both xs ys) ∙ sym (append_assoc (access_numbers s.reads) (statement_numbers xs) (statement_numbers ys)))

-- those of items
mutual
  item_numbers_are : (p depth : ℕ) (i : ReadItem) → statement_numbers (statements_in_item p depth i) ≡ item_numbers i
  item_numbers_are p depth (read.assign s) = ap (λ ns. s.writes.array ∷ ns) (append-nil (access_numbers (map (narrowed_access p depth) s.reads)) ∙ numbers_mapped p depth s.reads)
  item_numbers_are p depth (read.loop h body) = numbers_are p (suc depth) body
  item_numbers_are p depth (read.guard rows body) = numbers_are p depth body

  numbers_are : (p depth : ℕ) (items : ReadItems) → statement_numbers (statements_in p depth items) ≡ items_numbers items
  numbers_are p depth read.done = refl
  numbers_are p depth (read.next i items) =
      numbers_both (statements_in_item p depth i) (statements_in p depth items) ∙ ap (λ ns. ns ++ statement_numbers (statements_in p depth items)) (item_numbers_are p depth i) ∙ ap (λ ns. item_numbers i ++ ns) (numbers_are p depth items)

-- what is left behind the first
left_behind : {X : Type 0} (xs first rest : List X) (k : ℕ) → drop k xs ≡ first ++ rest → drop (k + length first) xs ≡ rest
left_behind xs first rest k e = sym (drop-drop (length first) k xs) ∙ ap (drop (length first)) e ∙ drop-append_seam first rest

-- ---- items and rows

-- a loop's name is neither a parameter nor an array, and an array's is no parameter
loop_no_parameter : (k : Kind) → IsLoop k → (is_parameter k ≡ false) × (is_array k ≡ false)
loop_no_parameter (OpenLoop depth) is = (refl, refl)
loop_no_parameter ClosedLoop is = (refl, refl)
loop_no_parameter _ is = absurd is

-- an array is no parameter
array_no_parameter : (k : Kind) → is_array k ≡ true → is_parameter k ≡ false
array_no_parameter (Parameter k) e = cc
array_no_parameter _ e = refl

module _ (r : Reading) (well : IsWellRead r) where
  -- the program
  abbrev program : AffineProgram
  program = program_of r

  -- its parameters
  abbrev count : ℕ
  count = length (parameters_of r)

  -- ---- names

  -- the names differ
  differ : AreDifferent r.names
  differ = distinct-different r.names well.distinct

  -- the parameters are the names of their kind
  parameters_are : program.parameters ≡ among is_parameter r.names r.kinds
  parameters_are = parameters-among r.names r.kinds

  -- the arrays' names are those of their kind
  arrays_are : names_of program.arrays ≡ among is_array r.names r.kinds
  arrays_are = arrays-among r.names r.kinds

  -- the names of the loops around are those of open loops
  abbrev IsAround : List ℕ → List ℕ → Type 0
  IsAround stack name = (at : ℕ) × (k : ℕ) × (slice_get r.names at ≡ Some name) × (slice_get stack k ≡ Some at)

  -- no loop around has the name of one that begins
  none_around : (stack : List ℕ) (at : ℕ) (name : List ℕ) (around : List (List ℕ)) → AllByRecursion (IsAround stack) around → AllByRecursion (λ n. n ≡ at → ⊥) stack → slice_get r.names at ≡ Some name → list_any (bytes_eq name) around ≡ false
  none_around stack at name around h apart e = none_any name around (λ k there.
      let open_loop = All-get (IsAround stack) around k name h there in
      All-get (λ m. m ≡ at → ⊥) stack open_loop.1 open_loop.0 apart open_loop.3 (well.distinct open_loop.0 at name open_loop.2 e))

  -- ---- items and rows

  -- an item fits, is printable, and has the numbers of so many statements
  pub record IsFine (around : List (List ℕ)) (depth guards number : ℕ) (i : ReadItem) : Type 0 where
    pub fits : ItemFits program (count + depth) (item_meant r.names count depth number i)
    pub printable : IsPrintableItem program around guards (item_meant r.names count depth number i)
    pub numbers : item_statements (item_meant r.names count depth number i) ≡ range_with_len number (item_count i)

  -- a row
  pub record AreFine (around : List (List ℕ)) (depth guards number : ℕ) (items : ReadItems) : Type 0 where
    pub fits : RowFits program (count + depth) (row_from (items_meant r.names count depth number items))
    pub printable : IsPrintableRow program around guards (row_from (items_meant r.names count depth number items))
    pub numbers : row_statements (row_from (items_meant r.names count depth number items)) ≡ range_with_len number (statement_count items)

  mutual
    item_fine : (around : List (List ℕ)) (stack : List ℕ) (depth guards number : ℕ) (i : ReadItem) (rest : List Statement) → length around ≡ depth → depth ≤ LOOPS → AllByRecursion (IsAround stack) around → IsItemIn r depth guards i → IsNested r.kinds stack i
        → drop number program.statements ≡ statements_in_item count depth i ++ rest → IsFine around depth guards number i
    item_fine around stack depth guards number (read.assign s) rest e inner names is nested table = record { fits = statement_fits r depth number s rest well.parameters inner is table; printable = tt; numbers = refl }
    item_fine around stack depth guards number (read.loop h body) rest e inner names is nested table =
        let name : List ℕ = slice_index_or r.names h.name [] in
        let there : slice_get r.names h.name ≡ Some name = slice_get-get_or r.names h.name [] is.0 in
        let kind_of = nested.0 in
        let neither = loop_no_parameter kind_of.0 kind_of.2 in
        let inside : AllByRecursion (IsAround (h.name ∷ stack)) (around ++ name ∷ []) = All-append (IsAround (h.name ∷ stack)) around (name ∷ []) (All-weaken (IsAround stack) (IsAround (h.name ∷ stack)) around (λ n i. (i.0, suc i.1, i.2, i.3)) names) ((h.name, 0, there, refl), tt) in
        let rows = items_fine (around ++ name ∷ []) (h.name ∷ stack) (suc depth) guards number body rest (omega (arith, e, length-append around (name ∷ []))) (omega (arith, is.1)) inside is.4 nested.2 table in
        let one_more : count + suc depth ≡ suc (count + depth) = omega arith in
        record {
          fits = (
            narrowed_over count depth h.lower well.parameters inner is.2,
            narrowed_over count depth h.upper well.parameters inner is.3,
            subst (λ (n : ℕ). RowFits program n (row_from (items_meant r.names count (suc depth) number body))) one_more rows.fits,
          );
          printable = (
            record {
              depth = omega (arith, e, is.1);
              is_name = All-get IsName r.names h.name name well.names there;
              no_parameter = ap (list_any (bytes_eq name)) parameters_are ∙ among_none is_parameter r.names r.kinds h.name name kind_of.0 differ there kind_of.1 neither.0;
              no_array = array_names name program.arrays ∙ ap (list_any (bytes_eq name)) arrays_are ∙ among_none is_array r.names r.kinds h.name name kind_of.0 differ there kind_of.1 neither.1;
              is_new = none_around stack h.name name around names nested.1 there;
              lower_small = narrowed_small count depth h.lower is.2;
              upper_small = narrowed_small count depth h.upper is.3;
            },
            rows.printable,
          );
          numbers = rows.numbers;
        }
    item_fine around stack depth guards number (read.guard conditions body) rest e inner names is nested table =
        let rows = items_fine around stack depth (guards + length conditions) number body rest e inner names is.3 nested table in
        let many : length (map (narrowed count depth) conditions) ≡ length conditions = length-map conditions (narrowed count depth) in
        let body_row = row_from (items_meant r.names count depth number body) in
        record {
          fits = (narrowed_all_over count depth conditions well.parameters inner is.2, rows.fits);
          printable = (
            record { some = omega (arith, many, is.0); few = omega (arith, many, is.1); small = narrowed_all_small count depth conditions is.2 },
            subst (λ (n : ℕ). IsPrintableRow program around n body_row) (ap (λ (n : ℕ). guards + n) (sym many)) rows.printable,
          );
          numbers = rows.numbers;
        }

    items_fine : (around : List (List ℕ)) (stack : List ℕ) (depth guards number : ℕ) (items : ReadItems) (rest : List Statement) → length around ≡ depth → depth ≤ LOOPS → AllByRecursion (IsAround stack) around → AreItemsIn r depth guards items → AreNested r.kinds stack items
        → drop number program.statements ≡ statements_in count depth items ++ rest → AreFine around depth guards number items
    items_fine around stack depth guards number read.done rest e inner names is nested table = record { fits = tt; printable = tt; numbers = refl }
    items_fine around stack depth guards number (read.next i items) rest e inner names is nested table =
        let split : drop number program.statements ≡ statements_in_item count depth i ++ (statements_in count depth items ++ rest) = table ∙ append_assoc (statements_in_item count depth i) (statements_in count depth items) rest in
        let first = item_fine around stack depth guards number i (statements_in count depth items ++ rest) e inner names is.0 nested.0 split in
        let behind : drop (number + item_count i) program.statements ≡ statements_in count depth items ++ rest =
        ap (λ (n : ℕ). drop (number + n) program.statements) (sym (item_counted count depth i)) ∙ left_behind program.statements (statements_in_item count depth i) (statements_in count depth items ++ rest) number split in
        let others = items_fine around stack depth guards (number + item_count i) items rest e inner names is.1 nested.1 behind in
        let items_row = row_from (items_meant r.names count depth (number + item_count i) items) in
        record {
          fits = (first.fits, others.fits);
          printable = (first.printable, others.printable);
          numbers = ap (λ (ns : List ℕ). ns ++ row_statements items_row) first.numbers ∙ ap (λ (ns : List ℕ). range_with_len number (item_count i) ++ ns) others.numbers ∙ range_more number (item_count i) (statement_count items);
        }

-- ---- whole programs

-- a well-read text's program is well formed, and printable
pub program_fits : (r : Reading) → IsWellRead r → IsWellFormed (program_of r) × IsPrintable (program_of r)
program_fits r well =
    let p = length (parameters_of r) in
    let program : AffineProgram = program_of r in
    let differs = differ r well in
    let fine = items_fine r well [] [] 0 0 0 r.items [] refl (omega arith) tt well.items well.nested (sym (append-nil (statements_in p 0 r.items))) in
    let none : p + 0 ≡ p = omega arith in
    let found : (k : ℕ) (name : List ℕ) → slice_get (names_of program.arrays) k ≡ Some name → IsName name × (list_any (bytes_eq name) program.parameters ≡ false) =
    λ (k : ℕ) (name : List ℕ) (e : slice_get (names_of program.arrays) k ≡ Some name).
    let f : Found is_array r.names r.kinds name = among_found is_array r.names r.kinds k name (ap (λ ns. slice_get ns k) (sym (arrays_are r well)) ∙ e) in
    (All-get IsName r.names f.at name well.names f.name_is, ap (list_any (bytes_eq name)) (parameters_are r well) ∙ among_none is_parameter r.names r.kinds f.at name f.kind differs f.name_is f.kind_is (array_no_parameter f.kind f.so)) in
    let as_many : length program.assumptions ≡ length r.assumptions = length-map r.assumptions (narrowed p 0) in (
      record {
        numbered = fine.numbers ∙ ap (range_with_len 0) (sym (statements_counted p 0 r.items));
        assumptions = subst (λ (n : ℕ). AllByRecursion (IsOver n) program.assumptions) none (narrowed_all_over p 0 r.assumptions well.parameters (omega arith) well.assumptions);
        tree = subst (λ (n : ℕ). RowFits program n program.tree) none fine.fits;
      },
      record {
        parameters = subst (AllByRecursion IsName) (sym (parameters_are r well)) (among_all IsName is_parameter r.names r.kinds well.names);
        different = subst AreDifferent (sym (parameters_are r well)) (among_differs is_parameter r.names r.kinds differs);
        arrays = all_named (λ name. IsName name × (list_any (bytes_eq name) program.parameters ≡ false)) program.arrays found;
        different_arrays = different_arrays program.arrays (subst AreDifferent (sym (arrays_are r well)) (among_differs is_array r.names r.kinds differs));
        some_assumptions = λ some. (let there = well.some_assumptions some in omega (arith, there, as_many));
        order = subst (λ ns. IsOrdered 0 ns (length program.arrays)) (sym (numbers_are p 0 r.items)) (subst (λ n. IsOrdered 0 (items_numbers r.items) n) (sym (length-map (arrays_of r) array_of)) well.order);
        loops = fine.printable;
      },
    )
