-- What is made of a reading is a program, and the one that it says, whose statements have short ways to them.
use Rattle.std.proofs.Common.{◌≡◌, sym, subst, ◌≤◌, ◌<◌, List, [], ◌∷◌, length, map, arith, ℕ, suc, ◌+◌, ◌++◌, length-append, ◌∙◌, ap}
use Rattle.std.specs.Prelude.{Option, Some, IsSomeAnd, ◌==◌, if◌then◌else◌, Bool, true, false, None, option_map, unwrap_or, pos, replicate, ◌-◌}
use Rattle.std.specs.List.{AllByRecursion, enumerate_from}
use Rattle.std.proofs.lemmas.List.{length-map}
use Rattle.iolb_model.specs.Form.{AffineForm}
use Rattle.iolb_model.specs.Path.{PathStep, bounded, guarded, bounds_on, guards_on, first_of, item_path, row_path}
use Rattle.affine_form.specs.Form.{variables, IsSmall, IsSmallForm}
use Rattle.affine_form.specs.Rows.{widened}
use Rattle.affine_c.specs.Built.{AreSmallBounds, gathered, AreShort, IsShortWay, HasShortWays, AreRowsOver, StandsIn, RunsIn, ArePlaced}
use Rattle.iolb_model.specs.declared.limits.TheConstants.{LOOPS, GUARDS, NUMBER_SIZE, ARRAYS, PARAMETERS, SUBSCRIPTS}
use Rattle.iolb_model.specs.Program.{Item, assign, loop, guard, Row, done, next, AffineProgram, Statement as ModelStatement, IsOver, IsWellFormed}
use Rattle.execution_laws.proofs.Domains.{way-there}
use Rattle.c_reading.specs.Text.{Reading}
use Rattle.affine_program.specs.Printable.{IsPrintableItem, IsPrintableRow, IsPrintable}
use Rattle.c_grammar.specs.Well.{IsWellRead, statement_count, parameters_of, arrays_of, IsAccessIn}
use Rattle.c_grammar.specs.Program.{narrowed, statements_in, items_meant, program_of}
use Rattle.affine_c.proofs.TreeFits.{statements_counted, program_fits}
use Rattle.affine_form.specs.System.{AffineSystem}
use Rattle.affine_program.specs.Limits.{IsStatementWithinLimits}
use Rattle.affine_program.proofs.Bounds.{PathFits, path-fits}
use Rattle.affine_program.specs.Parts.{ProgramParts, StandOn, meaning, statement_of, array_of, IsProgram}
use Rattle.affine_program.specs.Tree.{item_of, row_from, row_of}
use Rattle.affine_c.proofs.Rows.{narrowed_all_small}
use Rattle.base_laws.proofs.Lists.{All-append, All-map, All-push, All-replicate, All-weaken}
use Rattle.c_reading.specs.Access.{Access, Statement as ReadStatement}
use Rattle.c_reading.specs.Tree as read
use Rattle.c_reading.specs.declared.tree.Item.TheVariants.{Assign, rolls-Assign}
use Rattle.c_reading.specs.declared.tree.Item.TheOpen.{Assign as assign_layer}
use Rattle.c_reading.specs.declared.tree.Item.TheFolds.{fold-roll-Item}
use Rattle.affine_program.specs.declared.statement.Statement.{Statement}

placed_push : {X : Type 0} (P : ℕ × X → Type 0) (first : ℕ) (xs : List X) (x : X) → AllByRecursion P (enumerate_from first xs) → P (first + length xs, x) → AllByRecursion P (enumerate_from first (xs ++ x ∷ []))
placed_push P first [] x h p = (subst (λ (n : ℕ). P (n, x)) (omega arith) p, tt)
placed_push P first (y ∷ xs) x h p = (h.0, placed_push P (first + 1) xs x h.1 (subst (λ (n : ℕ). P (n, x)) (omega arith) p))

-- the rows of references
pub rows_there : (reading : Reading) (depth : ℕ) (accesses : List Access) → AllByRecursion (IsAccessIn reading depth) accesses → AllByRecursion (AreRowsOver (length (parameters_of reading)) depth) accesses
rows_there reading depth accesses h = All-weaken (IsAccessIn reading depth) (AreRowsOver (length (parameters_of reading)) depth) accesses (λ a is. is.rows) h

-- a statement more stands in the tree
pub placed_more : (parameters : ℕ) (tree : Row) (made new : List Statement) (one : Statement) → ArePlaced parameters tree made → new ≡ made ++ one ∷ [] → StandsIn parameters tree (length made, one) → RunsIn tree (length made, one) → IsStatementWithinLimits one
    → ArePlaced parameters tree new
placed_more parameters tree made new one h grown stands runs within = subst (ArePlaced parameters tree) (sym grown) (record {
  ways = placed_push (StandsIn parameters tree) 0 made one h.ways (subst (λ (n : ℕ). StandsIn parameters tree (n, one)) (omega arith) stands);
  directions = placed_push (RunsIn tree) 0 made one h.directions (subst (λ (n : ℕ). RunsIn tree (n, one)) (omega arith) runs);
  limits = All-push IsStatementWithinLimits made one h.limits within;
})

-- ---- ways and programs

-- what was gathered on a way that is there
pub gathered-short : (parameters : ℕ) (bounds : List (AffineForm × AffineForm)) (rows : List AffineForm) (way : Option (List PathStep)) → Some (bounds, rows) ≡ option_map gathered way → IsSomeAnd way (IsShortWay parameters)
    → AreShort parameters bounds rows
gathered-short parameters bounds rows None e h = absurd h
gathered-short parameters bounds rows (Some path) e h =
    let same : gathered path ≡ (bounds, rows) = (let f : Some (bounds, rows) ≡ Some (gathered path) = e in cc) in
    let first : bounds_on path ≡ bounds = ap (λ (g : List (AffineForm × AffineForm) × List AffineForm). g.0) same in
    let second : guards_on path ≡ rows = ap (λ (g : List (AffineForm × AffineForm) × List AffineForm). g.1) same in
    subst (λ (bs : List (AffineForm × AffineForm)). AreShort parameters bs rows) first (subst (AreShort parameters (bounds_on path)) second h)

-- small forms stay small where they are read over more variables
widened-small : (vars : ℕ) (form : AffineForm) → IsSmallForm NUMBER_SIZE form → IsSmallForm NUMBER_SIZE (widened vars form)
widened-small vars form h =
    let more : ℕ = vars - length form.coefficients in
    (All-append (IsSmall NUMBER_SIZE) form.coefficients (replicate more (pos 0)) h.0 (All-replicate (IsSmall NUMBER_SIZE) more (pos 0) (omega arith)), h.1)

pub widened-all_small : (vars : ℕ) (forms : List AffineForm) → AllByRecursion (IsSmallForm NUMBER_SIZE) forms → AllByRecursion (IsSmallForm NUMBER_SIZE) (map (widened vars) forms)
widened-all_small vars forms h = All-map (IsSmallForm NUMBER_SIZE) (widened vars) forms (All-weaken (IsSmallForm NUMBER_SIZE) (λ f. IsSmallForm NUMBER_SIZE (widened vars f)) forms (widened-small vars) h)

pub same_length : {X Y Z : Type 0} (f : X → Z) (g : Y → Z) (xs : List X) (ys : List Y) → map f xs ≡ map g ys → length xs ≡ length ys
same_length f g xs ys e = omega (arith, length-map xs f, length-map ys g, lengths) where
  lengths : length (map f xs) ≡ length (map g ys)
  lengths = cc

-- the way goes on inside so many loops and guards of so many rows through few of both, with small bounds and rows
record IsShortFrom (depth before : ℕ) (path : List PathStep) : Type 0 where
  pub few_bounds : depth + length (bounds_on path) ≤ LOOPS
  pub small_bounds : AllByRecursion AreSmallBounds (bounds_on path)
  pub few_rows : before + length (guards_on path) ≤ GUARDS
  pub small_rows : AllByRecursion (IsSmallForm NUMBER_SIZE) (guards_on path)

-- there is a way
abbrev IsThere : Option (List PathStep) → Type 0
IsThere way = IsSomeAnd way (λ path. Unit {0})

mutual
  item_short : (p : AffineProgram) (around : List (List ℕ)) (guards : ℕ) (item : Item) (s : ℕ) → length around ≤ LOOPS → guards ≤ GUARDS → IsPrintableItem p around guards item → IsThere (item_path item s) → IsSomeAnd (item_path item s) (IsShortFrom (length around) guards)
  item_short p around guards (assign n) s inner few fits h = at_statement (n == s) h where
    at_statement : (b : Bool) → IsThere (if b then Some [] else None) → IsSomeAnd {T = List PathStep} (if b then Some [] else None) (IsShortFrom (length around) guards)
    at_statement true h = record { few_bounds = omega (arith, inner); small_bounds = tt; few_rows = omega (arith, few); small_rows = tt }
    at_statement false h = absurd h
  item_short p around guards (loop name direction lower upper body) s inner few fits h =
      let more : length (around ++ name ∷ []) ≡ suc (length around) = omega (arith, length-append around (name ∷ [])) in
      longer more (row_path body s) (row_short p (around ++ name ∷ []) guards body s (omega (arith, more, fits.0.depth)) few fits.1 (inside (row_path body s) h)) where
        inside : (o : Option (List PathStep)) → IsThere (option_map (λ path. bounded lower upper ∷ path) o) → IsThere o
        inside None h = h
        inside (Some path) h = h

        longer : length (around ++ name ∷ []) ≡ suc (length around) → (o : Option (List PathStep)) → IsSomeAnd o (IsShortFrom (length (around ++ name ∷ [])) guards) → IsSomeAnd (option_map (λ path. bounded lower upper ∷ path) o) (IsShortFrom (length around) guards)
        longer e None h = h
        longer e (Some path) h = record { few_bounds = omega (arith, h.few_bounds, e); small_bounds = ((fits.0.lower_small, fits.0.upper_small), h.small_bounds); few_rows = h.few_rows; small_rows = h.small_rows }
  item_short p around guards (guard rows body) s inner few fits h =
      longer (row_path body s) (row_short p around (guards + length rows) body s inner fits.0.few fits.1 (inside (row_path body s) h)) where
        inside : (o : Option (List PathStep)) → IsThere (option_map (λ path. guarded rows ∷ path) o) → IsThere o
        inside None h = h
        inside (Some path) h = h

        longer : (o : Option (List PathStep)) → IsSomeAnd o (IsShortFrom (length around) (guards + length rows)) → IsSomeAnd (option_map (λ path. guarded rows ∷ path) o) (IsShortFrom (length around) guards)
        longer None h = h
        longer (Some path) h = record {
          few_bounds = h.few_bounds;
          small_bounds = h.small_bounds;
          few_rows = omega (arith, h.few_rows, length-append rows (guards_on path));
          small_rows = All-append (IsSmallForm NUMBER_SIZE) rows (guards_on path) fits.0.small h.small_rows;
        }

  row_short : (p : AffineProgram) (around : List (List ℕ)) (guards : ℕ) (row : Row) (s : ℕ) → length around ≤ LOOPS → guards ≤ GUARDS → IsPrintableRow p around guards row → IsThere (row_path row s) → IsSomeAnd (row_path row s) (IsShortFrom (length around) guards)
  row_short p around guards done s inner few fits h = absurd h
  row_short p around guards (next item row) s inner few fits h = either (item_path item s) (row_path row s) (item_short p around guards item s inner few fits.0) (row_short p around guards row s inner few fits.1) h where
    either : (o p : Option (List PathStep)) → (IsThere o → IsSomeAnd o (IsShortFrom (length around) guards)) → (IsThere p → IsSomeAnd p (IsShortFrom (length around) guards))
        → IsThere (first_of o p) → IsSomeAnd (first_of o p) (IsShortFrom (length around) guards)
    either None p f g h = g h
    either (Some path) p f g h = f h

-- the rows of the guards on a way are over the variables there, which are some of all
rows_within : (all vars : ℕ) (path : List PathStep) → PathFits vars path → vars + length (bounds_on path) ≤ all → AllByRecursion (λ row. variables row ≤ all) (guards_on path)
rows_within all vars [] fits few = tt
rows_within all vars (bounded lower upper ∷ path) fits few = rows_within all (suc vars) path fits.1 (omega (arith, few))
rows_within all vars (guarded rows ∷ path) fits few =
    All-append (λ row. variables row ≤ all) rows (guards_on path) (All-weaken (IsOver vars) (λ row. variables row ≤ all) rows (λ row over. omega (arith, over, few)) fits.0) (rows_within all vars path fits.1 few)

short_from_start : (parameters : ℕ) (o : Option (List PathStep)) → PathFits parameters (unwrap_or o []) → IsSomeAnd o (IsShortFrom 0 0) → IsSomeAnd o (IsShortWay parameters)
short_from_start parameters None fits h = h
short_from_start parameters (Some path) fits h = record {
  few_bounds = omega (arith, h.few_bounds);
  small_bounds = h.small_bounds;
  few_rows = omega (arith, h.few_rows);
  small_rows = h.small_rows;
  rows_over = rows_within (parameters + length (bounds_on path)) parameters path fits (omega arith);
}

-- each statement of a well-read text's program stands in few loops and guards
pub program_has_ways : (r : Reading) → IsWellRead r → HasShortWays (length (parameters_of r)) (program_of r).tree (statement_count r.items)
program_has_ways r well = record {
  ways = λ s below.
      let program : AffineProgram = program_of r in
      let fits = program_fits r well in
      let there : s < length program.statements = omega (arith, below, statements_counted (length (parameters_of r)) 0 r.items) in
      short_from_start (length (parameters_of r)) (row_path program.tree s) (path-fits program s fits.0) (row_short program [] 0 program.tree s (omega arith) (omega arith) fits.1.loops (way-there program s fits.0 there));
}

-- the code's item is a statement
pub item_of-Assign : (s : ReadStatement) → read.item_of (Assign s) ≡ read.assign s
item_of-Assign s = ap read.item_of (sym (rolls-Assign s)) ∙ fold-roll-Item read.Item read.item_step (assign_layer s)

-- these parts are those of what was read
pub record Made (r : Reading) (parts : ProgramParts) : Type 0 where
  pub params : parts.params ≡ parameters_of r
  pub assumed : parts.assumed ≡ record { vars = length (parameters_of r); rows = map (narrowed (length (parameters_of r)) 0) r.assumptions }
  pub arrays : parts.arrays ≡ arrays_of r
  pub statements : map statement_of parts.statements ≡ (program_of r).statements
  pub tree : row_of parts.tree ≡ (program_of r).tree
  pub placed : ArePlaced (length (parameters_of r)) (row_of parts.tree) parts.statements

-- so many parameters were read
pub made_from : (r : Reading) (parts : ProgramParts) (many : ℕ) → many ≡ length (parameters_of r) → parts.params ≡ parameters_of r → parts.assumed ≡ record { vars = many; rows = map (narrowed many 0) r.assumptions } → parts.arrays ≡ arrays_of r
    → map statement_of parts.statements ≡ statements_in many 0 r.items → map item_of parts.tree ≡ items_meant r.names many 0 0 r.items → ArePlaced many (row_of parts.tree) parts.statements → Made r parts
made_from r parts many e params assumed arrays statements tree placed = record {
  params = params;
  assumed = assumed ∙ ap (λ n. record { vars = n; rows = map (narrowed n 0) r.assumptions }) e;
  arrays = arrays;
  statements = statements ∙ ap (λ n. statements_in n 0 r.items) e;
  tree = ap row_from tree ∙ ap (λ n. row_from (items_meant r.names n 0 0 r.items)) e;
  placed = subst (λ (n : ℕ). ArePlaced n (row_of parts.tree) parts.statements) e placed;
}

pub made_says : (r : Reading) (parts : ProgramParts) → Made r parts → meaning parts ≡ program_of r
made_says r parts made =
    let rows : parts.assumed.rows ≡ map (narrowed (length (parameters_of r)) 0) r.assumptions = ap (λ (s : AffineSystem). s.rows) made.assumed in
    λ i. record { parameters = made.params i; assumptions = rows i; arrays = ap (map array_of) made.arrays i; statements = made.statements i; tree = made.tree i }

pub made_program : (r : Reading) (parts : ProgramParts) → IsWellRead r → Made r parts → IsProgram parts
made_program r parts well made =
    let many : length parts.statements ≡ statement_count r.items =
    sym (length-map parts.statements statement_of) ∙ ap (λ (xs : List ModelStatement). length xs) made.statements ∙ statements_counted (length (parameters_of r)) 0 r.items in
    let rows : parts.assumed.rows ≡ map (narrowed (length (parameters_of r)) 0) r.assumptions = ap (λ (s : AffineSystem). s.rows) made.assumed in
    let rows_many : length parts.assumed.rows ≡ length r.assumptions = ap (λ (xs : List AffineForm). length xs) rows ∙ length-map r.assumptions (narrowed (length (parameters_of r)) 0) in
    let fits = subst (λ (p : AffineProgram). IsWellFormed p × IsPrintable p) (sym (made_says r parts made)) (program_fits r well) in
    record {
      well_formed = fits.0;
      printable = fits.1;
      assumed = ap (λ (s : AffineSystem). s.vars) made.assumed ∙ ap (λ (ns : List (List ℕ)). length ns) (sym made.params);
      ways = subst (λ (n : ℕ). AllByRecursion (StandsIn n (row_of parts.tree)) (enumerate_from 0 parts.statements)) (ap (λ (ns : List (List ℕ)). length ns) (sym made.params)) made.placed.ways;
      directions = made.placed.directions;
      limits = record {
        parameters = subst (λ (ns : List (List ℕ)). length ns ≤ PARAMETERS) (sym made.params) well.parameters;
        assumptions = omega (arith, rows_many, well.few_assumptions);
        assumed = subst (AllByRecursion (IsSmallForm NUMBER_SIZE)) (sym rows) (narrowed_all_small (length (parameters_of r)) 0 r.assumptions well.assumptions);
        arrays = subst (λ (all : List (List ℕ × ℕ)). length all ≤ ARRAYS) (sym made.arrays) well.few_arrays;
        ranks = subst (λ (all : List (List ℕ × ℕ)). AllByRecursion (λ (array : List ℕ × ℕ). array.1 ≤ SUBSCRIPTS) all) (sym made.arrays) well.ranks;
        statements = omega (arith, many, well.statements);
        each = made.placed.limits;
      };
    }
