-- What the names of a program stand for, what each part of it is where it is printed, and the rows of its forms.
use Rattle.std.specs.Prelude.{ℕ, zero, suc, ◌+◌, ℤ, pos, List, [], ◌∷◌, ◌++◌, map, take, drop, ◌≡◌, ◌≤◌, ◌<◌, unsigned_abs, false, nat_lt, if◌then◌else◌, length, slice_get, bytes_eq, Option, Some, None, IsSomeAnd, ⊤}
use Rattle.iolb_model.specs.Form.{AffineForm}
use Rattle.c_reading.specs.Access.{Access as ReadAccess, Statement as ReadStatement}
use Rattle.c_reading.specs.Numbers.{most_parameters, most_loops}
use Rattle.std.specs.List.{list_any, AllByRecursion}
use Rattle.iolb_model.specs.Program.{Access, Statement, Item, assign, loop, guard, Row, done, next, Array, AffineProgram, statement_at, row_statements}
use Rattle.c_tokens.specs.Names.{IsName}
use Rattle.c_grammar.proofs.NameKinds.{place_of}
use Rattle.iolb_model.specs.declared.limits.TheConstants.{NUMBER_SIZE, PARAMETERS, LOOPS, GUARDS, ARRAYS, SUBSCRIPTS, READS, ASSUMPTIONS, STATEMENTS}

-- so many of these numbers, and 0 for those that aren't there
abbrev pub padded : ℕ → List ℤ → List ℤ
padded zero ns = []
padded (suc k) [] = pos 0 ∷ padded k []
padded (suc k) (n ∷ ns) = n ∷ padded k ns

-- The row of a form over so many parameters and loops: the constant, the coefficients of as many parameters as there may be,
-- and those of as many loops.
abbrev pub widened : ℕ → ℕ → AffineForm → List ℤ
widened parameters depth form =
    form.constant ∷ (padded most_parameters (take parameters form.coefficients) ++ padded most_loops (take depth (drop parameters form.coefficients)))

-- a reference and a statement inside so many loops
abbrev pub widened_access : ℕ → ℕ → Access → ReadAccess
widened_access parameters depth access = record { array = access.array; subscripts = map (widened parameters depth) access.subscripts }

-- a statement with the rows of its references
abbrev pub widened_statement : ℕ → ℕ → Statement → ReadStatement
widened_statement parameters depth statement =
    record { writes = widened_access parameters depth statement.writes; reads = map (widened_access parameters depth) statement.reads }

-- ---- what names stand for

-- what a name stands for: the parameter or the array of this number, or something else
pub data Role : Type 0 where
  parameter : ℕ → Role
  array : ℕ → Role
  other : Role

-- an array, or something else
abbrev pub array_role : Option ℕ → Role
array_role None = other
array_role (Some number) = array number

-- a parameter, or what it is otherwise
abbrev pub role_by : Option ℕ → Option ℕ → Role
role_by (Some number) found = parameter number
role_by None found = array_role found

-- the names of arrays
abbrev pub names_of : List Array → List (List ℕ)
names_of arrays = map (λ (a : Array). a.name) arrays

-- what this name stands for
abbrev pub role : AffineProgram → List ℕ → Role
role p name = role_by (place_of name p.parameters) (place_of name (names_of p.arrays))

-- ---- forms and references

-- numbers of texts are small
abbrev pub IsSmall : ℤ → Type 0
IsSmall n = unsigned_abs n < NUMBER_SIZE

-- a form whose numbers are small
abbrev pub IsSmallForm : ℕ → ℕ → AffineForm → Type 0
IsSmallForm parameters depth form = AllByRecursion IsSmall (widened parameters depth form)

-- how many arrays were seen behind a reference, and behind some
abbrev pub access_seen : ℕ → Access → ℕ
access_seen seen access = if nat_lt access.array seen then seen else suc seen

-- how many arrays were seen behind references
abbrev pub accesses_seen : ℕ → List Access → ℕ
accesses_seen seen [] = seen
accesses_seen seen (access ∷ accesses) = accesses_seen (access_seen seen access) accesses

-- a reference inside so many loops, where so many arrays were seen: to one of these or the next one, with as many
-- subscripts as the array has
pub record IsReadableAccess (p : AffineProgram) (depth seen : ℕ) (access : Access) : Type 0 where
  pub seen_first : access.array ≤ seen
  pub rank : IsSomeAnd (slice_get p.arrays access.array) (λ (a : Array). length access.subscripts ≡ a.rank)
  pub subscripts : AllByRecursion (IsSmallForm (length p.parameters) depth) access.subscripts

-- references in order
abbrev pub AreReadableAccesses : AffineProgram → ℕ → ℕ → List Access → Type 0
AreReadableAccesses p depth seen [] = ⊤
AreReadableAccesses p depth seen (access ∷ accesses) = IsReadableAccess p depth seen access × AreReadableAccesses p depth (access_seen seen access) accesses

-- a statement, whose reads are within the limit
pub record IsReadableStatement (p : AffineProgram) (depth seen : ℕ) (statement : Statement) : Type 0 where
  pub accesses : AreReadableAccesses p depth seen (statement.writes ∷ statement.reads)
  pub few : length statement.reads ≤ READS

-- how many arrays were seen behind a statement
abbrev pub statement_seen : ℕ → Statement → ℕ
statement_seen seen statement = accesses_seen seen (statement.writes ∷ statement.reads)

-- ---- loops

-- how many arrays were seen behind an item, and behind a row
abbrev mutual
  -- behind an item
  pub item_seen : AffineProgram → ℕ → Item → ℕ
  item_seen p seen (assign number) = statement_seen seen (statement_at p number)
  item_seen p seen (loop name direction lower upper body) = row_seen p seen body
  item_seen p seen (guard rows body) = row_seen p seen body

  -- behind a row
  pub row_seen : AffineProgram → ℕ → Row → ℕ
  row_seen p seen done = seen
  row_seen p seen (next item row) = row_seen p (item_seen p seen item) row

-- a header inside loops of these names, each of another name, which stands for nothing else
pub record IsReadableHeader (p : AffineProgram) (around : List (List ℕ)) (name : List ℕ) (lower upper : AffineForm) : Type 0 where
  pub depth : length around < LOOPS
  pub is_name : IsName name
  pub is_other : role p name ≡ other
  pub is_new : list_any (bytes_eq name) around ≡ false
  pub lower_small : IsSmallForm (length p.parameters) (length around) lower
  pub upper_small : IsSmallForm (length p.parameters) (length around) upper

-- a guard's rows inside so many loops and guards of so many rows: there is one, and they are small and not too many
pub record IsReadableGuard (p : AffineProgram) (depth guards : ℕ) (rows : List AffineForm) : Type 0 where
  pub some : 0 < length rows
  pub few : guards + length rows ≤ GUARDS
  pub small : AllByRecursion (IsSmallForm (length p.parameters) depth) rows

-- an item and a row inside loops of these names and guards of so many rows, where so many arrays were seen
abbrev mutual
  -- an item
  pub IsReadableItem : AffineProgram → List (List ℕ) → ℕ → ℕ → Item → Type 0
  IsReadableItem p around guards seen (assign number) = IsReadableStatement p (length around) seen (statement_at p number)
  IsReadableItem p around guards seen (loop name direction lower upper body) =
      IsReadableHeader p around name lower upper × IsReadableRow p (around ++ name ∷ []) guards seen body
  IsReadableItem p around guards seen (guard rows body) =
      IsReadableGuard p (length around) guards rows × IsReadableRow p around (guards + length rows) seen body

  -- a row
  pub IsReadableRow : AffineProgram → List (List ℕ) → ℕ → ℕ → Row → Type 0
  IsReadableRow p around guards seen done = ⊤
  IsReadableRow p around guards seen (next item row) = IsReadableItem p around guards seen item × IsReadableRow p around guards (item_seen p seen item) row

-- ---- programs

-- A program that is printed so that its text says it: names are C's and each stands for one thing, numbers are small,
-- arrays are numbered in the order in which their references stand, and all of it is within the reader's limits.
pub record HasRoles (p : AffineProgram) : Type 0 where
  pub parameters : AllByRecursion IsName p.parameters
  pub few_parameters : length p.parameters ≤ PARAMETERS
  pub parameter_roles : (number : ℕ) (name : List ℕ) → slice_get p.parameters number ≡ Some name → role p name ≡ parameter number
  pub arrays : AllByRecursion (λ (a : Array). IsName a.name × (a.rank ≤ SUBSCRIPTS)) p.arrays
  pub few_arrays : length p.arrays ≤ ARRAYS
  pub array_roles : (number : ℕ) (a : Array) → slice_get p.arrays number ≡ Some a → role p a.name ≡ array number
  pub few_assumptions : length p.assumptions ≤ ASSUMPTIONS
  pub some_assumptions : 0 < length p.parameters → 0 < length p.assumptions
  pub assumptions : AllByRecursion (IsSmallForm (length p.parameters) 0) p.assumptions
  pub few_statements : length (row_statements p.tree) ≤ STATEMENTS
  pub tree : IsReadableRow p [] 0 0 p.tree
  pub seen : row_seen p 0 p.tree ≡ length p.arrays
