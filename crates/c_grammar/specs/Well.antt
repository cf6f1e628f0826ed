-- What every text that is read keeps: its names are C's and differ, its references fit their arrays, which are numbered as
-- references to them stand, no loop has the name of one around it, and all of it is within the limits.
use Rattle.std.specs.Prelude.{◌≡◌, ℕ, suc, ◌+◌, ◌-◌, ◌<◌, ◌≤◌, ℤ, pos, List, [], ◌∷◌, ◌++◌, length, take, drop, replicate, slice_get, IsSomeAnd, unsigned_abs, Some, Ok, ⊤}
use Rattle.std.specs.List.{AllByRecursion}
use Rattle.c_tokens.specs.Names.{IsName}
use Rattle.affine_program.specs.Printable.{IsOrdered}
use Rattle.c_reading.specs.declared.named.Kind.{Kind}
use Rattle.c_reading.specs.declared.named.Kind.TheVariants.{Parameter, OpenLoop, ClosedLoop, Array}
use Rattle.c_reading.specs.Access.{Access, Statement}
use Rattle.c_reading.specs.Tree.{Item, assign, loop, guard, Items, done, next}
use Rattle.c_reading.specs.Names.{parameters_among, arrays_among}
use Rattle.c_reading.specs.Text.{Reading, reading_of}
use Rattle.iolb_model.specs.declared.limits.TheConstants.{LOOPS, GUARDS, PARAMETERS, STATEMENTS, ARRAYS, SUBSCRIPTS, READS, ASSUMPTIONS, NUMBER_SIZE}

-- no name stands twice
abbrev pub AreDistinct : List (List ℕ) → Type 0
AreDistinct names = (a b : ℕ) (name : List ℕ) → slice_get names a ≡ Some name → slice_get names b ≡ Some name → a ≡ b

-- Small numbers: a constant, then the coefficients of as many parameters and as many loops as there may be. Those of
-- parameters that the text doesn't have and of loops that aren't around the row are 0.
pub record IsRowOver (parameters depth : ℕ) (row : List ℤ) : Type 0 where
  pub width : length row ≡ 1 + PARAMETERS + LOOPS
  pub small : AllByRecursion (λ n. unsigned_abs n < NUMBER_SIZE) row
  pub absent_parameters : take (PARAMETERS - parameters) (drop (1 + parameters) row) ≡ replicate (PARAMETERS - parameters) (pos 0)
  pub absent_loops : drop (1 + PARAMETERS + depth) row ≡ replicate (LOOPS - depth) (pos 0)

-- the parameters' names, and the arrays with their numbers of subscripts
abbrev pub parameters_of : Reading → List (List ℕ)
parameters_of r = parameters_among r.names r.kinds

abbrev pub arrays_of : Reading → List (List ℕ × ℕ)
arrays_of r = arrays_among r.names r.kinds

-- a reference to an array that is there, with as many subscripts as it has, inside so many loops
pub record IsAccessIn (r : Reading) (depth : ℕ) (access : Access) : Type 0 where
  pub rank : IsSomeAnd (slice_get (arrays_of r) access.array) (λ array. length access.subscripts ≡ array.1)
  pub rows : AllByRecursion (IsRowOver (length (parameters_of r)) depth) access.subscripts

-- a statement inside so many loops
pub record IsStatementIn (r : Reading) (depth : ℕ) (statement : Statement) : Type 0 where
  pub writes : IsAccessIn r depth statement.writes
  pub few : length statement.reads ≤ READS
  pub reads : AllByRecursion (IsAccessIn r depth) statement.reads

-- Items inside so many loops and guards of so many rows: each loop has a name that is there and fewer loops around it than
-- may be nested, and each guard has a row, and not more of them with those around it than there may be.
abbrev mutual
  pub IsItemIn : Reading → ℕ → ℕ → Item → Type 0
  IsItemIn r depth guards (assign statement) = IsStatementIn r depth statement
  IsItemIn r depth guards (loop h body) =
      (h.name < length r.names) × (depth < LOOPS) × IsRowOver (length (parameters_of r)) depth h.lower × IsRowOver (length (parameters_of r)) depth h.upper
      × AreItemsIn r (suc depth) guards body
  IsItemIn r depth guards (guard rows body) =
      (0 < length rows) × (guards + length rows ≤ GUARDS) × AllByRecursion (IsRowOver (length (parameters_of r)) depth) rows
      × AreItemsIn r depth (guards + length rows) body

  pub AreItemsIn : Reading → ℕ → ℕ → Items → Type 0
  AreItemsIn r depth guards done = ⊤
  AreItemsIn r depth guards (next i items) = IsItemIn r depth guards i × AreItemsIn r depth guards items

-- how many statements there are
abbrev mutual
  pub item_count : Item → ℕ
  item_count (assign statement) = 1
  item_count (loop h body) = statement_count body
  item_count (guard rows body) = statement_count body

  pub statement_count : Items → ℕ
  statement_count done = 0
  statement_count (next i items) = item_count i + statement_count items

-- ---- the order of arrays

-- the arrays of references
abbrev pub numbers_of : List Access → List ℕ
numbers_of [] = []
numbers_of (a ∷ accesses) = a.array ∷ numbers_of accesses

-- the arrays of items, in order
abbrev mutual
  pub item_numbers : Item → List ℕ
  item_numbers (assign s) = s.writes.array ∷ numbers_of s.reads
  item_numbers (loop h body) = items_numbers body
  item_numbers (guard rows body) = items_numbers body

  pub items_numbers : Items → List ℕ
  items_numbers done = []
  items_numbers (next i items) = item_numbers i ++ items_numbers items

-- ---- the names of loops

-- a loop, open or not
abbrev pub IsLoop : Kind → Type 0
IsLoop (Parameter k) = ⊥
IsLoop (OpenLoop d) = ⊤
IsLoop ClosedLoop = ⊤
IsLoop (Array n s) = ⊥

-- the place of a loop's name
abbrev pub IsLoopAt : List Kind → ℕ → Type 0
IsLoopAt kinds at = (k : Kind) × (slice_get kinds at ≡ Some k) × IsLoop k

-- items inside loops of these names: each loop has a loop's name, and not that of one around it
abbrev mutual
  pub IsNested : List Kind → List ℕ → Item → Type 0
  IsNested kinds around (assign s) = ⊤
  IsNested kinds around (loop h body) =
      IsLoopAt kinds h.name × AllByRecursion (λ n. n ≡ h.name → ⊥) around × AreNested kinds (h.name ∷ around) body
  IsNested kinds around (guard rows body) = AreNested kinds around body

  pub AreNested : List Kind → List ℕ → Items → Type 0
  AreNested kinds around done = ⊤
  AreNested kinds around (next i items) = IsNested kinds around i × AreNested kinds around items

-- ---- readings

-- what every reading keeps, with the limits of texts
pub record IsWellRead (r : Reading) : Type 0 where
  pub kinds : length r.kinds ≡ length r.names
  pub parameters : length (parameters_of r) ≤ PARAMETERS
  pub few_assumptions : length r.assumptions ≤ ASSUMPTIONS
  pub assumptions : AllByRecursion (IsRowOver (length (parameters_of r)) 0) r.assumptions
  pub few_arrays : length (arrays_of r) ≤ ARRAYS
  pub ranks : AllByRecursion (λ (array : List ℕ × ℕ). array.1 ≤ SUBSCRIPTS) (arrays_of r)
  pub statements : statement_count r.items ≤ STATEMENTS
  pub items : AreItemsIn r 0 0 r.items
  pub names : AllByRecursion IsName r.names
  pub distinct : AreDistinct r.names
  pub nested : AreNested r.kinds [] r.items
  pub order : IsOrdered 0 (items_numbers r.items) (length (arrays_of r))
  pub some_assumptions : 0 < length (parameters_of r) → 0 < length r.assumptions

-- every text that is read is well read
abbrev pub ReadingsAreWellRead : Type 0
ReadingsAreWellRead = (bytes : List ℕ) (r : Reading) → reading_of bytes ≡ Ok r → IsWellRead r
