-- Affine loop programs: a tree of loops and guards over statements, whose bounds, conditions and subscripts are affine forms.
-- (The class of Feautrier 1991 and of PolyBench's kernels.)
use Rattle.std.specs.Prelude.{◌≡◌, ℕ, suc, ◌≤◌, ⊤, List, [], ◌∷◌, ◌++◌, length, slice_get, IsSomeAnd, slice_index_or}
use Rattle.std.specs.List.{AllByRecursion, range_with_len}
use Rattle.iolb_model.specs.Form.{AffineForm}

-- a reference to an array: which one, by its number, and a form for each subscript
pub record Access : Type 0 where
  pub array : ℕ
  pub subscripts : List AffineForm

-- a statement writes one reference and reads a list of references, repeats included
pub record Statement : Type 0 where
  pub writes : Access
  pub reads : List Access

-- whether a loop's values rise by one from its lower bound, or fall by one from its upper bound
pub data Direction : Type 0 where
  upward : Direction
  downward : Direction

-- An item is a statement, by its number in the text; or a loop: its name, how its values go, its lower and upper bound,
-- both included, and its body; or a guard: forms, each of which is to be at least 0, and its body. A row of items is none,
-- or an item and then a row.
mutual
  pub data Item : Type 0 where
    assign : ℕ → Item
    loop : List ℕ → Direction → AffineForm → AffineForm → Row → Item
    guard : List AffineForm → Row → Item

  pub data Row : Type 0 where
    done : Row
    next : Item → Row → Row

-- an array's name, and its number of subscripts
pub record Array : Type 0 where
  pub name : List ℕ
  pub rank : ℕ

-- A program: the parameters' names; the assumptions, each a form of the parameters that is at least 0;
-- the arrays; the statements in the order of the text; and the tree.
pub record AffineProgram : Type 0 where
  pub parameters : List (List ℕ)
  pub assumptions : List AffineForm
  pub arrays : List Array
  pub statements : List Statement
  pub tree : Row

-- what stands at a number that no statement has; a well-formed program never meets it
abbrev pub no_statement : Statement
no_statement = record { writes = record { array = 0; subscripts = [] }; reads = [] }

-- the statement of this number
abbrev pub statement_at : AffineProgram → ℕ → Statement
statement_at program number = slice_index_or program.statements number no_statement

-- the read of a statement at this number, in the order of its reads
abbrev pub read_at : AffineProgram → ℕ → ℕ → Access
read_at program statement read = slice_index_or (statement_at program statement).reads read no_statement.writes

-- a form over so many variables
abbrev pub IsOver : ℕ → AffineForm → Type 0
IsOver variables form = length form.coefficients ≡ variables

-- a reference to an array that is there, with as many subscripts as it has, each over so many variables
pub record AccessFits (program : AffineProgram) (variables : ℕ) (access : Access) : Type 0 where
  pub rank : IsSomeAnd (slice_get program.arrays access.array) (λ array. length access.subscripts ≡ array.rank)
  pub subscripts : AllByRecursion (IsOver variables) access.subscripts

-- a statement that is there, whose references are over so many variables
pub record StatementFits (program : AffineProgram) (variables : ℕ) (number : ℕ) : Type 0 where
  pub there : suc number ≤ length program.statements
  pub writes : AccessFits program variables (statement_at program number).writes
  pub reads : AllByRecursion (AccessFits program variables) (statement_at program number).reads

-- the forms of an item and of a row are over the parameters and the loops around them, so many together
abbrev mutual
  pub ItemFits : AffineProgram → ℕ → Item → Type 0
  ItemFits program variables (assign number) = StatementFits program variables number
  ItemFits program variables (loop name direction lower upper body) =
      IsOver variables lower × IsOver variables upper × RowFits program (suc variables) body
  ItemFits program variables (guard rows body) = AllByRecursion (IsOver variables) rows × RowFits program variables body

  pub RowFits : AffineProgram → ℕ → Row → Type 0
  RowFits program variables done = ⊤
  RowFits program variables (next item row) = ItemFits program variables item × RowFits program variables row

-- the numbers of the statements of an item and of a row, in the order of the text
abbrev mutual
  pub item_statements : Item → List ℕ
  item_statements (assign number) = number ∷ []
  item_statements (loop name direction lower upper body) = row_statements body
  item_statements (guard rows body) = row_statements body

  pub row_statements : Row → List ℕ
  row_statements done = []
  row_statements (next item row) = item_statements item ++ row_statements row

-- A well-formed program: its statements are numbered in the order of the text and each stands in the tree once,
-- its assumptions are over the parameters, and its other forms over the parameters and the loops around them.
pub record IsWellFormed (program : AffineProgram) : Type 0 where
  pub numbered : row_statements program.tree ≡ range_with_len 0 (length program.statements)
  pub assumptions : AllByRecursion (IsOver (length program.parameters)) program.assumptions
  pub tree : RowFits program (length program.parameters) program.tree
