-- A program as C text: one item a line, without indentation.
use Rattle.std.specs.Prelude.{ℕ, List, [], ◌∷◌, ◌++◌, flat_map, slice_index_or, codes}
use Rattle.std.specs.List.{join_by}
use Rattle.iolb_model.specs.Form.{AffineForm}
use Rattle.iolb_model.specs.Program.{Direction, upward, downward, Access, Statement, Item, assign, loop, guard, Row, done, next, AffineProgram, statement_at}
use Rattle.iolb_model.specs.Printed.{form_text}

-- a subscript in brackets
abbrev pub subscript_text : List (List ℕ) → AffineForm → List ℕ
subscript_text names form = codes "[" ++ form_text names form ++ codes "]"

-- the name of the array of this number
abbrev pub array_name : AffineProgram → ℕ → List ℕ
array_name program array = (slice_index_or program.arrays array (record { name = []; rank = 0 })).name

-- a reference: the array's name and its subscripts, whose variables have these names
abbrev pub access_text : AffineProgram → List (List ℕ) → Access → List ℕ
access_text program names access = array_name program access.array ++ flat_map (subscript_text names) access.subscripts

-- what a statement reads: a function of all its reads, or 0
abbrev pub reads_text : AffineProgram → List (List ℕ) → List Access → List ℕ
reads_text program names [] = codes "0"
reads_text program names (read ∷ reads) = codes "f(" ++ join_by (access_text program names) (codes ", ") (read ∷ reads) ++ codes ")"

-- a statement, on a line
abbrev pub statement_text : AffineProgram → List (List ℕ) → Statement → List ℕ
statement_text program names statement =
    access_text program names statement.writes ++ codes " = " ++ reads_text program names statement.reads ++ codes ";\n"

-- a loop's header, on a line: a loop that runs downward begins with its upper bound
abbrev pub header_text : List (List ℕ) → List ℕ → Direction → AffineForm → AffineForm → List ℕ
header_text names name upward lower upper =
    codes "for (" ++ name ++ codes " = " ++ form_text names lower ++ codes "; " ++ name ++ codes " <= " ++ form_text names upper
    ++ codes "; " ++ name ++ codes "++) {\n"
header_text names name downward lower upper =
    codes "for (" ++ name ++ codes " = " ++ form_text names upper ++ codes "; " ++ name ++ codes " >= " ++ form_text names lower
    ++ codes "; " ++ name ++ codes "--) {\n"

-- a row of a guard, which is to be at least 0
abbrev pub condition_text : List (List ℕ) → AffineForm → List ℕ
condition_text names row = form_text names row ++ codes " >= 0"

-- what a guard begins with, on a line: all its rows
abbrev pub guard_text : List (List ℕ) → List AffineForm → List ℕ
guard_text names rows = codes "if (" ++ join_by (condition_text names) (codes " && ") rows ++ codes ") {\n"

-- an item and a row, where the parameters and the loops around have these names
abbrev mutual
  pub item_text : AffineProgram → List (List ℕ) → Item → List ℕ
  item_text program names (assign number) = statement_text program names (statement_at program number)
  item_text program names (loop name direction lower upper body) = header_text names name direction lower upper ++ row_text program (names ++ name ∷ []) body ++ codes "}\n"
  item_text program names (guard rows body) = guard_text names rows ++ row_text program names body ++ codes "}\n"

  pub row_text : AffineProgram → List (List ℕ) → Row → List ℕ
  row_text program names done = []
  row_text program names (next item row) = item_text program names item ++ row_text program names row

-- the parameters, on a line, if there are any
abbrev pub parameters_text : List (List ℕ) → List ℕ
parameters_text [] = []
parameters_text (name ∷ names) = codes "#pragma iolb param" ++ flat_map (λ (n : List ℕ). codes " " ++ n) (name ∷ names) ++ codes "\n"

-- an assumption, on a line
abbrev pub assumption_pragma : List (List ℕ) → AffineForm → List ℕ
assumption_pragma names row = codes "#pragma iolb assume " ++ form_text names row ++ codes " >= 0\n"

-- a program: its parameters, its assumptions, and its items between the line that opens and the line that closes
abbrev pub program_text : AffineProgram → List ℕ
program_text program =
    parameters_text program.parameters ++ flat_map (assumption_pragma program.parameters) program.assumptions
    ++ codes "#pragma scop\n" ++ row_text program program.parameters program.tree ++ codes "#pragma endscop\n"
