-- The syntax tree of a printed program.
use Rattle.std.specs.Prelude.{ℕ, ◌==◌, if◌then◌else◌, ℤ, unsigned_abs, Bool, true, false, List, [], ◌∷◌, ◌++◌, codes, decimal, zip}
use Rattle.iolb_model.specs.Form.{AffineForm}
use Rattle.iolb_model.specs.Program.{Direction, upward, downward, Access, Statement, Item, assign, loop, guard, Row, done, next, AffineProgram, statement_at}
use Rattle.iolb_model.specs.Printed.{is_below_zero, nonzero}
use Rattle.c_grammar.specs.Affine.{Affine, sum, Sums, sum_end, plus, minus, Term, product, product_end, times, Factor, integer, negative, at_least, Subscripts, subscript_end, subscript, Compare, Compares, last_compare, compare, Reference}
use Rattle.c_grammar.specs.Affine as affine
use Rattle.c_grammar.specs.Value as value
use Rattle.c_grammar.specs.Item as item
use Rattle.c_grammar.specs.Text as text
use Rattle.affine_c.specs.Text.{array_name}

-- a factor with a minus in front, or without
abbrev pub signed : Bool → Factor → Factor
signed true f = negative f
signed false f = f

-- a term without its sign, or with a minus in front
abbrev pub size_tree : Bool → ℤ → List ℕ → Term
size_tree below coefficient [] = product (signed below (integer (decimal (unsigned_abs coefficient)))) product_end
size_tree below coefficient (b ∷ bytes) =
    if unsigned_abs coefficient == 1 then product (signed below (affine.name (b ∷ bytes))) product_end
    else product (signed below (integer (decimal (unsigned_abs coefficient)))) (times (affine.name (b ∷ bytes)) product_end)

-- a term behind its sign, in front of others
abbrev pub added : Bool → Term → Sums → Sums
added true t ss = minus t ss
added false t ss = plus t ss

-- the terms after the first
abbrev pub later_tree : List (ℤ × List ℕ) → Sums
later_tree [] = sum_end
later_tree (t ∷ ts) = added (is_below_zero t.0) (size_tree false t.0 t.1) (later_tree ts)

-- all terms, or 0
abbrev pub terms_tree : List (ℤ × List ℕ) → Affine
terms_tree [] = sum (product (integer (codes "0")) product_end) sum_end
terms_tree (t ∷ ts) = sum (size_tree (is_below_zero t.0) t.0 t.1) (later_tree ts)

-- a form's terms, in order
abbrev pub form_terms : List (List ℕ) → AffineForm → List (ℤ × List ℕ)
form_terms names form = nonzero (zip form.coefficients names ++ (form.constant, []) ∷ [])

-- a form
abbrev pub form_tree : List (List ℕ) → AffineForm → Affine
form_tree names form = terms_tree (form_terms names form)

-- subscripts
abbrev pub subscripts_tree : List (List ℕ) → List AffineForm → Subscripts
subscripts_tree names [] = subscript_end
subscripts_tree names (form ∷ forms) = subscript (form_tree names form) (subscripts_tree names forms)

-- a reference
abbrev pub access_tree : AffineProgram → List (List ℕ) → Access → Reference
access_tree program names access = record { name = array_name program access.array; subscripts = subscripts_tree names access.subscripts }

-- a reference as a value
abbrev pub read_tree : AffineProgram → List (List ℕ) → Access → value.Value
read_tree program names read = value.value (value.reference (access_tree program names read)) value.operand_end

-- the arguments of a call, of which this is the first
abbrev pub arguments_tree : AffineProgram → List (List ℕ) → Access → List Access → value.Arguments
arguments_tree program names read [] = value.last_argument (read_tree program names read)
arguments_tree program names read (other ∷ reads) = value.argument (read_tree program names read) (arguments_tree program names other reads)

-- what a statement reads: a function of all its reads, or 0
abbrev pub reads_tree : AffineProgram → List (List ℕ) → List Access → value.Value
reads_tree program names [] = value.value (value.number (codes "0")) value.operand_end
reads_tree program names (read ∷ reads) = value.value (value.call (codes "f") (arguments_tree program names read reads)) value.operand_end

-- a statement
abbrev pub statement_tree : AffineProgram → List (List ℕ) → Statement → item.Assign
statement_tree program names s = record { target = access_tree program names s.writes; assigner = item.sets; value = reads_tree program names s.reads }

-- a loop's header
abbrev pub header_tree : List (List ℕ) → List ℕ → Direction → AffineForm → AffineForm → item.Header
header_tree names name upward lower upper = record {
  has_int = false;
  name = name;
  falls = false;
  first = form_tree names lower;
  excludes = false;
  last = form_tree names upper;
  step = item.name_plus_plus;
}
header_tree names name downward lower upper = record {
  has_int = false;
  name = name;
  falls = true;
  first = form_tree names upper;
  excludes = false;
  last = form_tree names lower;
  step = item.name_plus_plus;
}

-- a form that is to be at least 0
abbrev pub condition_tree : List (List ℕ) → AffineForm → Compare
condition_tree names row = record { left = form_tree names row; comparison = at_least; right = terms_tree [] }

-- the rows of a guard, of which this is the first
abbrev pub conditions_tree : List (List ℕ) → AffineForm → List AffineForm → Compares
conditions_tree names row [] = last_compare (condition_tree names row)
conditions_tree names row (other ∷ rows) = compare (condition_tree names row) (conditions_tree names other rows)

-- a guard around items
abbrev pub guard_tree : List (List ℕ) → List AffineForm → item.Items → item.Item
guard_tree names [] items = item.block items
guard_tree names (row ∷ rows) items = item.guarded (conditions_tree names row rows) (item.block items)

-- an item and a row, where the parameters and the loops around have these names
abbrev mutual
  pub item_tree : AffineProgram → List (List ℕ) → Item → item.Item
  item_tree program names (assign number) = item.statement (statement_tree program names (statement_at program number))
  item_tree program names (loop name direction lower upper body) = item.loop (header_tree names name direction lower upper) (item.block (row_tree program (names ++ name ∷ []) body))
  item_tree program names (guard rows body) = guard_tree names rows (row_tree program names body)

  pub row_tree : AffineProgram → List (List ℕ) → Row → item.Items
  row_tree program names done = item.item_end
  row_tree program names (next i row) = item.item (item_tree program names i) (row_tree program names row)

-- the line that names the parameters, if there are any
abbrev pub parameters_tree : List (List ℕ) → text.Lines → text.Lines
parameters_tree [] more = more
parameters_tree (name ∷ names) more = text.parameters (codes "#pragma iolb param") (name ∷ names) more

-- an assumption
abbrev pub assumption_tree : List (List ℕ) → AffineForm → Compares
assumption_tree names row = last_compare (condition_tree names row)

-- the lines that assume
abbrev pub assumptions_tree : List (List ℕ) → List AffineForm → text.Lines
assumptions_tree names [] = text.line_none
assumptions_tree names (row ∷ rows) = text.assumptions (codes "#pragma iolb assume") (assumption_tree names row) (assumptions_tree names rows)

-- a whole program
abbrev pub program_tree : AffineProgram → text.Text
program_tree program = record {
  lines = parameters_tree program.parameters (assumptions_tree program.parameters program.assumptions);
  items = row_tree program program.parameters program.tree;
}
