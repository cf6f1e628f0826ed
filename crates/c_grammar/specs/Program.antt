-- Which affine program a C text means: its rows of numbers are forms over the parameters and the loops around them.
use Rattle.std.specs.Prelude.{◌≡◌, ℕ, suc, ◌+◌, List, [], ◌∷◌, ◌++◌, map, length, take, drop, ℤ, slice_index_or, Some, option_map}
use Rattle.iolb_model.specs.Form.{AffineForm}
use Rattle.iolb_model.specs.Program.{Access, Statement, Item, assign, loop, guard, AffineProgram}
use Rattle.c_reading.specs.Tree as read
use Rattle.c_reading.specs.Access.{Access as ReadAccess, Statement as ReadStatement}
use Rattle.c_reading.specs.Tree.{Item as ReadItem, Items as ReadItems}
use Rattle.iolb_model.specs.declared.limits.TheConstants.{PARAMETERS}
use Rattle.c_reading.specs.Numbers.{constant_of}
use Rattle.c_reading.specs.Text.{Reading}
use Rattle.affine_form.specs.Rows.{direction_of}
use Rattle.affine_program.specs.Parts.{array_of}
use Rattle.affine_program.specs.Tree.{row_from}
use Rattle.c_grammar.specs.Words.{words_of}
use Rattle.c_grammar.specs.Text.{Text, text_words}
use Rattle.c_grammar.specs.Meaning.{text_means}
use Rattle.c_grammar.specs.Well.{parameters_of, arrays_of, item_count}

-- ---- rows

-- the form over so many parameters and loops whose numbers are in this row
abbrev pub narrowed : ℕ → ℕ → List ℤ → AffineForm
narrowed parameters depth row = record { coefficients = take parameters (drop 1 row) ++ take depth (drop (1 + PARAMETERS) row); constant = constant_of row }

abbrev pub narrowed_access : ℕ → ℕ → ReadAccess → Access
narrowed_access parameters depth access = record { array = access.array; subscripts = map (narrowed parameters depth) access.subscripts }

abbrev pub narrowed_statement : ℕ → ℕ → ReadStatement → Statement
narrowed_statement parameters depth s = record { writes = narrowed_access parameters depth s.writes; reads = map (narrowed_access parameters depth) s.reads }

-- ---- items

-- the statements of items inside so many loops
abbrev mutual
  pub statements_in_item : ℕ → ℕ → ReadItem → List Statement
  statements_in_item parameters depth (read.assign s) = narrowed_statement parameters depth s ∷ []
  statements_in_item parameters depth (read.loop h body) = statements_in parameters (suc depth) body
  statements_in_item parameters depth (read.guard rows body) = statements_in parameters depth body

  pub statements_in : ℕ → ℕ → ReadItems → List Statement
  statements_in parameters depth read.done = []
  statements_in parameters depth (read.next i items) = statements_in_item parameters depth i ++ statements_in parameters depth items

-- the items of a program that items mean inside so many loops, where the next statement has this number
abbrev mutual
  pub item_meant : List (List ℕ) → ℕ → ℕ → ℕ → ReadItem → Item
  item_meant names parameters depth number (read.assign s) = assign number
  item_meant names parameters depth number (read.loop h body) =
      loop (slice_index_or names h.name []) (direction_of h.down) (narrowed parameters depth h.lower) (narrowed parameters depth h.upper)
      (row_from (items_meant names parameters (suc depth) number body))
  item_meant names parameters depth number (read.guard rows body) =
      guard (map (narrowed parameters depth) rows) (row_from (items_meant names parameters depth number body))

  pub items_meant : List (List ℕ) → ℕ → ℕ → ℕ → ReadItems → List Item
  items_meant names parameters depth number read.done = []
  items_meant names parameters depth number (read.next i items) =
      item_meant names parameters depth number i ∷ items_meant names parameters depth (number + item_count i) items

-- ---- texts

-- the program that a reading says
abbrev pub program_of : Reading → AffineProgram
program_of r =
    let p = length (parameters_of r) in
    record {
      parameters = parameters_of r;
      assumptions = map (narrowed p 0) r.assumptions;
      arrays = map array_of (arrays_of r);
      statements = statements_in p 0 r.items;
      tree = row_from (items_meant r.names p 0 0 r.items);
    }

-- a text means this program: its words are those of a syntax tree, whose meaning within the limits is the program
pub record Means (bytes : List ℕ) (program : AffineProgram) : Type 0 where
  pub tree : Text
  pub spelled : words_of bytes ≡ Some (text_words tree)
  pub meant : option_map program_of (text_means tree) ≡ Some program
