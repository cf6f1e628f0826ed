-- Statements, loops, guards and blocks of the grammar, and the words that they spell.
use Rattle.std.specs.Prelude.{ℕ, Bool, true, false, List, [], ◌∷◌, ◌++◌, codes}
use Rattle.c_grammar.specs.Words.{Word, a_name, a_number, a_symbol, a_keyword}
use Rattle.c_grammar.specs.Affine.{Affine, affine_words, Compares, compares_words, Reference, reference_words}
use Rattle.c_grammar.specs.Value.{Value, value_words}

-- assign := ref ('=' | '+=' | '-=' | '*=' | '/=') value
pub data Assigner : Type 0 where
  sets : Assigner
  adds : Assigner
  subtracts : Assigner
  multiplies : Assigner
  divides : Assigner

pub record Assign : Type 0 where
  pub target : Reference
  pub assigner : Assigner
  pub value : Value

-- its words
abbrev pub assigner_word : Assigner → Word
assigner_word sets = a_symbol (codes "=")
assigner_word adds = a_symbol (codes "+=")
assigner_word subtracts = a_symbol (codes "-=")
assigner_word multiplies = a_symbol (codes "*=")
assigner_word divides = a_symbol (codes "/=")

abbrev pub assign_words : Assign → List Word
assign_words a = reference_words a.target ++ (assigner_word a.assigner ∷ value_words a.value)

-- step := name '++' | '++' name | name '+=' '1' | name '=' name '+' '1'
-- of a loop that falls with `-` in the place of each `+`
pub data Step : Type 0 where
  name_plus_plus : Step
  plus_plus_name : Step
  name_plus_one : Step
  name_is_name_plus_one : Step

-- its symbols, by whether the loop falls
abbrev pub twice_word : Bool → Word
twice_word false = a_symbol (codes "++")
twice_word true = a_symbol (codes "--")

abbrev pub updating_word : Bool → Word
updating_word false = a_symbol (codes "+=")
updating_word true = a_symbol (codes "-=")

abbrev pub sign_word : Bool → Word
sign_word false = a_symbol (codes "+")
sign_word true = a_symbol (codes "-")

-- its words, with the loop's name
abbrev pub step_words : Bool → List ℕ → Step → List Word
step_words falls name name_plus_plus = a_name name ∷ twice_word falls ∷ []
step_words falls name plus_plus_name = twice_word falls ∷ a_name name ∷ []
step_words falls name name_plus_one = a_name name ∷ updating_word falls ∷ a_number (codes "1") ∷ []
step_words falls name name_is_name_plus_one = a_name name ∷ a_symbol (codes "=") ∷ a_name name ∷ sign_word falls ∷ a_number (codes "1") ∷ []

-- The header of a loop, 'for' '(' ['int'] name '=' affine ';' name ('<' | '<=' | '>' | '>=') affine ';' step ')', of which all
-- names are one: whether it has 'int', and whether the loop falls, which the comparison says, with whether the bound behind
-- it is excluded.
pub record Header : Type 0 where
  pub has_int : Bool
  pub name : List ℕ
  pub falls : Bool
  pub first : Affine
  pub excludes : Bool
  pub last : Affine
  pub step : Step

-- its words
abbrev pub int_words : Bool → List Word
int_words true = a_keyword (codes "int") ∷ []
int_words false = []

abbrev pub bound_word : Bool → Bool → Word
bound_word false true = a_symbol (codes "<")
bound_word false false = a_symbol (codes "<=")
bound_word true true = a_symbol (codes ">")
bound_word true false = a_symbol (codes ">=")

-- those behind the name that it begins with
abbrev pub bounds_words : Header → List Word
bounds_words h =
    a_symbol (codes "=") ∷ (affine_words h.first
    ++ (a_symbol (codes ";") ∷ a_name h.name ∷ bound_word h.falls h.excludes ∷ (affine_words h.last
    ++ (a_symbol (codes ";") ∷ (step_words h.falls h.name h.step ++ (a_symbol (codes ")") ∷ []))))))

-- all its words
abbrev pub header_words : Header → List Word
header_words h = a_keyword (codes "for") ∷ a_symbol (codes "(") ∷ (int_words h.has_int ++ (a_name h.name ∷ bounds_words h))

-- the words of an `if` in front of its item
abbrev pub conditions_words : Compares → List Word
conditions_words cs = a_keyword (codes "if") ∷ a_symbol (codes "(") ∷ (compares_words cs ++ (a_symbol (codes ")") ∷ []))

-- scop := item*
-- item := ';' | '{' item* '}' | loop | guard | assign ';'
-- loop := header item
-- guard := 'if' '(' compare ('&&' compare)* ')' item
mutual
  pub data Item : Type 0 where
    nothing : Item
    block : Items → Item
    loop : Header → Item → Item
    guarded : Compares → Item → Item
    statement : Assign → Item

  pub data Items : Type 0 where
    item_end : Items
    item : Item → Items → Items

-- their words
abbrev mutual
  pub item_words : Item → List Word
  item_words nothing = a_symbol (codes ";") ∷ []
  item_words (block is) = a_symbol (codes "{") ∷ (items_words is ++ (a_symbol (codes "}") ∷ []))
  item_words (loop h i) = header_words h ++ item_words i
  item_words (guarded cs i) = conditions_words cs ++ item_words i
  item_words (statement a) = assign_words a ++ (a_symbol (codes ";") ∷ [])

  pub items_words : Items → List Word
  items_words item_end = []
  items_words (item i is) = item_words i ++ items_words is
