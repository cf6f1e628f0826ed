-- Values of the grammar, and the words that they spell.
use Rattle.std.specs.Prelude.{ℕ, List, [], ◌∷◌, ◌++◌, codes}
use Rattle.c_grammar.specs.Words.{Word, a_name, a_number, a_symbol}
use Rattle.c_grammar.specs.Affine.{Reference, reference_words}

-- '+' | '-' | '*' | '/' | '%'
pub data Operator : Type 0 where
  adds : Operator
  subtracts : Operator
  multiplies : Operator
  divides : Operator
  takes_rest : Operator

-- its word
abbrev pub operator_word : Operator → Word
operator_word adds = a_symbol (codes "+")
operator_word subtracts = a_symbol (codes "-")
operator_word multiplies = a_symbol (codes "*")
operator_word divides = a_symbol (codes "/")
operator_word takes_rest = a_symbol (codes "%")

-- value := unary (('+' | '-' | '*' | '/' | '%') unary)*
-- unary := number | ref | name '(' [value (',' value)*] ')' | '(' value ')' | '-' unary | '+' unary
mutual
  pub data Value : Type 0 where
    value : Unary → Operands → Value

  pub data Operands : Type 0 where
    operand_end : Operands
    operand : Operator → Unary → Operands → Operands

  pub data Unary : Type 0 where
    number : List ℕ → Unary
    reference : Reference → Unary
    call_of_none : List ℕ → Unary
    call : List ℕ → Arguments → Unary
    in_brackets : Value → Unary
    negative : Unary → Unary
    positive : Unary → Unary

  pub data Arguments : Type 0 where
    last_argument : Value → Arguments
    argument : Value → Arguments → Arguments

-- their words
abbrev mutual
  pub value_words : Value → List Word
  value_words (value u os) = unary_words u ++ operands_words os

  pub operands_words : Operands → List Word
  operands_words operand_end = []
  operands_words (operand o u os) = operator_word o ∷ (unary_words u ++ operands_words os)

  pub unary_words : Unary → List Word
  unary_words (number bytes) = a_number bytes ∷ []
  unary_words (reference r) = reference_words r
  unary_words (call_of_none name) = a_name name ∷ a_symbol (codes "(") ∷ a_symbol (codes ")") ∷ []
  unary_words (call name more) = a_name name ∷ a_symbol (codes "(") ∷ (arguments_words more ++ (a_symbol (codes ")") ∷ []))
  unary_words (in_brackets v) = a_symbol (codes "(") ∷ (value_words v ++ (a_symbol (codes ")") ∷ []))
  unary_words (negative u) = a_symbol (codes "-") ∷ unary_words u
  unary_words (positive u) = a_symbol (codes "+") ∷ unary_words u

  pub arguments_words : Arguments → List Word
  arguments_words (last_argument v) = value_words v
  arguments_words (argument v more) = value_words v ++ (a_symbol (codes ",") ∷ arguments_words more)
