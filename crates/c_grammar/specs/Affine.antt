-- Affine expressions, comparisons and references of the grammar, and the words that they spell.
use Rattle.std.specs.Prelude.{ℕ, List, [], ◌∷◌, ◌++◌, codes}
use Rattle.c_grammar.specs.Words.{Word, a_name, a_number, a_symbol}

-- affine := term (('+' | '-') term)*
-- term   := factor ('*' factor)*
-- factor := integer | name | '(' affine ')' | '-' factor | '+' factor
mutual
  pub data Affine : Type 0 where
    sum : Term → Sums → Affine

  pub data Sums : Type 0 where
    sum_end : Sums
    plus : Term → Sums → Sums
    minus : Term → Sums → Sums

  pub data Term : Type 0 where
    product : Factor → Products → Term

  pub data Products : Type 0 where
    product_end : Products
    times : Factor → Products → Products

  pub data Factor : Type 0 where
    integer : List ℕ → Factor
    name : List ℕ → Factor
    in_brackets : Affine → Factor
    negative : Factor → Factor
    positive : Factor → Factor

-- their words
abbrev mutual
  pub affine_words : Affine → List Word
  affine_words (sum t ss) = term_words t ++ sums_words ss

  pub sums_words : Sums → List Word
  sums_words sum_end = []
  sums_words (plus t ss) = a_symbol (codes "+") ∷ (term_words t ++ sums_words ss)
  sums_words (minus t ss) = a_symbol (codes "-") ∷ (term_words t ++ sums_words ss)

  pub term_words : Term → List Word
  term_words (product f ps) = factor_words f ++ products_words ps

  pub products_words : Products → List Word
  products_words product_end = []
  products_words (times f ps) = a_symbol (codes "*") ∷ (factor_words f ++ products_words ps)

  pub factor_words : Factor → List Word
  factor_words (integer bytes) = a_number bytes ∷ []
  factor_words (name bytes) = a_name bytes ∷ []
  factor_words (in_brackets a) = a_symbol (codes "(") ∷ (affine_words a ++ (a_symbol (codes ")") ∷ []))
  factor_words (negative f) = a_symbol (codes "-") ∷ factor_words f
  factor_words (positive f) = a_symbol (codes "+") ∷ factor_words f

-- compare := affine ('>=' | '>' | '<=' | '<' | '==') affine
pub data Comparison : Type 0 where
  at_least : Comparison
  above : Comparison
  at_most : Comparison
  below : Comparison
  equal : Comparison

pub record Compare : Type 0 where
  pub left : Affine
  pub comparison : Comparison
  pub right : Affine

-- its words
abbrev pub comparison_word : Comparison → Word
comparison_word at_least = a_symbol (codes ">=")
comparison_word above = a_symbol (codes ">")
comparison_word at_most = a_symbol (codes "<=")
comparison_word below = a_symbol (codes "<")
comparison_word equal = a_symbol (codes "==")

abbrev pub compare_words : Compare → List Word
compare_words c = affine_words c.left ++ (comparison_word c.comparison ∷ affine_words c.right)

-- compare ('&&' compare)*
pub data Compares : Type 0 where
  last_compare : Compare → Compares
  compare : Compare → Compares → Compares

-- their words
abbrev pub compares_words : Compares → List Word
compares_words (last_compare c) = compare_words c
compares_words (compare c cs) = compare_words c ++ (a_symbol (codes "&&") ∷ compares_words cs)

-- ref := name ('[' affine ']')*
pub data Subscripts : Type 0 where
  subscript_end : Subscripts
  subscript : Affine → Subscripts → Subscripts

pub record Reference : Type 0 where
  pub name : List ℕ
  pub subscripts : Subscripts

-- its words
abbrev pub subscripts_words : Subscripts → List Word
subscripts_words subscript_end = []
subscripts_words (subscript a ss) = a_symbol (codes "[") ∷ (affine_words a ++ (a_symbol (codes "]") ∷ subscripts_words ss))

abbrev pub reference_words : Reference → List Word
reference_words r = a_name r.name ∷ subscripts_words r.subscripts
