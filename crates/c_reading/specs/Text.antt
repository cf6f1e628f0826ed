-- What a whole text says, or the fault that it has.
use Rattle.std.specs.Prelude.{ℕ, zero, suc, if◌then◌else◌, ℤ, pos, negsuc, List, [], ◌∷◌, ◌++◌, length, slice_set, Option, Some, None, Result, Ok, Err}
use Rattle.c_tokens.specs.declared.token.Token.{Token}
use Rattle.c_tokens.specs.Text.{tokens_of}
use Rattle.c_reading.specs.declared.named.Kind.{Kind}
use Rattle.c_reading.specs.Tree.{Items}
use Rattle.c_reading.specs.declared.error.ReadFault.{ReadFault}
use Rattle.c_reading.specs.Input.{Input, Rule, Outcome, ◌>>=◌, pure}
use Rattle.c_reading.specs.Numbers.{single, parameter_slot}
use Rattle.c_reading.specs.Compare.{Rows}
use Rattle.c_reading.specs.Head.{Head, head}
use Rattle.c_reading.specs.Items.{all_items}

-- What a text says: its names in order of first sight, with their kinds; the rows that are assumed; and its items.
pub record Reading : Type 0 where
  pub names : List (List ℕ)
  pub kinds : List Kind
  pub assumptions : Rows
  pub items : Items

-- the row of a parameter less 1
abbrev pub at_least_one : ℕ → List ℤ
at_least_one k = slice_set (single 0 (negsuc 0)) (parameter_slot k) (pos 1)

-- the rows of so many parameters less 1, in order
abbrev pub all_at_least_one : ℕ → Rows
all_at_least_one zero = []
all_at_least_one (suc k) = all_at_least_one k ++ at_least_one k ∷ []

-- what is assumed: what the lines say that assume, or that each parameter is at least 1
unfoldable pub assumptions_of : Head → Input → Rows
assumptions_of h i = if h.assumed then h.rows else all_at_least_one i.parameters

-- the directives, then the items up to the closing line
unfoldable pub text_rule : Rule (Head × Items)
text_rule = do
  h ← head
  items ← all_items
  pure (h, items)

-- what a text is read from
abbrev pub start_of : List ℕ → List Token → Input
start_of text tokens = record { text = text; tokens = tokens; names = []; kinds = []; parameters = 0; arrays = 0; statements = 0 }

abbrev pub reading_from : Outcome (Head × Items) → Result Reading ReadFault
reading_from (Ok p) = Ok (record { names = p.1.names; kinds = p.1.kinds; assumptions = assumptions_of p.0.0 p.1; items = p.0.1 })
reading_from (Err f) = Err f

abbrev pub reading_by : List ℕ → Option (List Token) → Result Reading ReadFault
reading_by bytes None = Err (record { number = 1; place = length bytes })
reading_by bytes (Some tokens) = reading_from (text_rule (start_of bytes tokens))

-- what a text says, or the fault that it has: fault 1 where no line opens the program or no later line closes it
abbrev pub reading_of : List ℕ → Result Reading ReadFault
reading_of bytes = reading_by bytes (tokens_of bytes)
