-- The directives before a program: lines that name parameters, and lines that assume.
use Rattle.std.specs.Prelude.{ℕ, zero, suc, Bool, true, false, if◌then◌else◌, [], Ok, Err}
use Rattle.c_tokens.specs.declared.token.TokenKind.{TokenKind}
use Rattle.c_tokens.specs.declared.token.TokenKind.TheVariants as token
use Rattle.c_reading.specs.Input.{Rule, ◌>>=◌, pass, refuse, kind, left, is_name_kind, next}
use Rattle.c_reading.specs.Affine.{refusal_after, slot}
use Rattle.c_reading.specs.Compare.{Rows, Compared, most_brackets, most_rows, all_compares}

abbrev pub is_line_end : TokenKind → Bool
is_line_end token.LineEnd = true
is_line_end _ = false

abbrev pub is_parameters : TokenKind → Bool
is_parameters token.Parameters = true
is_parameters _ = false

abbrev pub is_assumptions : TokenKind → Bool
is_assumptions token.Assumptions = true
is_assumptions _ = false

-- names up to the line's end, each a parameter
unfoldable pub parameter_names : ℕ → Rule (Unit {0})
parameter_names zero i = refuse i
parameter_names (suc turns) i =
    if is_line_end (kind i) then pass i
    else (if is_name_kind (kind i) then (slot >>= (λ _. parameter_names turns)) i else refuse i)

unfoldable pub all_parameter_names : Rule (Unit {0})
all_parameter_names i = parameter_names (left i) i

-- the line has to end behind its compares
unfoldable pub closed_line : Compared → Rule Rows
closed_line c i = if is_line_end (kind i) then Ok (c.rows, next i) else Err (refusal_after c.last i)

-- a line's compares, whose rows come behind these
unfoldable pub line_compares : Rows → Rule Rows
line_compares rows = all_compares most_brackets most_rows rows >>= closed_line

-- the rows that are assumed, and whether a line assumes
pub record Head : Type 0 where
  pub assumed : Bool
  pub rows : Rows

unfoldable pub directives : ℕ → Head → Rule Head
directives zero h i = refuse i
directives (suc turns) h i =
    if is_parameters (kind i) then (all_parameter_names >>= (λ _. directives turns h)) (next i)
    else (if is_assumptions (kind i) then (line_compares h.rows >>= (λ rows. directives turns (record { assumed = true; rows = rows }))) (next i)
    else Ok (h, i))

-- the directives in front of a text
unfoldable pub head : Rule Head
head i = directives (left i) (record { assumed = false; rows = [] }) i
