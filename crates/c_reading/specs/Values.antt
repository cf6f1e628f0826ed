-- Values: what a statement assigns. Only the references in them are kept, in order.
use Rattle.std.specs.Prelude.{ℕ, zero, suc, ◌==◌, ◌||◌, nat_le, Bool, not, if◌then◌else◌, List, [], ◌∷◌, ◌++◌, length, Option, Some, None, Ok, codes}
use Rattle.c_reading.specs.declared.named.Kind.{Kind}
use Rattle.c_reading.specs.declared.named.Kind.TheVariants as kind
use Rattle.c_reading.specs.Access.{Access}
use Rattle.c_reading.specs.Input.{Input, Rule, ◌>>=◌, ◌>>◌, pure, fault, pass, refuse, sees, spelling, next, left, is_name_kind, is_number_kind}
use Rattle.c_reading.specs.Input as input
use Rattle.c_reading.specs.Affine.{kind_of, is_short, all_signs}
use Rattle.c_reading.specs.Refs.{access}
use Rattle.iolb_model.specs.declared.limits.TheConstants.{READS}

-- how many references a statement may read
abbrev pub most_reads : ℕ
most_reads = READS

abbrev pub Accesses : Type 0
Accesses = List Access

-- this token has to follow
unfoldable pub expect : List ℕ → Rule (Unit {0})
expect word i = if sees word i then Ok (tt, next i) else refuse i

-- a bracket, where so many may still be opened
unfoldable pub open_bracket : ℕ → Rule (Unit {0})
open_bracket brackets i = if brackets == 0 then fault 9 i else Ok (tt, next i)

-- a parameter or a loop is a plain number, without subscripts
unfoldable pub plain : Accesses → Rule Accesses
plain reads i = if sees (codes "[") (next i) then fault 6 i else Ok (reads, next i)

-- one reference more, where they aren't too many
unfoldable pub one_read : ℕ → Accesses → Rule Accesses
one_read brackets reads i =
    if nat_le most_reads (length reads) then fault 10 i
    else (access brackets >>= (λ a. pure (reads ++ a ∷ []))) i

-- a name that isn't called, by its kind
abbrev pub name_by : ℕ → Accesses → Option Kind → Rule Accesses
name_by brackets reads None = one_read brackets reads
name_by brackets reads (Some (kind.Parameter k)) = plain reads
name_by brackets reads (Some (kind.OpenLoop depth)) = plain reads
name_by brackets reads (Some kind.ClosedLoop) = fault 6
name_by brackets reads (Some (kind.Array number subscripts)) = one_read brackets reads

-- ---- over what brackets hold. The number bounds the turns, and each turn takes a token.

-- values with commas between them, and the bracket that closes them
unfoldable pub arguments : (Accesses → Rule Accesses) → ℕ → Accesses → Rule Accesses
arguments inside zero reads i = refuse i
arguments inside (suc turns) reads i = (inside reads >>= (λ more j.
    if sees (codes ",") j then arguments inside turns more (next j) else (expect (codes ")") >> pure more) j)) i

unfoldable pub all_arguments : (Accesses → Rule Accesses) → Accesses → Rule Accesses
all_arguments inside reads i = arguments inside (left i) reads i

-- a call behind its `(`
unfoldable pub called : (Accesses → Rule Accesses) → Accesses → Rule Accesses
called inside reads i = if sees (codes ")") i then Ok (reads, next i) else all_arguments inside reads i

-- a call: the function's name, which has no kind, and its arguments
unfoldable pub call : (Accesses → Rule Accesses) → ℕ → Accesses → Rule Accesses
call inside brackets reads i =
    if is_short (spelling i) then (pass >> open_bracket brackets >> called inside reads) i else fault 10 i

-- a name is judged with the token behind it
unfoldable pub named : (Accesses → Rule Accesses) → ℕ → Accesses → Rule Accesses
named inside brackets reads i =
    if sees (codes "(") (next i) then call inside brackets reads i else name_by brackets reads (kind_of (spelling i) i) i

-- a value in brackets
unfoldable pub grouped : (Accesses → Rule Accesses) → ℕ → Accesses → Rule Accesses
grouped inside brackets reads = do
  open_bracket brackets
  more ← inside reads
  expect (codes ")")
  pure more

unfoldable pub primary : (Accesses → Rule Accesses) → ℕ → Accesses → Rule Accesses
primary inside brackets reads i =
    if is_number_kind (input.kind i) then Ok (reads, next i)
    else (if is_name_kind (input.kind i) then named inside brackets reads i
    else (if sees (codes "(") i then grouped inside brackets reads i else refuse i))

-- a value with its signs
unfoldable pub unary : (Accesses → Rule Accesses) → ℕ → Accesses → Rule Accesses
unary inside brackets reads = all_signs >> primary inside brackets reads

unfoldable pub is_operator : Input → Bool
is_operator i = sees (codes "+") i || sees (codes "-") i || sees (codes "*") i || sees (codes "/") i || sees (codes "%") i

unfoldable pub operands : (Accesses → Rule Accesses) → ℕ → ℕ → Accesses → Rule Accesses
operands inside brackets zero reads i = refuse i
operands inside brackets (suc turns) reads i =
    if not (is_operator i) then Ok (reads, i)
    else (unary inside brackets reads >>= operands inside brackets turns) (next i)

unfoldable pub value_by : (Accesses → Rule Accesses) → ℕ → Accesses → Rule Accesses
value_by inside brackets reads = unary inside brackets reads >>= (λ more i. operands inside brackets (left i) more i)

-- the value that brackets hold, where so many were left before them
unfoldable pub inside : ℕ → Accesses → Rule Accesses
inside zero reads i = refuse i
inside (suc brackets) reads i = value_by (inside brackets) brackets reads i

-- a value, where so many brackets may still be opened; its references behind these
unfoldable pub value : ℕ → Accesses → Rule Accesses
value brackets reads = value_by (inside brackets) brackets reads
