-- Affine expressions: a sum of products of factors, with at most one factor that has a name in each product.
use Rattle.std.specs.Prelude.{ℕ, zero, suc, ◌+◌, ◌&&◌, ◌||◌, nat_lt, nat_le, Bool, true, false, not, if◌then◌else◌, ℤ, pos, negsuc, List, [], ◌∷◌, ◌++◌, length, position, slice_get, option_and_then, bytes_eq, Option, Some, None, Result, Ok, Err, codes}
use Rattle.c_reading.specs.declared.named.Kind.{Kind}
use Rattle.c_reading.specs.declared.named.Kind.TheVariants.{Parameter, OpenLoop, ClosedLoop, Array}
use Rattle.c_reading.specs.declared.error.ReadFault.{ReadFault}
use Rattle.c_reading.specs.Input.{Input, Rule, ◌>>=◌, ◌>>◌, pure, given, fault, fault_at, pass, refuse, refusal, sees, spelling, kind, place, next, left, is_name_kind, is_number_kind}
use Rattle.c_reading.specs.Numbers.{most_parameters, single, parameter_slot, loop_slot, combined, zeros, constant_of, value_from, is_integer}
use Rattle.iolb_model.specs.declared.limits.TheConstants.{NUMBER_SIZE, NAME_BYTES}

-- an expression that was read: its numbers, whether a name stands in it, and whether its last token is a name
pub record Affine : Type 0 where
  pub numbers : List ℤ
  pub has_name : Bool
  pub ends_in_name : Bool

-- ---- names

-- the number of a name that was seen
abbrev pub number_of : List ℕ → Input → Option ℕ
number_of name i = position (bytes_eq name) i.names

-- its kind
unfoldable pub kind_of : List ℕ → Input → Option Kind
kind_of name i = option_and_then (λ at. slice_get i.kinds at) (number_of name i)

-- one name more, of this kind
unfoldable pub with_name : List ℕ → Kind → Input → Input
with_name name kind i = record i { names = i.names ++ name ∷ []; kinds = i.kinds ++ kind ∷ [] }

-- a name has 1 to 64 bytes
abbrev pub is_short : List ℕ → Bool
is_short name = nat_le 1 (length name) && nat_le (length name) NAME_BYTES

-- the place of a new name's coefficient: it becomes a parameter, where it has 1 to 64 bytes and there aren't too many
unfoldable pub new_parameter : Rule ℕ
new_parameter i =
    if is_short (spelling i) && nat_lt i.parameters most_parameters
    then Ok (parameter_slot i.parameters, next (record (with_name (spelling i) (Parameter i.parameters) i) { parameters = i.parameters + 1 }))
    else fault 10 i

-- the place of a name's coefficient, by its kind: a parameter, or a loop around it
abbrev pub slot_by : Option Kind → Rule ℕ
slot_by None = new_parameter
slot_by (Some (Parameter k)) = pass >> pure (parameter_slot k)
slot_by (Some (OpenLoop depth)) = pass >> pure (loop_slot depth)
slot_by (Some ClosedLoop) = fault 6
slot_by (Some (Array number subscripts)) = fault 6

unfoldable pub slot : Rule ℕ
slot i = slot_by (kind_of (spelling i) i) i

-- ---- factors

abbrev pub one_name : ℕ → Affine
one_name there = record { numbers = single there (pos 1); has_name = true; ends_in_name = true }

abbrev pub one_number : ℤ → Affine
one_number n = record { numbers = single 0 n; has_name = false; ends_in_name = false }

-- A name where names may stand, or where the product has one before: then the fault is at the `*`.
abbrev pub name_by : Option ℕ → Rule Affine
name_by None = slot >>= (λ there. pure (one_name there))
name_by (Some star) = fault_at 4 star

abbrev pub number : Rule Affine
number i =
    if is_integer (spelling i) then (if nat_lt (value_from 0 (spelling i)) NUMBER_SIZE then Ok (one_number (pos (value_from 0 (spelling i))), next i) else fault 11 i)
    else fault 4 i

-- a factor without its signs
unfoldable pub atom : (Option ℕ → Rule Affine) → Option ℕ → Rule Affine
atom bracketed star i =
    if is_name_kind (kind i) then name_by star i
    else (if is_number_kind (kind i) then number i
    else (if sees (codes "(") i then bracketed star i else refuse i))

-- the signs in front of a factor, and whether they make it negative
unfoldable pub signs : ℕ → Bool → Rule Bool
signs zero negative i = refuse i
signs (suc turns) negative i =
    if sees (codes "-") i then signs turns (not negative) (next i)
    else (if sees (codes "+") i then signs turns negative (next i) else Ok (negative, i))

unfoldable pub all_signs : Rule Bool
all_signs i = signs (left i) false i

-- the expression of these numbers, where they are small; else fault 11 where the expression around them begins
abbrev pub small : ℕ → Option (List ℤ) → Bool → Bool → Result Affine ReadFault
small start None has_name ends_in_name = Err (record { number = 11; place = start })
small start (Some numbers) has_name ends_in_name = Ok (record { numbers = numbers; has_name = has_name; ends_in_name = ends_in_name })

abbrev pub sign_of : Bool → ℤ
sign_of true = negsuc 0
sign_of false = pos 1

-- an expression, or its negative
unfoldable pub signed : ℕ → Bool → Affine → Result Affine ReadFault
signed start negative a = small start (combined (sign_of negative) (pos 0) zeros a.numbers) a.has_name a.ends_in_name

-- a product of two expressions, of which at most one has a name
unfoldable pub product : ℕ → Affine → Affine → Result Affine ReadFault
product start a b =
    small start (if b.has_name then combined (constant_of a.numbers) (pos 0) zeros b.numbers else combined (constant_of b.numbers) (pos 0) zeros a.numbers)
    (a.has_name || b.has_name) b.ends_in_name

-- a sum, or a difference
unfoldable pub sum : ℕ → Bool → Affine → Affine → Result Affine ReadFault
sum start negative a b = small start (combined (sign_of negative) (pos 0) a.numbers b.numbers) (a.has_name || b.has_name) b.ends_in_name

-- a factor with its signs
unfoldable pub factor : (Option ℕ → Rule Affine) → ℕ → Option ℕ → Rule Affine
factor bracketed start star = do
  negative ← all_signs
  a ← atom bracketed star
  given (signed start negative a)

-- ---- products and sums. The number bounds the turns, and each turn takes a token, so the count of tokens is enough.

-- where the factor behind a `*` may have no name: at the first such `*`
abbrev pub star_of : Option ℕ → Bool → ℕ → Option ℕ
star_of (Some star) has_name there = Some star
star_of None has_name there = if has_name then Some there else None

unfoldable pub products : (Option ℕ → Rule Affine) → ℕ → Option ℕ → ℕ → Affine → Rule Affine
products bracketed start star zero a i = refuse i
products bracketed start star (suc turns) a i =
    if sees (codes "*") i
    then (factor bracketed start (star_of star a.has_name (place i)) >>= (λ b. given (product start a b) >>= products bracketed start star turns)) (next i)
    else Ok (a, i)

unfoldable pub term : (Option ℕ → Rule Affine) → ℕ → Option ℕ → Rule Affine
term bracketed start star = factor bracketed start star >>= (λ a i. products bracketed start star (left i) a i)

unfoldable pub sums : (Option ℕ → Rule Affine) → ℕ → Option ℕ → ℕ → Affine → Rule Affine
sums bracketed start star zero a i = refuse i
sums bracketed start star (suc turns) a i =
    if not (sees (codes "-") i) && not (sees (codes "+") i) then Ok (a, i)
    else (term bracketed start star >>= (λ b. given (sum start (sees (codes "-") i) a b) >>= sums bracketed start star turns)) (next i)

-- an expression, over what brackets hold
unfoldable pub affine_by : (Option ℕ → Rule Affine) → Option ℕ → Rule Affine
affine_by bracketed star i = (term bracketed (place i) star >>= (λ a j. sums bracketed (place i) star (left j) a j)) i

-- Why nothing that may follow an expression does: what may stand in no affine expression is fault 4 behind a factor.
unfoldable pub refusal_after : Affine → Input → ReadFault
refusal_after a i =
    if sees (codes "/") i || sees (codes "%") i || sees (codes "?") i || sees (codes ".") i || sees (codes "[") i || (sees (codes "(") i && a.ends_in_name)
    then record { number = 4; place = place i }
    else refusal i

-- this symbol has to follow the expression
unfoldable pub closed_by : List ℕ → Affine → Rule Affine
closed_by word a i = if sees word i then Ok (record a { ends_in_name = false }, next i) else Err (refusal_after a i)

-- an expression in brackets, where so many may still be opened
unfoldable pub bracketed : ℕ → Option ℕ → Rule Affine
bracketed zero star i = fault 9 i
bracketed (suc brackets) star i = (affine_by (bracketed brackets) star >>= closed_by (codes ")")) (next i)

-- an affine expression, where so many brackets may still be opened
unfoldable pub affine : ℕ → Option ℕ → Rule Affine
affine brackets star = affine_by (bracketed brackets) star
