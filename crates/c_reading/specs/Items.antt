-- Items: statements, loops, guards and blocks.
use Rattle.std.specs.Prelude.{ℕ, zero, suc, ◌+◌, ◌-◌, ◌||◌, nat_le, Bool, true, false, not, if◌then◌else◌, ℤ, pos, negsuc, List, [], ◌∷◌, length, Option, Some, None, Result, Ok, Err, codes}
use Rattle.c_tokens.specs.declared.token.TokenKind.{TokenKind}
use Rattle.c_tokens.specs.declared.token.TokenKind.TheVariants as token
use Rattle.c_reading.specs.declared.named.Kind.{Kind}
use Rattle.c_reading.specs.declared.named.Kind.TheVariants as kind
use Rattle.c_reading.specs.declared.header.Limit.{Limit}
use Rattle.c_reading.specs.declared.tree.Header.{Header}
use Rattle.c_reading.specs.declared.error.ReadFault.{ReadFault}
use Rattle.c_reading.specs.Access.{Access, Statement}
use Rattle.c_reading.specs.Tree.{Items, done, with_item}
use Rattle.c_reading.specs.Tree as tree
use Rattle.c_reading.specs.Input.{Input, Rule, ◌>>=◌, ◌>>◌, pure, given, fault, fault_at, pass, refuse, sees, spelling, place, next, left, is_name_kind}
use Rattle.c_reading.specs.Input as input
use Rattle.c_reading.specs.Numbers.{most_loops, most_guards, combined, zeros}
use Rattle.c_reading.specs.Affine.{affine, closed_by, number_of, kind_of, with_name, is_short}
use Rattle.c_reading.specs.Refs.{access, with_kind}
use Rattle.c_reading.specs.Values.{Accesses, expect, value}
use Rattle.c_reading.specs.Guards.{bracket_behind, conditions, no_else}
use Rattle.iolb_model.specs.declared.limits.TheConstants.{STATEMENTS}

-- how many statements there may be
abbrev pub most_statements : ℕ
most_statements = STATEMENTS

-- ---- statements

-- an assignment's operator, and whether the reference that is written is read before
unfoldable pub operator : Rule Bool
operator i =
    if sees (codes "=") i then Ok (false, next i)
    else (if sees (codes "+=") i || sees (codes "-=") i || sees (codes "*=") i || sees (codes "/=") i then Ok (true, next i)
    else refuse i)

abbrev pub first_reads : Bool → Access → Accesses
first_reads true writes = writes ∷ []
first_reads false writes = []

-- there are so many statements now
unfoldable pub count_statements : ℕ → Rule (Unit {0})
count_statements count i = Ok (tt, record i { statements = count })

unfoldable pub assign : ℕ → Rule Statement
assign brackets = do
  writes ← access brackets
  updates ← operator
  reads ← value brackets (first_reads updates writes)
  pure (record { writes = writes; reads = reads })

-- whether a name may be written: it is new, or an array
abbrev pub is_array : Option Kind → Bool
is_array None = true
is_array (Some (kind.Parameter k)) = false
is_array (Some (kind.OpenLoop depth)) = false
is_array (Some kind.ClosedLoop) = false
is_array (Some (kind.Array number subscripts)) = true

-- a statement, of which there are so many then, behind these items
unfoldable pub counted : ℕ → ℕ → Items → Rule Items
counted brackets count items = do
  s ← assign brackets
  count_statements count
  expect (codes ";")
  pure (with_item items (tree.assign s))

-- the same, where there aren't too many
unfoldable pub statement : ℕ → Items → Rule Items
statement brackets items i =
    if not (is_array (kind_of (spelling i) i)) then fault 6 i
    else (if nat_le most_statements i.statements then fault 10 i
    else counted brackets (i.statements + 1) items i)

-- ---- headers

-- a new name, which becomes a loop's, where it has 1 to 64 bytes. Its number among the names.
unfoldable pub new_loop : Rule ℕ
new_loop i = if is_short (spelling i) then Ok (length i.names, next (with_name (spelling i) kind.ClosedLoop i)) else fault 10 i

abbrev pub loop_again : Option ℕ → Rule ℕ
loop_again None = fault 7
loop_again (Some at) = pass >> pure at

-- the name of a loop, by its kind: a new name, or that of a loop that was left
abbrev pub loop_name_by : Option ℕ → Option Kind → Rule ℕ
loop_name_by at None = new_loop
loop_name_by at (Some kind.ClosedLoop) = loop_again at
loop_name_by at (Some (kind.Parameter k)) = fault 7
loop_name_by at (Some (kind.OpenLoop depth)) = fault 7
loop_name_by at (Some (kind.Array number subscripts)) = fault 7

unfoldable pub loop_name : Rule ℕ
loop_name i =
    if is_name_kind (input.kind i) then loop_name_by (number_of (spelling i) i) (kind_of (spelling i) i) i else refuse i

-- what the comparison says of the loop: whether it runs downward, and how much less than the expression the bound is
unfoldable pub comparison : Rule Limit
comparison i =
    if sees (codes "<") i then Ok (record { down = false; less = pos 1 }, next i)
    else (if sees (codes "<=") i then Ok (record { down = false; less = pos 0 }, next i)
    else (if sees (codes ">") i then Ok (record { down = true; less = negsuc 0 }, next i)
    else (if sees (codes ">=") i then Ok (record { down = true; less = pos 0 }, next i)
    else refuse i)))

abbrev pub bound_of : ℕ → Option (List ℤ) → Result (List ℤ) ReadFault
bound_of start None = Err (record { number = 11; place = start })
bound_of start (Some numbers) = Ok numbers

-- the expression less this much, where its numbers are small; else fault 11 where the expression begins
unfoldable pub bound : ℕ → ℤ → List ℤ → Result (List ℤ) ReadFault
bound start less numbers = bound_of start (combined (pos 1) less zeros numbers)

-- why no step goes on with the next token: what isn't a token at all keeps its fault, else the step isn't of a stated form
abbrev pub step_fault : ℕ → TokenKind → ℕ → ReadFault
step_fault start token.Bad there = record { number = 2; place = there }
step_fault start token.Directive there = record { number = 3; place = there }
step_fault start _ there = record { number = 5; place = start }

unfoldable pub refusal_in_step : ℕ → Input → ReadFault
refusal_in_step start i = step_fault start (input.kind i) (place i)

unfoldable pub expect_in_step : ℕ → List ℕ → Rule (Unit {0})
expect_in_step start word i = if sees word i then Ok (tt, next i) else Err (refusal_in_step start i)

-- the symbols of a step, by whether the loop runs downward: of a step by one, by the number behind it, and its sign
abbrev pub twice : Bool → List ℕ
twice false = codes "++"
twice true = codes "--"

abbrev pub updating : Bool → List ℕ
updating false = codes "+="
updating true = codes "-="

abbrev pub sign : Bool → List ℕ
sign false = codes "+"
sign true = codes "-"

-- a step by one behind the loop's name
unfoldable pub step_behind_name : ℕ → Bool → List ℕ → Rule (Unit {0})
step_behind_name start down name i =
    if sees (twice down) i then Ok (tt, next i)
    else (if sees (updating down) i then expect_in_step start (codes "1") (next i)
    else (if sees (codes "=") i then (expect_in_step start name >> expect_in_step start (sign down) >> expect_in_step start (codes "1")) (next i)
    else Err (refusal_in_step start i)))

-- a step by one
unfoldable pub step : Bool → List ℕ → Rule (Unit {0})
step down name i =
    if sees name i then step_behind_name (place i) down name (next i)
    else (if sees (twice down) i then expect_in_step (place i) name (next i)
    else Err (refusal_in_step (place i) i))

unfoldable pub skip_int : Input → Input
skip_int i = if sees (codes "int") i then next i else i

-- the first bound, behind a loop's name
unfoldable pub first_bound : ℕ → Rule (List ℤ)
first_bound brackets = do
  expect (codes "=")
  a ← affine brackets None
  b ← closed_by (codes ";") a
  pure b.numbers

-- the bound behind its comparison
unfoldable pub last_from : ℕ → ℕ → ℤ → Rule (List ℤ)
last_from brackets start less = do
  a ← affine brackets None
  numbers ← given (bound start less a.numbers)
  closed_by (codes ";") a
  pure numbers

-- the header of a loop whose bounds stand in this order: one that runs downward begins with its upper bound
abbrev pub header_by : ℕ → Bool → List ℤ → List ℤ → Header
header_by name false first last = record { name = name; down = false; lower = first; upper = last }
header_by name true first last = record { name = name; down = true; lower = last; upper = first }

-- the rest of a header behind its first bound
unfoldable pub header_from : ℕ → List ℕ → ℕ → List ℤ → Rule Header
header_from brackets name at first = do
  expect name
  limit ← comparison
  last ← λ i. last_from brackets (place i) limit.less i
  step limit.down name
  pure (header_by at limit.down first last)

-- a header behind its bracket, of the loop of this name
unfoldable pub header_of : ℕ → List ℕ → Rule Header
header_of brackets name = do
  at ← loop_name
  first ← first_bound brackets
  h ← header_from brackets name at first
  expect (codes ")")
  pure h

unfoldable pub header : ℕ → Rule Header
header brackets = bracket_behind brackets >> (λ i. header_of (brackets - 1) (spelling (skip_int i)) (skip_int i))

-- ---- loops, guards and blocks

-- the loop of this name begins at this depth, and ends
unfoldable pub opened : ℕ → ℕ → Rule (Unit {0})
opened depth at i = Ok (tt, with_kind at (kind.OpenLoop depth) i)

unfoldable pub closed : ℕ → Rule (Unit {0})
closed at i = Ok (tt, with_kind at kind.ClosedLoop i)

-- a loop at this depth over such an item, behind these items
unfoldable pub for_loop : (Items → Rule Items) → ℕ → ℕ → Items → Rule Items
for_loop item depth brackets items = do
  h ← header brackets
  opened depth h.name
  body ← item done
  closed h.name
  pure (with_item items (tree.loop h body))

-- A guard over such an item, behind these items, where there may be so many rows. The item is told how many rows the guard
-- has beside the first.
unfoldable pub guard : (ℕ → ℕ → Items → Rule Items) → ℕ → ℕ → Items → Rule Items
guard item room brackets items = do
  rows ← conditions brackets room
  body ← item (length rows - 1) brackets done
  no_else
  pure (with_item items (tree.guard rows body))

-- items up to the bracket that closes the block. The number bounds the turns, and each turn takes a token.
unfoldable pub block_items : (Items → Rule Items) → ℕ → Items → Rule Items
block_items item zero items i = refuse i
block_items item (suc turns) items i =
    if sees (codes "}") i then Ok (items, next i) else (item items >>= block_items item turns) i

unfoldable pub all_block_items : (Items → Rule Items) → Items → Rule Items
all_block_items item items i = block_items item (left i) items i

-- an item, over what a block, a loop and a guard are, behind these items
unfoldable pub item_by : (Items → Rule Items) → (Items → Rule Items) → (Items → Rule Items) → ℕ → Items → Rule Items
item_by block loop guard brackets items i =
    if sees (codes ";") i then Ok (items, next i)
    else (if sees (codes "{") i then block items i
    else (if sees (codes "for") i then loop items i
    else (if sees (codes "if") i then guard items i
    else (if is_name_kind (input.kind i) then statement brackets items i
    else refuse i))))

-- a block, over what a loop and a guard are, where so many brackets may still be opened
unfoldable pub block : (ℕ → Items → Rule Items) → (ℕ → Items → Rule Items) → ℕ → Items → Rule Items
block loop guard zero items i = fault 9 i
block loop guard (suc brackets) items i =
    all_block_items (item_by (block loop guard brackets) (loop brackets) (guard brackets) brackets) items (next i)

unfoldable pub item_over : (ℕ → Items → Rule Items) → (ℕ → Items → Rule Items) → ℕ → Items → Rule Items
item_over loop guard brackets = item_by (block loop guard brackets) (loop brackets) (guard brackets) brackets

-- An item over what a loop is, where there may be so many rows of guards less these. By recursion on the rows that there may
-- be: a guard's first row leaves one fewer, and its others are left out there.
unfoldable pub item_behind : (ℕ → ℕ → Items → Rule Items) → ℕ → ℕ → ℕ → Items → Rule Items
item_behind loop zero taken = item_over (loop 0) (guard (λ rows brackets items. refuse) 0)
item_behind loop (suc room) zero = item_over (loop (suc room)) (guard (item_behind loop room) (suc room))
item_behind loop (suc room) (suc taken) = item_behind loop room taken

-- a guard over what a loop is, where there may be so many rows; without room for one its first compare is a fault
unfoldable pub guards : (ℕ → ℕ → Items → Rule Items) → ℕ → ℕ → Items → Rule Items
guards loop zero = guard (λ rows brackets items. refuse) 0
guards loop (suc room) = guard (item_behind loop room) (suc room)

-- a loop, where so many loops, rows of guards and brackets may still be opened
unfoldable pub loops : ℕ → ℕ → ℕ → Items → Rule Items
loops zero room brackets items i = fault 9 i
loops (suc more) room brackets items i =
    for_loop (item_behind (loops more) room 0 brackets) (most_loops - 1 - more) brackets items i

-- an item, where so many loops, rows of guards and brackets may still be opened
unfoldable pub item : ℕ → ℕ → ℕ → Items → Rule Items
item more room = item_behind (loops more) room 0

abbrev pub is_end : TokenKind → Bool
is_end token.End = true
is_end _ = false

-- items up to the closing line
unfoldable pub items : ℕ → Items → Rule Items
items zero all i = refuse i
items (suc turns) all i = if is_end (input.kind i) then Ok (all, i) else (item most_loops most_guards 64 all >>= items turns) i

unfoldable pub all_items : Rule Items
all_items i = items (left i) done i
