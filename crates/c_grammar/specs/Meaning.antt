-- What a tree of the grammar means, with the names seen so far, and whether it is within the limits: None where it isn't,
-- or where a name is used against its kind.
use Rattle.std.specs.Prelude.{ℕ, zero, suc, ◌+◌, ◌-◌, ◌==◌, ◌&&◌, ◌||◌, nat_lt, nat_le, Bool, true, false, not, if◌then◌else◌, ℤ, pos, negsuc, List, [], ◌∷◌, ◌++◌, length, Option, Some, None, option_map, option_and_then}
use Rattle.c_reading.specs.declared.named.Kind.{Kind}
use Rattle.c_reading.specs.declared.named.Kind.TheVariants as kind
use Rattle.c_reading.specs.declared.tree.Header.{Header}
use Rattle.c_reading.specs.Access.{Access, Statement}
use Rattle.c_reading.specs.Tree.{Items, assign, loop, guard, done, with_item}
use Rattle.c_reading.specs.Input.{Input}
use Rattle.c_reading.specs.Numbers.{most_parameters, most_loops, most_guards, single, parameter_slot, loop_slot, combined, zeros, constant_of, value_from, is_integer}
use Rattle.c_reading.specs.Affine.{kind_of, number_of, with_name, is_short, sign_of}
use Rattle.c_reading.specs.Compare.{Rows, most_brackets, most_rows}
use Rattle.c_reading.specs.Head.{Head}
use Rattle.c_reading.specs.Refs.{most_arrays, most_subscripts, with_kind}
use Rattle.c_reading.specs.Values.{Accesses, most_reads}
use Rattle.c_reading.specs.Items.{most_statements, first_reads, is_array, header_by}
use Rattle.c_reading.specs.Text.{Reading, assumptions_of, start_of}
use Rattle.c_grammar.specs.Affine as tree
use Rattle.c_grammar.specs.Value as value
use Rattle.c_grammar.specs.Item as item
use Rattle.c_grammar.specs.Text as text
use Rattle.iolb_model.specs.declared.limits.TheConstants.{NUMBER_SIZE}

-- The names so far in order of first sight with their kinds, how many are parameters and how many arrays, and how many
-- statements there are so far: an input, of which no text and no tokens are left.
abbrev pub Names : Type 0
Names = Input

-- what a tree means behind these names, and the names behind it
abbrev pub Meaning : Type 0 → Type 0
Meaning A = Names → Option (A × Names)

-- what follows means something only where this does
abbrev pub then_in : {A B : Type 0} → Option (A × Names) → (A → Meaning B) → Option (B × Names)
then_in None f = None
then_in (Some p) f = f p.0 p.1

-- one meaning, then another that has its value
infixl 10 ◌>>=◌
abbrev pub ◌>>=◌ : {A B : Type 0} → Meaning A → (A → Meaning B) → Meaning B
m >>= f = λ s. then_in (m s) f

-- one meaning, then another
infixl 10 ◌>>◌
abbrev pub ◌>>◌ : {A B : Type 0} → Meaning A → Meaning B → Meaning B
m >> n = m >>= (λ _. n)

-- this value
abbrev pub pure : {A : Type 0} → A → Meaning A
pure a = λ s. Some (a, s)

-- this value, where it is there
abbrev pub given : {A : Type 0} → Option A → Meaning A
given None = λ s. None
given (Some a) = pure a

-- no meaning
abbrev pub none : {A : Type 0} → Meaning A
none = λ s. None

-- ---- affine expressions

-- an expression's numbers, and whether a name stands in it
pub record Form : Type 0 where
  pub numbers : List ℤ
  pub has_name : Bool

-- the form of these numbers, where they are small
abbrev pub form : Bool → Option (List ℤ) → Option Form
form has_name numbers = option_map (λ ns. record { numbers = ns; has_name = has_name }) numbers

-- a name's place among the numbers, by its kind: that of a parameter, which a new name becomes, or of a loop around it
abbrev pub slot_by : List ℕ → Option Kind → Meaning ℕ
slot_by name None s =
    if is_short name && nat_lt s.parameters most_parameters
    then Some (parameter_slot s.parameters, record (with_name name (kind.Parameter s.parameters) s) { parameters = s.parameters + 1 })
    else None
slot_by name (Some (kind.Parameter k)) s = Some (parameter_slot k, s)
slot_by name (Some (kind.OpenLoop depth)) s = Some (loop_slot depth, s)
slot_by name (Some kind.ClosedLoop) s = None
slot_by name (Some (kind.Array number subscripts)) s = None

-- the same, of a name
unfoldable pub slot : List ℕ → Meaning ℕ
slot name s = slot_by name (kind_of name s) s

-- digits alone, without a leading 0, which mean a number below 2^20
unfoldable pub integer_means : List ℕ → Option ℤ
integer_means bytes = if is_integer bytes && nat_lt (value_from 0 bytes) NUMBER_SIZE then Some (pos (value_from 0 bytes)) else None

-- the negative of a form
abbrev pub negated : Form → Option Form
negated a = form a.has_name (combined (negsuc 0) (pos 0) zeros a.numbers)

-- a product: at most one of the two has a name, and the other is its constant
abbrev pub times : Form → Form → Option Form
times a b =
    if a.has_name && b.has_name then None
    else form (a.has_name || b.has_name)
    (if b.has_name then combined (constant_of a.numbers) (pos 0) zeros b.numbers else combined (constant_of b.numbers) (pos 0) zeros a.numbers)

-- a sum, or a difference
abbrev pub plus : Bool → Form → Form → Option Form
plus negative a b = form (a.has_name || b.has_name) (combined (sign_of negative) (pos 0) a.numbers b.numbers)

-- Expressions, where so many brackets may still be opened. What follows a term or a factor is added or multiplied from left
-- to right.
unfoldable mutual
  pub affine_means : ℕ → tree.Affine → Meaning Form
  affine_means brackets (tree.sum t ss) = term_means brackets t >>= (λ a. sums_means brackets a ss)

  pub sums_means : ℕ → Form → tree.Sums → Meaning Form
  sums_means brackets a tree.sum_end = pure a
  sums_means brackets a (tree.plus t ss) = term_means brackets t >>= (λ b. given (plus false a b) >>= (λ c. sums_means brackets c ss))
  sums_means brackets a (tree.minus t ss) = term_means brackets t >>= (λ b. given (plus true a b) >>= (λ c. sums_means brackets c ss))

  pub term_means : ℕ → tree.Term → Meaning Form
  term_means brackets (tree.product f ps) = factor_means brackets f >>= (λ a. products_means brackets a ps)

  pub products_means : ℕ → Form → tree.Products → Meaning Form
  products_means brackets a tree.product_end = pure a
  products_means brackets a (tree.times f ps) = factor_means brackets f >>= (λ b. given (times a b) >>= (λ c. products_means brackets c ps))

  pub factor_means : ℕ → tree.Factor → Meaning Form
  factor_means brackets (tree.integer bytes) = given (integer_means bytes) >>= (λ n. pure (record { numbers = single 0 n; has_name = false }))
  factor_means brackets (tree.name name) = slot name >>= (λ at. pure (record { numbers = single at (pos 1); has_name = true }))
  factor_means zero (tree.in_brackets a) = none
  factor_means (suc brackets) (tree.in_brackets a) = affine_means brackets a
  factor_means brackets (tree.negative f) = factor_means brackets f >>= (λ a. given (negated a))
  factor_means brackets (tree.positive f) = factor_means brackets f

-- ---- comparisons

-- one row more
abbrev pub row_behind : Rows → Option (List ℤ) → Option Rows
row_behind rows row = option_map (λ r. rows ++ r ∷ []) row

-- one row more: a less b, and less this much
abbrev pub with_row : Rows → ℤ → List ℤ → List ℤ → Option Rows
with_row rows less a b = row_behind rows (combined (negsuc 0) less a b)

-- the rows behind these, with those of a comparison of a with b: forms that are at least 0
abbrev pub with_compare : Rows → tree.Comparison → List ℤ → List ℤ → Option Rows
with_compare rows tree.at_least a b = with_row rows (pos 0) a b
with_compare rows tree.above a b = with_row rows (pos 1) a b
with_compare rows tree.at_most a b = with_row rows (pos 0) b a
with_compare rows tree.below a b = with_row rows (pos 1) b a
with_compare rows tree.equal a b = option_and_then (λ more. with_row more (pos 0) b a) (with_row rows (pos 0) a b)

-- how many they are
abbrev pub row_count : tree.Comparison → ℕ
row_count tree.equal = 2
row_count _ = 1

-- the rows, where they aren't more than there may be with those of a compare
abbrev pub if_rows : ℕ → Rows → tree.Comparison → Option Rows → Option Rows
if_rows room rows c more = if nat_le (length rows + row_count c) room then more else None

-- The rows behind these, with those of a compare, where so many brackets may still be opened and there may be so many rows.
unfoldable pub compare_means : ℕ → ℕ → Rows → tree.Compare → Meaning Rows
compare_means brackets room rows c =
    affine_means brackets c.left >>= (λ a. affine_means brackets c.right >>= (λ b.
    given (if_rows room rows c.comparison (with_compare rows c.comparison a.numbers b.numbers))))

-- the rows behind these, with those of compares
unfoldable pub compares_mean : ℕ → ℕ → Rows → tree.Compares → Meaning Rows
compares_mean brackets room rows (tree.last_compare c) = compare_means brackets room rows c
compares_mean brackets room rows (tree.compare c cs) = compare_means brackets room rows c >>= (λ more. compares_mean brackets room more cs)

-- ---- references

-- an array's number, and its number of subscripts where it was seen before
pub record Seen : Type 0 where
  pub array : ℕ
  pub subscripts : Option ℕ

-- an array's name, by its kind: a new name becomes an array
abbrev pub array_by : List ℕ → Option Kind → Meaning Seen
array_by name None s =
    if is_short name && nat_lt s.arrays most_arrays
    then Some (record { array = s.arrays; subscripts = None }, record (with_name name (kind.Array s.arrays 0) s) { arrays = s.arrays + 1 })
    else None
array_by name (Some (kind.Parameter k)) s = None
array_by name (Some (kind.OpenLoop depth)) s = None
array_by name (Some kind.ClosedLoop) s = None
array_by name (Some (kind.Array number subscripts)) s = Some (record { array = number; subscripts = Some subscripts }, s)

-- the same, of a name
unfoldable pub array : List ℕ → Meaning Seen
array name s = array_by name (kind_of name s) s

-- at most four subscripts, each in a bracket, behind these
unfoldable pub subscripts_means : ℕ → Rows → tree.Subscripts → Meaning Rows
subscripts_means brackets rows tree.subscript_end = pure rows
subscripts_means zero rows (tree.subscript a ss) = none
subscripts_means (suc brackets) rows (tree.subscript a ss) =
    if nat_le most_subscripts (length rows) then none
    else affine_means brackets a >>= (λ row. subscripts_means (suc brackets) (rows ++ row.numbers ∷ []) ss)

-- as many subscripts as the array has, of which the first reference to it decides
abbrev pub access_by : ℕ → Rows → ℕ → Option ℕ → Meaning Access
access_by at rows number None s = Some (record { array = number; subscripts = rows }, with_kind at (kind.Array number (length rows)) s)
access_by at rows number (Some count) s = if length rows == count then Some (record { array = number; subscripts = rows }, s) else None

-- a reference, where this many names stand before it
unfoldable pub access_from : ℕ → ℕ → tree.Reference → Meaning Access
access_from brackets at r =
    array r.name >>= (λ seen. subscripts_means brackets [] r.subscripts >>= (λ rows. access_by at rows seen.array seen.subscripts))

-- a reference
unfoldable pub reference_means : ℕ → tree.Reference → Meaning Access
reference_means brackets r s = access_from brackets (length s.names) r s

-- ---- values: of them only the references are kept, in order, behind those before

-- one reference more, where they aren't too many
unfoldable pub with_read : ℕ → Accesses → tree.Reference → Meaning Accesses
with_read brackets reads r =
    if nat_le most_reads (length reads) then none else reference_means brackets r >>= (λ a. pure (reads ++ a ∷ []))

-- a parameter or a loop is a plain number, without subscripts
abbrev pub plain_means : Accesses → tree.Subscripts → Meaning Accesses
plain_means reads tree.subscript_end = pure reads
plain_means reads (tree.subscript a ss) = none

-- a name that isn't called, by its kind
abbrev pub named_means : ℕ → Accesses → tree.Reference → Option Kind → Meaning Accesses
named_means brackets reads r None = with_read brackets reads r
named_means brackets reads r (Some (kind.Parameter k)) = plain_means reads r.subscripts
named_means brackets reads r (Some (kind.OpenLoop depth)) = plain_means reads r.subscripts
named_means brackets reads r (Some kind.ClosedLoop) = none
named_means brackets reads r (Some (kind.Array number subscripts)) = with_read brackets reads r

-- the same, of a name
unfoldable pub name_means : ℕ → Accesses → tree.Reference → Meaning Accesses
name_means brackets reads r s = named_means brackets reads r (kind_of r.name s) s

-- Values, where so many brackets may still be opened. A function's name has no kind.
unfoldable mutual
  pub value_means : ℕ → Accesses → value.Value → Meaning Accesses
  value_means brackets reads (value.value u os) = unary_means brackets reads u >>= (λ more. operands_means brackets more os)

  pub operands_means : ℕ → Accesses → value.Operands → Meaning Accesses
  operands_means brackets reads value.operand_end = pure reads
  operands_means brackets reads (value.operand o u os) = unary_means brackets reads u >>= (λ more. operands_means brackets more os)

  pub unary_means : ℕ → Accesses → value.Unary → Meaning Accesses
  unary_means brackets reads (value.number bytes) = pure reads
  unary_means brackets reads (value.reference r) = name_means brackets reads r
  unary_means zero reads (value.call_of_none name) = none
  unary_means (suc brackets) reads (value.call_of_none name) = if is_short name then pure reads else none
  unary_means zero reads (value.call name vs) = none
  unary_means (suc brackets) reads (value.call name vs) = if is_short name then arguments_means brackets reads vs else none
  unary_means zero reads (value.in_brackets v) = none
  unary_means (suc brackets) reads (value.in_brackets v) = value_means brackets reads v
  unary_means brackets reads (value.negative u) = unary_means brackets reads u
  unary_means brackets reads (value.positive u) = unary_means brackets reads u

  pub arguments_means : ℕ → Accesses → value.Arguments → Meaning Accesses
  arguments_means brackets reads (value.last_argument v) = value_means brackets reads v
  arguments_means brackets reads (value.argument v vs) = value_means brackets reads v >>= (λ more. arguments_means brackets more vs)

-- ---- statements

-- whether the reference that is written is read before
abbrev pub updates : item.Assigner → Bool
updates item.sets = false
updates item.adds = true
updates item.subtracts = true
updates item.multiplies = true
updates item.divides = true

-- so many statements
abbrev pub with_count : ℕ → Meaning (Unit {0})
with_count count s = Some (tt, record s { statements = count })

-- an assignment: the reference that it writes, then those of its value
unfoldable pub assign_means : ℕ → item.Assign → Meaning Statement
assign_means brackets a =
    reference_means brackets a.target >>= (λ writes. value_means brackets (first_reads (updates a.assigner) writes) a.value >>= (λ reads.
    pure (record { writes = writes; reads = reads })))

-- an assignment to an array or a new name behind these items, where statements aren't too many
unfoldable pub statement_means : ℕ → Items → item.Assign → Meaning Items
statement_means brackets items a s =
    if not (is_array (kind_of a.target.name s)) || nat_le most_statements s.statements then None
    else (assign_means brackets a >>= (λ statement. with_count (s.statements + 1) >> pure (with_item items (assign statement)))) s

-- ---- loops

-- the number at which a name stands, where it does
abbrev pub loop_again : Option ℕ → Meaning ℕ
loop_again None s = None
loop_again (Some at) s = Some (at, s)

-- the number of a loop's name, by its kind: a new name, or that of a loop that was left
abbrev pub loop_by : List ℕ → Option Kind → Meaning ℕ
loop_by name None s = if is_short name then Some (length s.names, with_name name kind.ClosedLoop s) else None
loop_by name (Some kind.ClosedLoop) s = loop_again (number_of name s) s
loop_by name (Some (kind.Parameter k)) s = None
loop_by name (Some (kind.OpenLoop depth)) s = None
loop_by name (Some (kind.Array number subscripts)) s = None

-- the same, of a name
unfoldable pub loop_name : List ℕ → Meaning ℕ
loop_name name s = loop_by name (kind_of name s) s

-- how much less than its expression the bound behind a comparison is, by whether the loop falls
abbrev pub excluded : Bool → Bool → ℤ
excluded false true = pos 1
excluded true true = negsuc 0
excluded _ false = pos 0

-- that bound
abbrev pub last_bound : Bool → Bool → List ℤ → Option (List ℤ)
last_bound falls excludes numbers = combined (pos 1) (excluded falls excludes) zeros numbers

-- a header, in whose bracket so many more may be opened
unfoldable pub header_means : ℕ → item.Header → Meaning Header
header_means brackets h =
    loop_name h.name >>= (λ at. affine_means brackets h.first >>= (λ first. affine_means brackets h.last >>= (λ last.
    given (last_bound h.falls h.excludes last.numbers) >>= (λ numbers. pure (header_by at h.falls first.numbers numbers)))))

-- the loop of this name begins at this depth
unfoldable pub begin : ℕ → ℕ → Meaning (Unit {0})
begin depth at s = Some (tt, with_kind at (kind.OpenLoop depth) s)

-- it ends
unfoldable pub end : ℕ → Meaning (Unit {0})
end at s = Some (tt, with_kind at kind.ClosedLoop s)

-- Items behind these, where so many loops, so many rows of guards and so many brackets may still be opened.
unfoldable mutual
  pub item_means : ℕ → ℕ → ℕ → Items → item.Item → Meaning Items
  item_means more room brackets items item.nothing = pure items
  item_means more room zero items (item.block is) = none
  item_means more room (suc brackets) items (item.block is) = items_means more room brackets items is
  item_means zero room brackets items (item.loop h i) = none
  item_means (suc more) room zero items (item.loop h i) = none
  item_means (suc more) room (suc brackets) items (item.loop h i) =
      header_means brackets h >>= (λ l. begin (most_loops - 1 - more) l.name >> item_means more room (suc brackets) done i >>= (λ body.
      end l.name >> pure (with_item items (loop l body))))
  item_means more room zero items (item.guarded cs i) = none
  item_means more room (suc brackets) items (item.guarded cs i) =
      compares_mean brackets room [] cs >>= (λ rows. item_means more (room - length rows) (suc brackets) done i >>= (λ body.
      pure (with_item items (guard rows body))))
  item_means more room brackets items (item.statement a) = statement_means brackets items a

  pub items_means : ℕ → ℕ → ℕ → Items → item.Items → Meaning Items
  items_means more room brackets items item.item_end = pure items
  items_means more room brackets items (item.item i is) = item_means more room brackets items i >>= (λ all. items_means more room brackets all is)

-- ---- texts

-- names, each a parameter
unfoldable pub parameters_mean : List (List ℕ) → Meaning (Unit {0})
parameters_mean [] = pure tt
parameters_mean (name ∷ names) = slot name >> parameters_mean names

-- what lines assume, behind this
unfoldable pub lines_mean : Head → text.Lines → Meaning Head
lines_mean h text.line_none = pure h
lines_mean h (text.parameters head names ls) = parameters_mean names >> lines_mean h ls
lines_mean h (text.assumptions head cs ls) = compares_mean most_brackets most_rows h.rows cs >>= (λ rows. lines_mean (record { assumed = true; rows = rows }) ls)

-- what is read, where something is meant
abbrev pub reading_from : Option ((Head × Items) × Names) → Option Reading
reading_from None = None
reading_from (Some p) = Some (record { names = p.1.names; kinds = p.1.kinds; assumptions = assumptions_of p.0.0 p.1; items = p.0.1 })

-- the lines in front of a program, then its items
unfoldable pub whole_means : text.Text → Meaning (Head × Items)
whole_means t =
    lines_mean (record { assumed = false; rows = [] }) t.lines >>= (λ h. items_means most_loops most_guards most_brackets done t.items >>= (λ items. pure (h, items)))

-- what a text means, where it is within the limits
abbrev pub text_means : text.Text → Option Reading
text_means t = reading_from (whole_means t (start_of [] []))
