-- What expressions, comparisons and headers of the grammar say at a point, whatever the reader makes of them.
use Rattle.std.specs.Prelude.{◌≡◌, ℕ, ◌+◌, ◌-◌, ◌*◌, Bool, true, false, ℤ, pos, neg_ℤ, ◌+ℤ◌, ◌*ℤ◌, ◌≤ℤ◌, ◌<ℤ◌, ◌↔◌, List, [], ◌∷◌, ◌++◌, length, slice_get, Some}
use Rattle.std.specs.List.{AllByRecursion}
use Rattle.iolb_model.specs.Form.{dot}
use Rattle.iolb_model.specs.declared.limits.TheConstants.{LOOPS, PARAMETERS}
use Rattle.c_reading.specs.declared.named.Kind.TheVariants.{Parameter, OpenLoop}
use Rattle.c_reading.specs.declared.tree.Header.{Header as ReadHeader}
use Rattle.c_reading.specs.Affine.{kind_of}
use Rattle.c_reading.specs.Compare.{Rows}
use Rattle.c_grammar.specs.Affine.{Affine, sum, Sums, sum_end, plus, minus, Term, product, Products, product_end, times, Factor, integer, name, in_brackets, negative, positive, Comparison, at_least, above, at_most, below, equal, Compare}
use Rattle.c_grammar.specs.Item.{Header}
use Rattle.c_grammar.specs.Meaning.{Names, Form, affine_means, compare_means, header_means}

-- a point: a whole number for each name
abbrev pub Point : Type 0
Point = List ℕ → ℤ

-- the number that digits write, behind those of this number
abbrev pub digits_value : ℕ → List ℕ → ℕ
digits_value n [] = n
digits_value n (b ∷ bytes) = digits_value (10 * n + (b - 48)) bytes

-- the value of an expression at a point
abbrev mutual
  pub affine_value : Point → Affine → ℤ
  affine_value at (sum t ss) = term_value at t +ℤ sums_value at ss

  pub sums_value : Point → Sums → ℤ
  sums_value at sum_end = pos 0
  sums_value at (plus t ss) = term_value at t +ℤ sums_value at ss
  sums_value at (minus t ss) = neg_ℤ (term_value at t) +ℤ sums_value at ss

  pub term_value : Point → Term → ℤ
  term_value at (product f ps) = factor_value at f *ℤ products_value at ps

  pub products_value : Point → Products → ℤ
  products_value at product_end = pos 1
  products_value at (times f ps) = factor_value at f *ℤ products_value at ps

  pub factor_value : Point → Factor → ℤ
  factor_value at (integer bytes) = pos (digits_value 0 bytes)
  factor_value at (name bytes) = at bytes
  factor_value at (in_brackets a) = affine_value at a
  factor_value at (negative f) = neg_ℤ (factor_value at f)
  factor_value at (positive f) = factor_value at f

-- whether numbers compare so
abbrev pub Compares : Comparison → ℤ → ℤ → Type 0
Compares at_least a b = b ≤ℤ a
Compares above a b = b <ℤ a
Compares at_most a b = a ≤ℤ b
Compares below a b = a <ℤ b
Compares equal a b = a ≡ b

-- a comparison holds at a point
abbrev pub Holds : Point → Compare → Type 0
Holds at c = Compares c.comparison (affine_value at c.left) (affine_value at c.right)

-- a value is below a bound, or at most it
abbrev pub IsBelow : Bool → ℤ → ℤ → Type 0
IsBelow true value upper = value <ℤ upper
IsBelow false value upper = value ≤ℤ upper

-- a loop that steps by one from this value, down where it falls, takes that one, as long as its comparison holds
abbrev pub Takes : Bool → Bool → ℤ → ℤ → ℤ → Type 0
Takes false excludes first last value = (first ≤ℤ value) × IsBelow excludes value last
Takes true excludes first last value = (value ≤ℤ first) × IsBelow excludes last value

-- a loop takes this value
abbrev pub IsTaken : Point → Header → ℤ → Type 0
IsTaken at h value = Takes h.falls h.excludes (affine_value at h.first) (affine_value at h.last) value

-- ---- rows at a point

-- the value of a row where its variables, the parameters and then the loops, have these numbers
abbrev pub row_value : List ℤ → List ℤ → ℤ
row_value row numbers = dot row (pos 1 ∷ numbers)

-- these are the numbers of all variables at a point, where these names were seen
pub record AreNumbersAt (s : Names) (at : Point) (numbers : List ℤ) : Type 0 where
  pub many : length numbers ≡ PARAMETERS + LOOPS
  pub parameters : (name : List ℕ) (k : ℕ) → kind_of name s ≡ Some (Parameter k) → slice_get numbers k ≡ Some (at name)
  pub loops : (name : List ℕ) (d : ℕ) → kind_of name s ≡ Some (OpenLoop d) → slice_get numbers (PARAMETERS + d) ≡ Some (at name)

-- each name that was seen has a kind
abbrev pub HaveKinds : Names → Type 0
HaveKinds s = length s.kinds ≡ length s.names

-- ---- laws

-- a row that an expression means has the expression's value at every point
abbrev pub RowsHaveValues : Type 0
RowsHaveValues = (brackets : ℕ) (t : Affine) (s r : Names) (form : Form) → HaveKinds s → affine_means brackets t s ≡ Some (form, r) → (at : Point) (numbers : List ℤ) → AreNumbersAt r at numbers
    → row_value form.numbers numbers ≡ affine_value at t

-- a comparison holds at a point exactly where the rows that it means are at least 0 there
abbrev pub RowsHoldSo : Type 0
RowsHoldSo = (brackets room : ℕ) (c : Compare) (s r : Names) (rows all : Rows) → HaveKinds s → compare_means brackets room rows c s ≡ Some (all, r)
    → (more : Rows) × (all ≡ rows ++ more) × ((at : Point) (numbers : List ℤ) → AreNumbersAt r at numbers → AllByRecursion (λ row. pos 0 ≤ℤ row_value row numbers) more ↔ Holds at c)

-- a loop falls where it was read so, and its values are exactly those from its first value on for which its comparison holds
abbrev pub LoopsTakeValues : Type 0
LoopsTakeValues = (brackets : ℕ) (h : Header) (s r : Names) (l : ReadHeader) → HaveKinds s → header_means brackets h s ≡ Some (l, r)
    → (l.down ≡ h.falls)
    × ((at : Point) (numbers : List ℤ) → AreNumbersAt r at numbers → (value : ℤ) → ((row_value l.lower numbers ≤ℤ value) × (value ≤ℤ row_value l.upper numbers)) ↔ IsTaken at h value)
