-- Polynomials with whole-number coefficients over a common denominator.
use Rattle.std.specs.Prelude.{◌≡◌, ℕ, ◌*◌, ◌≤◌, ◌^◌, max, ℤ, pos, ◌+ℤ◌, ◌-ℤ◌, ◌*ℤ◌, ◌+◌, unsigned_abs, List, length}
use Rattle.iolb_model.specs.Form.{AffineForm, form_value}
use Rattle.std.specs.Int.{◌∣◌}
use Rattle.poly_tree.specs.Expansion.{Expansion, at, put, sizes, degree_in, value, weight, scaled, IsCanonical, DegreesAtMost, DividesAll}

-- a polynomial with whole-number coefficients over a denominator
pub record Quotient : Type 0 where
  pub tree : Expansion
  pub denominator : ℕ

-- the denominator times the value at a point
abbrev pub numerator_at : Quotient → List ℤ → ℤ
numerator_at q point = value q.tree (at point)

-- the greater of 1 and the sum of the sizes of the coefficients, times the denominator
abbrev pub size : Quotient → ℕ
size q = max 1 (weight q.tree) * q.denominator

-- what holds of each polynomial of the program: it is canonical, its degrees are at most 8, and its denominator is at
-- least 1 and has no factor in common with all coefficients
pub record IsLegal (q : Quotient) : Type 0 where
  pub canonical : IsCanonical (2 ^ 16) q.tree
  pub degrees : DegreesAtMost 8 q.tree
  pub positive : 1 ≤ q.denominator
  pub primitive : (k : ℕ) → k ∣ q.denominator → DividesAll k q.tree → k ≡ 1

-- a polynomial is a tree over a denominator, both without a common factor
pub record IsReduced (t : Expansion) (denominator : ℕ) (q : Quotient) : Type 0 where
  pub factor : ℕ
  pub some : 1 ≤ factor
  pub tree : scaled (pos factor) q.tree ≡ t
  pub over : factor * q.denominator ≡ denominator

-- r is a over its denominator, and b's numerator times a number over the product of the denominators
abbrev pub IsCombinationOf : Quotient → Quotient → ℤ → Quotient → Type 0
IsCombinationOf a b factor r = (point : List ℤ)
    → (numerator_at r point *ℤ pos (a.denominator * b.denominator))
    ≡ (((numerator_at a point *ℤ pos b.denominator) +ℤ (numerator_at b point *ℤ factor)) *ℤ pos r.denominator)

-- r is the sum of a and b: at every point of whole numbers its value is the sum of theirs, stated without fractions
abbrev pub IsSumOf : Quotient → Quotient → Quotient → Type 0
IsSumOf a b r = (point : List ℤ)
    → (numerator_at r point *ℤ pos (a.denominator * b.denominator))
    ≡ (((numerator_at a point *ℤ pos b.denominator) +ℤ (numerator_at b point *ℤ pos a.denominator)) *ℤ pos r.denominator)

-- r is a minus b
abbrev pub IsDifferenceOf : Quotient → Quotient → Quotient → Type 0
IsDifferenceOf a b r = (point : List ℤ)
    → (numerator_at r point *ℤ pos (a.denominator * b.denominator))
    ≡ (((numerator_at a point *ℤ pos b.denominator) -ℤ (numerator_at b point *ℤ pos a.denominator)) *ℤ pos r.denominator)

-- r is the product of a and b
abbrev pub IsProductOf : Quotient → Quotient → Quotient → Type 0
IsProductOf a b r = (point : List ℤ)
    → (numerator_at r point *ℤ pos (a.denominator * b.denominator))
    ≡ ((numerator_at a point *ℤ numerator_at b point) *ℤ pos r.denominator)

-- The product of a and b, as a canonical tree, has a degree above 8 in some variable.
abbrev pub ProductPassesDegree : Quotient → Quotient → Type 0
ProductPassesDegree a b = (t : Expansion) × (IsCanonical (2 ^ 16) t
    × ((point : List ℤ) → value t (at point) ≡ (numerator_at a point *ℤ numerator_at b point)) × (¬ DegreesAtMost 8 t))

-- a and b have the same value at every point of whole numbers
abbrev pub SameValues : Quotient → Quotient → Type 0
SameValues a b = (point : List ℤ) → (numerator_at a point *ℤ pos b.denominator) ≡ (numerator_at b point *ℤ pos a.denominator)

-- a polynomial is a form: its denominator is 1, and it has the form's value at every point with the form's variables
pub record IsForm (form : AffineForm) (q : Quotient) : Type 0 where
  pub whole : q.denominator ≡ 1
  pub same : (point : List ℤ) → length form.coefficients ≤ length point → numerator_at q point ≡ form_value form point

-- r is a with f put in for a variable, at every point where f's value is known
abbrev pub IsPutIn : Quotient → ℕ → (List ℤ → ℤ) → Quotient → Type 0
IsPutIn a v f r = (point : List ℤ)
    → (numerator_at r point *ℤ pos a.denominator) ≡ (value a.tree (put (at point) v (f point)) *ℤ pos r.denominator)

-- the size of a times the power of a number that is its degree in a variable
abbrev pub put_size : Quotient → ℕ → ℕ → ℕ
put_size a v heavy = size a * heavy ^ degree_in v a.tree

-- the greater of 1 and the sum of the sizes of a form's numbers
abbrev pub form_size : AffineForm → ℕ
form_size form = max 1 (sizes form.coefficients + unsigned_abs form.constant)

-- a with f put in for a variable, as a canonical tree, has a degree above 8 in some variable
abbrev pub PutPassesDegree : Quotient → ℕ → Expansion → Type 0
PutPassesDegree a v f = (t : Expansion) × (IsCanonical (2 ^ 16) t
    × ((point : ℕ → ℤ) → value t point ≡ value a.tree (put point v (value f point))) × (¬ DegreesAtMost 8 t))

-- the same for a form
abbrev pub SubstitutionPassesDegree : Quotient → ℕ → AffineForm → Type 0
SubstitutionPassesDegree a v form = (t : Expansion) × (IsCanonical (2 ^ 16) t
    × ((point : List ℤ) → length form.coefficients ≤ length point → value t (at point) ≡ value a.tree (put (at point) v (form_value form point)))
    × (¬ DegreesAtMost 8 t))

-- r is a with a form put in for a variable: at every point with the form's variables its value is a's, with the form's
-- value for the variable's
abbrev pub IsSubstitutionOf : Quotient → ℕ → AffineForm → Quotient → Type 0
IsSubstitutionOf a v form r = (point : List ℤ) → length form.coefficients ≤ length point
    → (numerator_at r point *ℤ pos a.denominator) ≡ (value a.tree (put (at point) v (form_value form point)) *ℤ pos r.denominator)

-- r is a with x - 1 put in for a variable x
abbrev pub IsShiftOf : Quotient → ℕ → Quotient → Type 0
IsShiftOf a v r = (point : List ℤ)
    → (numerator_at r point *ℤ pos a.denominator) ≡ (value a.tree (put (at point) v (at point v -ℤ pos 1)) *ℤ pos r.denominator)

-- a with x - 1 put in for a variable x, as a canonical tree, has a degree above 8 in some variable
abbrev pub ShiftPassesDegree : Quotient → ℕ → Type 0
ShiftPassesDegree a v = (t : Expansion) × (IsCanonical (2 ^ 16) t
    × ((point : List ℤ) → value t (at point) ≡ value a.tree (put (at point) v (at point v -ℤ pos 1))) × (¬ DegreesAtMost 8 t))
