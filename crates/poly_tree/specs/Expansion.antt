-- Polynomials with whole-number coefficients, expanded variable by variable. (The recursive dense form of computer
-- algebra, valued by Horner's rule; Knuth, The Art of Computer Programming, volume 2, section 4.6.)
use Rattle.std.specs.Int.{◌∣◌}
use Rattle.iolb_model.specs.Polynomial.{int_power}
use Rattle.std.specs.Prelude.{◌≡◌, ◌≢◌, ℕ, suc, ◌+◌, ◌-◌, ◌*◌, ◌<◌, ◌≤◌, ◌==◌, max, if◌then◌else◌, ℤ, pos, ◌+ℤ◌, ◌*ℤ◌, unsigned_abs, ◌⊎◌, List, [], ◌∷◌, ◌++◌, length, slice_index_or}

-- A polynomial is a number, or a polynomial in one variable: its parts are the coefficients of the variable's powers,
-- from power 0 on.
mutual
  pub data Expansion : Type 0 where
    number : ℤ → Expansion
    over : ℕ → Parts → Expansion

  pub data Parts : Type 0 where
    none : Parts
    part : Expansion → Parts → Parts

-- zero
abbrev pub zero_expansion : Expansion
zero_expansion = number (pos 0)

-- the parts in a list
abbrev pub parts_from : List Expansion → Parts
parts_from [] = none
parts_from (t ∷ ts) = part t (parts_from ts)

-- the value where each variable has a value; the parts by Horner's rule
abbrev mutual
  pub value : Expansion → (ℕ → ℤ) → ℤ
  value (number n) point = n
  value (over v ps) point = parts_value ps (point v) point

  pub parts_value : Parts → ℤ → (ℕ → ℤ) → ℤ
  parts_value none x point = pos 0
  parts_value (part t ps) x point = value t point +ℤ (x *ℤ parts_value ps x point)

-- the sum of the sizes of the coefficients
abbrev mutual
  pub weight : Expansion → ℕ
  weight (number n) = unsigned_abs n
  weight (over v ps) = parts_weight ps

  pub parts_weight : Parts → ℕ
  parts_weight none = 0
  parts_weight (part t ps) = weight t + parts_weight ps

-- how many variables' nodes there are
abbrev mutual
  pub nodes : Expansion → ℕ
  nodes (number n) = 0
  nodes (over v ps) = 1 + parts_nodes ps

  pub parts_nodes : Parts → ℕ
  parts_nodes none = 0
  parts_nodes (part t ps) = nodes t + parts_nodes ps

-- a polynomial times a number
abbrev mutual
  pub scaled : ℤ → Expansion → Expansion
  scaled k (number n) = number (k *ℤ n)
  scaled k (over v ps) = over v (parts_scaled k ps)

  pub parts_scaled : ℤ → Parts → Parts
  parts_scaled k none = none
  parts_scaled k (part t ps) = part (scaled k t) (parts_scaled k ps)

-- the coefficients
abbrev mutual
  pub coefficients : Expansion → List ℤ
  coefficients (number n) = n ∷ []
  coefficients (over v ps) = parts_coefficients ps

  pub parts_coefficients : Parts → List ℤ
  parts_coefficients none = []
  parts_coefficients (part t ps) = coefficients t ++ parts_coefficients ps

-- of a part and those after it, the last isn't zero
abbrev pub LastNonzero : Expansion → Parts → Type 0
LastNonzero t none = t ≢ number (pos 0)
LastNonzero t (part u ps) = LastNonzero u ps

-- there is no part, or the last isn't zero
abbrev pub EndsNonzero : List Expansion → Type 0
EndsNonzero [] = Unit {0}
EndsNonzero (t ∷ ts) = LastNonzero t (parts_from ts)

-- the last part is zero
abbrev pub EndsInZero : List Expansion → Type 0
EndsInZero ts = (front : List Expansion) × (ts ≡ front ++ zero_expansion ∷ [])

-- there are at least two parts, and the last isn't zero
abbrev pub HasTop : Parts → Type 0
HasTop none = ⊥
HasTop (part t none) = ⊥
HasTop (part t (part u ps)) = LastNonzero u ps

-- Canonical, with variables below a bound: the parts of a polynomial in a variable use variables below that one, there
-- are at least two, and the last isn't zero.
abbrev mutual
  pub IsCanonical : ℕ → Expansion → Type 0
  IsCanonical bound (number n) = Unit {0}
  IsCanonical bound (over v ps) = (v < bound) × AreCanonical v ps × HasTop ps

  pub AreCanonical : ℕ → Parts → Type 0
  AreCanonical bound none = Unit {0}
  AreCanonical bound (part t ps) = IsCanonical bound t × AreCanonical bound ps

-- how many parts there are
abbrev pub parts_count : Parts → ℕ
parts_count none = 0
parts_count (part t ps) = suc (parts_count ps)

-- each variable has at most this degree
abbrev mutual
  pub DegreesAtMost : ℕ → Expansion → Type 0
  DegreesAtMost degree (number n) = Unit {0}
  DegreesAtMost degree (over v ps) = (parts_count ps ≤ degree + 1) × PartsDegreesAtMost degree ps

  pub PartsDegreesAtMost : ℕ → Parts → Type 0
  PartsDegreesAtMost degree none = Unit {0}
  PartsDegreesAtMost degree (part t ps) = DegreesAtMost degree t × PartsDegreesAtMost degree ps

-- the values of a point's variables; a variable that the point doesn't have is 1
abbrev pub at : List ℤ → ℕ → ℤ
at point v = slice_index_or point v (pos 1)

-- t is the sum of a and b, no heavier than they are together, and canonical where they are
pub record IsSum (a b t : Expansion) : Type 0 where
  pub sum : (point : ℕ → ℤ) → value t point ≡ value a point +ℤ value b point
  pub light : weight t ≤ weight a + weight b
  pub canonical : (bound : ℕ) → IsCanonical bound a → IsCanonical bound b → IsCanonical bound t
  pub degrees : (d : ℕ) → DegreesAtMost d a → DegreesAtMost d b → DegreesAtMost d t

-- t is the product of a and b, no heavier than the product of their weights, and canonical where they are
pub record IsProduct (a b t : Expansion) : Type 0 where
  pub product : (point : ℕ → ℤ) → value t point ≡ value a point *ℤ value b point
  pub light : weight t ≤ weight a * weight b
  pub canonical : (bound : ℕ) → IsCanonical bound a → IsCanonical bound b → IsCanonical bound t

-- t is the polynomial in a variable with these parts: of the same value, no heavier, and canonical where the parts are
pub record IsJoined (v : ℕ) (ps : Parts) (t : Expansion) : Type 0 where
  pub same : (point : ℕ → ℤ) → value t point ≡ parts_value ps (point v) point
  pub light : weight t ≤ parts_weight ps
  pub canonical : (bound : ℕ) → v < bound → AreCanonical v ps → IsCanonical bound t
  pub degrees : (d : ℕ) → parts_count ps ≤ d + 1 → PartsDegreesAtMost d ps → DegreesAtMost d t

-- the new parts are the old without zeros at the end
pub record IsTrimmed (old new : List Expansion) : Type 0 where
  pub same : (x : ℤ) (point : ℕ → ℤ) → parts_value (parts_from old) x point ≡ parts_value (parts_from new) x point
  pub light : parts_weight (parts_from new) ≤ parts_weight (parts_from old)
  pub canonical : (bound : ℕ) → AreCanonical bound (parts_from old) → AreCanonical bound (parts_from new)
  pub count : parts_count (parts_from new) ≤ parts_count (parts_from old)
  pub degrees : (d : ℕ) → PartsDegreesAtMost d (parts_from old) → PartsDegreesAtMost d (parts_from new)

-- the number that a polynomial without variables is
abbrev pub number_of : Expansion → ℤ
number_of (number n) = n
number_of (over v ps) = pos 0

-- no variable
abbrev pub IsNumber : Expansion → Type 0
IsNumber t = t ≡ number (number_of t)

-- a polynomial in a variable
abbrev pub IsOver : ℕ → Expansion → Type 0
IsOver v t = (ps : Parts) × (t ≡ over v ps)

-- a polynomial in a variable of at most this number, or a number
abbrev pub TopAtMost : ℕ → Expansion → Type 0
TopAtMost v (number n) = Unit {0}
TopAtMost v (over w ps) = w ≤ v

-- a polynomial in a variable below this number, or a number
abbrev pub TopBelow : ℕ → Expansion → Type 0
TopBelow v (number n) = Unit {0}
TopBelow v (over w ps) = w < v

-- the highest variable of two polynomials
pub record IsHighest (v : ℕ) (a b : Expansion) : Type 0 where
  pub one : IsOver v a ⊎ IsOver v b
  pub first : TopAtMost v a
  pub second : TopAtMost v b

-- the parts of a polynomial in a variable; of one in lower variables alone, itself
abbrev pub IsPartsIn : ℕ → Expansion → List Expansion → Type 0
IsPartsIn v t ts = (t ≡ over v (parts_from ts)) ⊎ ((ts ≡ t ∷ []) × TopBelow v t)

-- u is t times a variable
pub record IsRaised (v : ℕ) (t u : Expansion) : Type 0 where
  pub times : (point : ℕ → ℤ) → value u point ≡ point v *ℤ value t point
  pub light : weight u ≤ weight t
  pub canonical : (bound : ℕ) → v < bound → IsCanonical bound t → IsCanonical bound u

-- t is the polynomial in a variable with these parts, times b
pub record IsPartsProduct (v : ℕ) (ps : Parts) (b t : Expansion) : Type 0 where
  pub product : (point : ℕ → ℤ) → value t point ≡ parts_value ps (point v) point *ℤ value b point
  pub light : weight t ≤ parts_weight ps * weight b
  pub canonical : (bound : ℕ) → v < bound → AreCanonical v ps → IsCanonical bound b → IsCanonical bound t

-- a number divides all coefficients
abbrev mutual
  pub DividesAll : ℕ → Expansion → Type 0
  DividesAll k (number n) = k ∣ unsigned_abs n
  DividesAll k (over v ps) = DividesParts k ps

  pub DividesParts : ℕ → Parts → Type 0
  DividesParts k none = Unit {0}
  DividesParts k (part t ps) = DividesAll k t × DividesParts k ps

-- the greatest common divisor of a number and all coefficients
pub record IsContent (t : Expansion) (start factor : ℕ) : Type 0 where
  pub divides_start : factor ∣ start
  pub divides_all : DividesAll factor t
  pub greatest : (k : ℕ) → k ∣ start → DividesAll k t → k ∣ factor

-- the greatest common divisor of a number and the coefficients of all parts
pub record IsPartsContent (ps : Parts) (start factor : ℕ) : Type 0 where
  pub divides_start : factor ∣ start
  pub divides_all : DividesParts factor ps
  pub greatest : (k : ℕ) → k ∣ start → DividesParts k ps → k ∣ factor

-- t is a multiple of a and a multiple of b, canonical where they are, and of degrees no higher than theirs
pub record IsLinear (j : ℤ) (a : Expansion) (k : ℤ) (b t : Expansion) : Type 0 where
  pub sum : (point : ℕ → ℤ) → value t point ≡ (j *ℤ value a point) +ℤ (k *ℤ value b point)
  pub canonical : (bound : ℕ) → IsCanonical bound a → IsCanonical bound b → IsCanonical bound t
  pub degrees : (d : ℕ) → DegreesAtMost d a → DegreesAtMost d b → DegreesAtMost d t

-- the sum of the products with the values of the variables from one on
abbrev pub products_from : List ℤ → ℕ → (ℕ → ℤ) → ℤ
products_from [] v point = pos 0
products_from (x ∷ xs) v point = (x *ℤ point v) +ℤ products_from xs (suc v) point

-- the sum of the sizes of numbers
abbrev pub sizes : List ℤ → ℕ
sizes [] = 0
sizes (x ∷ xs) = unsigned_abs x + sizes xs

-- t is a constant and coefficients times the variables from 0 on, so many
pub record IsAffine (xs : List ℤ) (constant : ℤ) (t : Expansion) : Type 0 where
  pub sum : (point : ℕ → ℤ) → value t point ≡ products_from xs 0 point +ℤ constant
  pub canonical : IsCanonical (length xs) t
  pub degrees : DegreesAtMost 1 t
  pub heavy : weight t ≡ sizes xs + unsigned_abs constant

-- u is t and a multiple of a higher variable
abbrev pub IsExtended : ℕ → ℤ → Expansion → Expansion → Type 0
IsExtended v x t u = ((x ≡ pos 0) × (u ≡ t)) ⊎ ((x ≢ pos 0) × (u ≡ over v (part t (part (number x) none))))

-- a point with another value of one variable
unfoldable pub put : (ℕ → ℤ) → ℕ → ℤ → ℕ → ℤ
put point v x w = if w == v then x else point w

-- the factor by which the weight grows with a power of a variable w, where a polynomial of some weight is put in for v
abbrev pub growth : ℕ → ℕ → ℕ → ℕ
growth v heavy w = if w == v then heavy else 1

-- the sum of the sizes of the coefficients, each times a number for each power of a variable
abbrev mutual
  pub put_weight : ℕ → ℕ → Expansion → ℕ
  put_weight v heavy (number n) = unsigned_abs n
  put_weight v heavy (over w ps) = put_parts_weight v heavy (growth v heavy w) ps

  pub put_parts_weight : ℕ → ℕ → ℕ → Parts → ℕ
  put_parts_weight v heavy k none = 0
  put_parts_weight v heavy k (part t ps) = put_weight v heavy t + k * put_parts_weight v heavy k ps

-- u is t times a variable w, or times f where w is v
pub record IsPutPower (v : ℕ) (f : Expansion) (w : ℕ) (t u : Expansion) : Type 0 where
  pub times : (point : ℕ → ℤ) → value u point ≡ put point v (value f point) w *ℤ value t point
  pub light : weight u ≤ growth v (max 1 (weight f)) w * weight t
  pub canonical : (bound : ℕ) → w < bound → IsCanonical bound t → IsCanonical bound f → IsCanonical bound u

-- u is t with f put in for v
pub record IsPut (v : ℕ) (f t u : Expansion) : Type 0 where
  pub same : (point : ℕ → ℤ) → value u point ≡ value t (put point v (value f point))
  pub light : weight u ≤ put_weight v (max 1 (weight f)) t
  pub canonical : (bound : ℕ) → IsCanonical bound t → IsCanonical bound f → IsCanonical bound u

-- u is the polynomial in w with these parts, with f put in for v
pub record IsPartsPut (v : ℕ) (f : Expansion) (w : ℕ) (ps : Parts) (u : Expansion) : Type 0 where
  pub same : (point : ℕ → ℤ) → value u point ≡ parts_value ps (put point v (value f point) w) (put point v (value f point))
  pub light : weight u ≤ put_parts_weight v (max 1 (weight f)) (growth v (max 1 (weight f)) w) ps
  pub canonical : (bound : ℕ) → w < bound → AreCanonical w ps → IsCanonical bound f → IsCanonical bound u

-- the degree in a variable of a polynomial that is canonical
abbrev mutual
  pub degree_in : ℕ → Expansion → ℕ
  degree_in v (number n) = 0
  degree_in v (over w ps) = if w == v then parts_count ps - 1 else parts_degree_in v ps

  pub parts_degree_in : ℕ → Parts → ℕ
  parts_degree_in v none = 0
  parts_degree_in v (part t ps) = max (degree_in v t) (parts_degree_in v ps)

-- the sum over the terms of the coefficient's size times the powers of the sizes of the variables' values, each at least 1
abbrev mutual
  pub size_at : Expansion → (ℕ → ℤ) → ℕ
  size_at (number n) point = unsigned_abs n
  size_at (over v ps) point = parts_size_at ps (max 1 (unsigned_abs (point v))) point

  pub parts_size_at : Parts → ℕ → (ℕ → ℤ) → ℕ
  parts_size_at none k point = 0
  parts_size_at (part t ps) k point = size_at t point + k * parts_size_at ps k point

-- the product of the powers of the variables from one on
abbrev pub powers_from : List ℕ → ℕ → (ℕ → ℤ) → ℤ
powers_from [] v point = pos 1
powers_from (e ∷ es) v point = int_power (point v) e *ℤ powers_from es (suc v) point

-- t is a coefficient times powers of the variables from 0 on, so many, each at most 8
pub record IsMonomial (x : ℤ) (es : List ℕ) (t : Expansion) : Type 0 where
  pub product : (point : ℕ → ℤ) → value t point ≡ x *ℤ powers_from es 0 point
  pub light : weight t ≤ unsigned_abs x
  pub canonical : IsCanonical (length es) t
  pub degrees : DegreesAtMost 8 t
