-- The texts of polynomials.
use Rattle.std.specs.Prelude.{◌≡◌, ℕ, suc, ◌-◌, ◌<◌, ◌≤◌, ◌==◌, ◌&&◌, ℤ, List, [], ◌∷◌, ◌++◌, map, length, Bool, true, false, not, bytes_eq, unsigned_abs, nat_lt, if◌then◌else◌, codes, Ok, IfOk, Vec}
use Rattle.std.proofs.Common.{arith}
use Rattle.std.proofs.lemmas.Bool.{ltb-true}
use Rattle.std.specs.BTreeSet.{BTreeSet, contains}
use Rattle.std.specs.Cmp.Lexicographic.{slice_cmp}
use Rattle.std.specs.Global.{Global}
use Rattle.std.specs.List.{AllByRecursion, list_any}
use Rattle.std.specs.Ordering.{nat_cmp}
use Rattle.iolb_model.specs.Polynomial.{Term, Polynomial}
use Rattle.iolb_model.specs.declared.limits.TheConstants.{COEFFICIENT_SIZE, MEASURE}
use Rattle.affine_form.specs.Form.{IsSmall}
use Rattle.claims.specs.declared.place.Step.TheVariants.{Index}
use Rattle.poly_tree.specs.Poly.{Quotient, IsLegal}
use Rattle.poly_tree.specs.Printed.{written_terms}
use Rattle.poly_tree.specs.Terms.{terms_size, IsNoGreater, IsTermsOver}
use Rattle.certificate_fit.specs.Limits.{IsSmallPolynomial}
use Rattle.serde_json.specs.Data.{Data, object, no_members, member}
use Rattle.json_parts.specs.Given.{given_natural, given_then, given_behind, given_under, given_if, given_part, given_keys}
use Rattle.json_parts.specs.Json.{with_keys, part, reads_list, reads_short_list, each, reads_integer, reads_natural}
use Rattle.json_parts.specs.Outcome.{Outcome, ◌>>=◌, fault, under}
use Rattle.json_parts.specs.Related.{AreAll}
use Rattle.json_parts.specs.Shape.{Shape}
use Rattle.json_parts.specs.Truths.{never}
use Rattle.json_parts.specs.Written.{list, whole, natural}
use Rattle.certificate_parts.specs.Forms.{integer_small}

-- A coefficient: a whole number of size below 2^62, and not 0.
unfoldable pub reads_coefficient : Data → Outcome ℤ
reads_coefficient d = do
  coefficient ← reads_integer COEFFICIENT_SIZE d
  if unsigned_abs coefficient == 0 then fault 2 else Ok coefficient

-- A term: its coefficient, then the exponents of at most 24 variables, each at most 8.
unfoldable pub term_in : List Data → Outcome Term
term_in [] = fault 2
term_in (d ∷ more) = do
  coefficient ← under (Index 0) (reads_coefficient d)
  exponents ← each (reads_natural 0 8) 1 more
  Ok (record { coefficient = coefficient; exponents = exponents })

unfoldable pub reads_term : Data → Outcome Term
reads_term d = reads_short_list 25 d >>= term_in

-- whether exponents are as many as those of each earlier term, and others
abbrev pub stands_apart : List Term → List ℕ → Bool
stands_apart [] exponents = true
stands_apart (term ∷ terms) exponents =
    (length term.exponents == length exponents) && not (bytes_eq term.exponents exponents) && stands_apart terms exponents

-- A term behind earlier ones.
unfoldable pub reads_term_behind : List Term → Data → Outcome Term
reads_term_behind earlier d = do
  term ← reads_term d
  if stands_apart earlier term.exponents then Ok term else fault 2

-- Terms from this index on, behind earlier ones.
unfoldable pub terms_from : ℕ → List Term → List Data → Outcome (List Term)
terms_from i earlier [] = Ok []
terms_from i earlier (d ∷ ds) = do
  term ← under (Index i) (reads_term_behind earlier d)
  more ← terms_from (suc i) (earlier ++ term ∷ []) ds
  Ok (term ∷ more)

unfoldable pub reads_terms : Data → Outcome (List Term)
reads_terms d = reads_list d >>= terms_from 0 []

-- Terms over a denominator, at least 1 and below 2^62.
unfoldable pub reads_quotient : Data → Outcome Polynomial
reads_quotient d = do
  keyed ← with_keys (codes "den" ∷ codes "terms" ∷ []) d
  denominator ← part (codes "den") (reads_natural 1 (COEFFICIENT_SIZE - 1)) keyed
  terms ← part (codes "terms") reads_terms keyed
  Ok (record { terms = terms; denominator = denominator })

-- A polynomial. The sum of the sizes of its coefficients, or 1 if that is 0, times the denominator is below 2^126.
unfoldable pub reads_polynomial : Data → Outcome Polynomial
reads_polynomial d = do
  quotient ← reads_quotient d
  if nat_lt (terms_size quotient.terms quotient.denominator) MEASURE then Ok quotient else fault 3

-- a term: its coefficient, then its exponents
abbrev pub term_data : Term → Data
term_data term = list (whole term.coefficient ∷ map natural term.exponents)

abbrev pub polynomial_data : Polynomial → Data
polynomial_data polynomial = object
    (member (codes "den") (natural polynomial.denominator)
    (member (codes "terms") (list (map term_data polynomial.terms))
    no_members))

-- a polynomial, by its terms in the order in which they are printed
abbrev pub written_polynomial : Quotient → Polynomial
written_polynomial q = record { terms = written_terms q; denominator = q.denominator }

-- ---- what was read, beside what the text says

-- a polynomial that was read has the value of the terms over the denominator, without common factors, and numbers no
-- greater than theirs
pub record IsPolynomial (polynomial : Polynomial) (q : Quotient) : Type 0 where
  pub value : IsTermsOver polynomial.terms polynomial.denominator q
  pub legal : IsLegal q
  pub within : IsNoGreater polynomial.terms polynomial.denominator q

abbrev pub ArePolynomials : List Polynomial → List Quotient → Type 0
ArePolynomials = AreAll IsPolynomial

-- ---- what is read is within the limits

abbrev pub HasSmallCoefficient : Term → Type 0
HasSmallCoefficient term = IsSmall COEFFICIENT_SIZE term.coefficient

pub record IsSmallWritten (polynomial : Polynomial) : Type 0 where
  pub numbers : AllByRecursion HasSmallCoefficient polynomial.terms
  pub over : polynomial.denominator < COEFFICIENT_SIZE
  pub light : terms_size polynomial.terms polynomial.denominator < MEASURE

coefficient_small : (d : Data) → IfOk (reads_coefficient d) (IsSmall COEFFICIENT_SIZE)
unfolding reads_coefficient
coefficient_small d =
    given_then (reads_integer COEFFICIENT_SIZE d) _ (IsSmall COEFFICIENT_SIZE) (IsSmall COEFFICIENT_SIZE) (integer_small COEFFICIENT_SIZE d) (λ z small. given_else (unsigned_abs z == 0) (fault 2) (Ok z) (IsSmall COEFFICIENT_SIZE) tt small) where
      given_else : (test : Bool) (one other : Outcome ℤ) (P : ℤ → Type 0) → IfOk one P → IfOk other P → IfOk (if test then one else other) P
      given_else true one other P first second = first
      given_else false one other P first second = second

term_in-small : (ds : List Data) → IfOk (term_in ds) HasSmallCoefficient
unfolding term_in
term_in-small [] = tt
term_in-small (d ∷ more) =
    given_then (under (Index 0) (reads_coefficient d)) _ (IsSmall COEFFICIENT_SIZE) HasSmallCoefficient (given_under (Index 0) (reads_coefficient d) (IsSmall COEFFICIENT_SIZE) (coefficient_small d))
    (λ coefficient small. given_behind (each (reads_natural 0 8) 1 more) _ HasSmallCoefficient (λ exponents. small))

term_small : (d : Data) → IfOk (reads_term d) HasSmallCoefficient
unfolding reads_term
term_small d = given_behind (reads_short_list 25 d) term_in HasSmallCoefficient term_in-small

term_behind_small : (earlier : List Term) (d : Data) → IfOk (reads_term_behind earlier d) HasSmallCoefficient
unfolding reads_term_behind
term_behind_small earlier d =
    given_then (reads_term d) _ HasSmallCoefficient HasSmallCoefficient (term_small d)
    (λ term small. given_if (stands_apart earlier term.exponents) (Ok term) (fault 2) HasSmallCoefficient (λ apart. small) tt)

terms_from-small : (i : ℕ) (earlier : List Term) (ds : List Data) → IfOk (terms_from i earlier ds) (AllByRecursion HasSmallCoefficient)
unfolding terms_from
terms_from-small i earlier [] = tt
terms_from-small i earlier (d ∷ ds) =
    given_then (under (Index i) (reads_term_behind earlier d)) _ HasSmallCoefficient (AllByRecursion HasSmallCoefficient)
    (given_under (Index i) (reads_term_behind earlier d) HasSmallCoefficient (term_behind_small earlier d))
    (λ term small. given_then (terms_from (suc i) (earlier ++ term ∷ []) ds) _ (AllByRecursion HasSmallCoefficient) (AllByRecursion HasSmallCoefficient) (terms_from-small (suc i) (earlier ++ term ∷ []) ds)
    (λ more rest. (small, rest)))

terms_small : (d : Data) → IfOk (reads_terms d) (AllByRecursion HasSmallCoefficient)
unfolding reads_terms
terms_small d = given_behind (reads_list d) (terms_from 0 []) (AllByRecursion HasSmallCoefficient) (terms_from-small 0 [])

abbrev HasSmallNumbers : Polynomial → Type 0
HasSmallNumbers polynomial = AllByRecursion HasSmallCoefficient polynomial.terms × (polynomial.denominator < COEFFICIENT_SIZE)

abbrev IsDenominator : ℕ → Type 0
IsDenominator n = (1 ≤ n) × (n ≤ COEFFICIENT_SIZE - 1)

quotient_small : (d : Data) → IfOk (reads_quotient d) HasSmallNumbers
unfolding reads_quotient
quotient_small d =
    given_keys (codes "den" ∷ codes "terms" ∷ []) d _ HasSmallNumbers
    (given_then (part (codes "den") (reads_natural 1 (COEFFICIENT_SIZE - 1)) d) _ IsDenominator HasSmallNumbers (given_part (codes "den") (reads_natural 1 (COEFFICIENT_SIZE - 1)) IsDenominator d (given_natural 1 (COEFFICIENT_SIZE - 1)))
    (λ denominator small_denominator. given_then (part (codes "terms") reads_terms d) _ (AllByRecursion HasSmallCoefficient) HasSmallNumbers
    (given_part (codes "terms") reads_terms (AllByRecursion HasSmallCoefficient) d terms_small) (λ terms small. (small, omega (arith, small_denominator.1)))))

pub polynomial_small : (d : Data) → IfOk (reads_polynomial d) IsSmallWritten
unfolding reads_polynomial
polynomial_small d =
    given_then (reads_quotient d) _ HasSmallNumbers IsSmallWritten (quotient_small d)
    (λ quotient small. given_if (nat_lt (terms_size quotient.terms quotient.denominator) MEASURE) (Ok quotient) (fault 3) IsSmallWritten
    (λ light. record { numbers = small.0; over = small.1; light = ltb-true (terms_size quotient.terms quotient.denominator) MEASURE light }) tt)

read_small : (polynomial : Polynomial) (q : Quotient) → IsPolynomial polynomial q → IsSmallWritten polynomial → IsSmallPolynomial q
read_small polynomial q is small = record {
  variables = is.within.variables;
  numbers = is.within.numbers COEFFICIENT_SIZE (omega arith) small.numbers;
  over = omega (arith, is.within.over, small.over);
  light = omega (arith, is.within.light, small.light);
}

pub all_read_small : (polynomials : List Polynomial) (qs : List Quotient) → ArePolynomials polynomials qs → AllByRecursion IsSmallWritten polynomials → AllByRecursion IsSmallPolynomial qs
all_read_small [] [] are all = tt
all_read_small [] (q ∷ qs) are all = absurd are
all_read_small (polynomial ∷ polynomials) [] are all = absurd are
all_read_small (polynomial ∷ polynomials) (q ∷ qs) are all = (read_small polynomial q are.0 all.0, all_read_small polynomials qs are.1 all.1)

-- as it is written
abbrev pub polynomial_shape : Shape Polynomial
polynomial_shape = record { reads = reads_polynomial; data_of = polynomial_data; IsWithin = IsSmallWritten; kept = polynomial_small; is_present = false; present = never }

-- ---- exponent lists that are kept in order

-- the exponents of each term
abbrev pub exponent_lists : List Term → List (List ℕ)
exponent_lists terms = map (λ (term : Term). term.exponents) terms

abbrev pub is_among : List (List ℕ) → List ℕ → Bool
is_among lists exponents = list_any (λ list. bytes_eq list exponents) lists

-- the set has these lists, and no others
abbrev pub HasLists : BTreeSet (Vec ℕ Global) → List (List ℕ) → Type 0
HasLists set lists = (list : Vec ℕ Global) → contains (λ x y. slice_cmp nat_cmp x.items y.items) set list ≡ is_among lists list.items
