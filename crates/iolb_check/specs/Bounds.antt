-- Bounds as the checker makes them, and their values at numbers for the parameters.
use Rattle.std.specs.Prelude.{◌≡◌, ℕ, ◌-◌, ◌*◌, ◌/◌, ◌^◌, ◌≤◌, ◌⊎◌, ℤ, pos, ◌*ℤ◌, List, [], ◌∷◌, map, length, slice_get, Some, Result, Ok, Err, Vec, max, fold}
use Rattle.std.specs.Global.{Global}
use Rattle.std.specs.List.{AllByRecursion}
use Rattle.iolb_model.specs.Form.{AffineForm}
use Rattle.iolb_model.specs.Bound.{AreMet, Bound, BoundTerm, cold, wavefront, partition, joint, StretchNumbers, branch_value, count_value, events_of, labels_of, points_of}
use Rattle.affine_form.specs.System.{AffineSystem}
use Rattle.affine_program.specs.Assumptions.{IsFirstUnmet}
use Rattle.k_partition.specs.declared.term.PartitionBound.{PartitionBound}
use Rattle.k_partition.specs.Numbers.{numbers_of}
use Rattle.poly_tree.specs.Expansion.{IsCanonical, at, size_at}
use Rattle.poly_tree.specs.Poly.{Quotient, numerator_at}
use Rattle.poly_tree.specs.Printed.{polynomial_of}
use Rattle.iolb_check.specs.declared.bound.Value.{Value}
use Rattle.iolb_check.specs.declared.bound.Value.TheVariants.{Cold, Joint, Partition, Wavefront}
use Rattle.iolb_check.specs.declared.value_fault.ValueFault.{ValueFault}
use Rattle.iolb_check.specs.declared.value_fault.ValueFault.TheVariants.{OutsideAssumption, Wide}
use Rattle.iolb_model.specs.declared.limits.TheConstants.{MEASURE}

-- the assumptions, and for each branch the values of its terms
pub record BoundParts : Type 0 where
  pub assumed : AffineSystem
  pub branches : List (List Value)

-- the term of a bound that a value is
abbrev pub term_of : Value → BoundTerm
term_of (Cold count) = cold (polynomial_of count)
term_of (Partition bound) = partition (polynomial_of bound.count) (polynomial_of bound.credits) (numbers_of bound)
term_of (Wavefront pairs outer) = wavefront (polynomial_of pairs) (polynomial_of outer)
term_of (Joint bound) = joint (polynomial_of bound.count) (polynomial_of bound.credits) (numbers_of bound)

abbrev pub terms_of : List Value → List BoundTerm
terms_of values = map term_of values

-- the lists of values that vectors hold
abbrev pub lists : List (Vec Value Global) → List (List Value)
lists branches = map (λ (terms : Vec Value Global). terms.items) branches

-- the bound that the parts are
abbrev pub bound_of : BoundParts → Bound
bound_of parts = record { assumptions = parts.assumed.rows; branches = map terms_of parts.branches }

-- A polynomial counts something: it uses only the parameters, and at all parameter values, of any size, at which the
-- assumptions are met its value is a whole number of at least 0.
pub record IsCounting (assumed : AffineSystem) (polynomial : Quotient) : Type 0 where
  pub parameters : IsCanonical assumed.vars polynomial.tree
  pub whole : (values : List ℤ) → length values ≡ assumed.vars → AreMet assumed.rows values
      → (n : ℕ) × (numerator_at polynomial values ≡ pos n *ℤ pos polynomial.denominator)

-- the polynomials of a partition or joint term's bound count something, and there is a greatest number of points of a stretch
pub record IsStretching (assumed : AffineSystem) (bound : PartitionBound) : Type 0 where
  pub count : IsCounting assumed bound.count
  pub credits : IsCounting assumed bound.credits
  pub some_q : 1 ≤ bound.q
  pub some_den : 1 ≤ bound.den

abbrev pub IsTermValue : AffineSystem → Value → Type 0
IsTermValue assumed (Cold count) = IsCounting assumed count
IsTermValue assumed (Partition bound) = IsStretching assumed bound
IsTermValue assumed (Wavefront pairs outer) = IsCounting assumed pairs × IsCounting assumed outer
IsTermValue assumed (Joint bound) = IsStretching assumed bound

-- what holds of each bound: its terms' polynomials count something
abbrev pub IsBound : BoundParts → Type 0
IsBound parts = AllByRecursion (λ terms. AllByRecursion (IsTermValue parts.assumed) terms) parts.branches

-- ---- values at sizes

-- a polynomial's terms at the sizes reach 2^126
abbrev pub IsWideAt : List ℤ → Quotient → Type 0
IsWideAt sizes polynomial = MEASURE ≤ size_at polynomial.tree (at sizes)

-- s for each of what a polynomial counts reaches 2^126
abbrev pub IsWideTimes : List ℤ → ℕ → Quotient → Type 0
IsWideTimes sizes s polynomial = MEASURE ≤ s * count_value (polynomial_of polynomial) sizes

-- the labels of a stretch, to the power of the weights, reach 2^127
abbrev pub AreWideLabels : ℕ → StretchNumbers → Type 0
AreWideLabels s numbers = 2 ^ 127 ≤ labels_of numbers s

-- the events of so many stretches as the points fill, but for the last, reach 2^126
abbrev pub AreWideEvents : List ℤ → ℕ → Quotient → StretchNumbers → Type 0
AreWideEvents sizes s count numbers = MEASURE ≤ events_of numbers s * ((count_value (polynomial_of count) sizes - 1) / points_of numbers s)

-- one of the polynomials of a partition or joint term is wide, or the labels of a stretch, or the events of all stretches
abbrev pub IsWidePartition : List ℤ → ℕ → PartitionBound → Type 0
IsWidePartition sizes s bound =
    IsWideAt sizes bound.count ⊎ (IsWideAt sizes bound.credits ⊎ (AreWideLabels s (numbers_of bound) ⊎ AreWideEvents sizes s bound.count (numbers_of bound)))

-- one of a term's polynomials is wide, or what may be red for a wavefront term's vertices
abbrev pub IsWideTerm : List ℤ → ℕ → Value → Type 0
IsWideTerm sizes s (Cold count) = IsWideAt sizes count
IsWideTerm sizes s (Partition bound) = IsWidePartition sizes s bound
IsWideTerm sizes s (Wavefront pairs outer) = IsWideAt sizes pairs ⊎ (IsWideAt sizes outer ⊎ IsWideTimes sizes s outer)
IsWideTerm sizes s (Joint bound) = IsWidePartition sizes s bound

-- one of the terms is wide
abbrev pub HasWideTerm : List ℤ → ℕ → List Value → Type 0
HasWideTerm sizes s [] = ⊥
HasWideTerm sizes s (term ∷ terms) = IsWideTerm sizes s term ⊎ HasWideTerm sizes s terms

-- one of a branch's terms is wide, or their sum reaches 2^126
abbrev pub IsWideBranch : List ℤ → ℕ → List Value → Type 0
IsWideBranch sizes s terms = HasWideTerm sizes s terms ⊎ (MEASURE ≤ branch_value (terms_of terms) sizes s)

-- one of the branches is wide
abbrev pub HasWideBranch : List ℤ → ℕ → List (List Value) → Type 0
HasWideBranch sizes s [] = ⊥
HasWideBranch sizes s (terms ∷ branches) = IsWideBranch sizes s terms ⊎ HasWideBranch sizes s branches

-- the greatest of a number and the values of branches
abbrev pub greatest_branch : List (List Value) → List ℤ → ℕ → ℕ → ℕ
greatest_branch branches sizes s least = fold max least (map (λ terms. branch_value (terms_of terms) sizes s) branches)

-- What an evaluation answers: the value, where the assumptions are met and nothing is wide; the first assumption that
-- isn't met; or that something is wide, where the assumptions are met.
abbrev pub Evaluates : List AffineForm → List ℤ → ℕ → Type 0 → Result ℕ ValueFault → Type 0
Evaluates assumptions sizes value wide (Ok found) = AreMet assumptions sizes × (¬ wide) × (found ≡ value)
Evaluates assumptions sizes value wide (Err (OutsideAssumption number)) = IsFirstUnmet assumptions sizes number
Evaluates assumptions sizes value wide (Err Wide) = AreMet assumptions sizes × wide

-- the same of a branch that is there
abbrev pub EvaluatesBranch : BoundParts → List ℤ → ℕ → ℕ → Result ℕ ValueFault → Type 0
EvaluatesBranch parts sizes s branch result = (terms : List Value) × (slice_get parts.branches branch ≡ Some terms)
    × Evaluates parts.assumed.rows sizes (branch_value (terms_of terms) sizes s) (IsWideBranch sizes s terms) result
