-- The values of stores at numbers for the parameters, and where they are beyond 128 bits.
use Rattle.std.specs.Prelude.{◌≡◌, ⊤, ℕ, ◌+◌, ◌≤◌, ◌⊎◌, true, if◌then◌else◌, ℤ, List, [], ◌∷◌, map, sum, Result, Ok, Err}
use Rattle.std.specs.List.{AllZip}
use Rattle.affine_program.specs.Assumptions.{IsFirstUnmet}
use Rattle.iolb_check.specs.Bounds.{HasWideBranch, IsWideAt, term_of, terms_of}
use Rattle.iolb_check.specs.Claims.{TermClaim}
use Rattle.iolb_check.specs.declared.bound.Value.{Value}
use Rattle.iolb_check.specs.declared.bound.Value.TheVariants.{Cold, Joint, Partition, Wavefront}
use Rattle.iolb_check.specs.declared.value_fault.ValueFault.{ValueFault}
use Rattle.iolb_check.specs.declared.value_fault.ValueFault.TheVariants.{OutsideAssumption, Wide}
use Rattle.iolb_model.specs.Bound.{AreMet, branch_value, count_value, term_value}
use Rattle.iolb_model.specs.Form.{AffineForm}
use Rattle.iolb_model.specs.declared.limits.TheConstants.{MEASURE}
use Rattle.poly_tree.specs.Poly.{Quotient}
use Rattle.poly_tree.specs.Printed.{polynomial_of}
use Rattle.store_bound.specs.Counted.{is_computed}
use Rattle.store_bound.specs.declared.fault.Traffic.{Traffic}

-- how many instances outputs have, by their counts
abbrev pub output_value : List Quotient → List ℤ → ℕ
output_value counts sizes = sum (map (λ count. count_value (polynomial_of count) sizes) counts)

-- The value of stores: how many instances the outputs have, and for each wavefront term that is counted how many words it has,
-- less s for each of its vertices.
abbrev pub store_value : List Quotient → List Value → List ℤ → ℕ → ℕ
store_value counts values sizes s = output_value counts sizes + branch_value (terms_of values) sizes s

-- one of the counts is wide
abbrev pub HasWideCount : List ℤ → List Quotient → Type 0
HasWideCount sizes [] = ⊥
HasWideCount sizes (count ∷ counts) = IsWideAt sizes count ⊎ HasWideCount sizes counts

-- Something is wide: in a branch of the bound, or an output's count, or the bound's value and that of the stores reach 2^126
-- together.
abbrev pub IsWideTraffic : List ℤ → ℕ → List (List Value) → List Quotient → ℕ → Type 0
IsWideTraffic sizes s branches counts both = HasWideBranch sizes s branches ⊎ (HasWideCount sizes counts ⊎ (MEASURE ≤ both))

-- ---- of the terms that are counted

-- a value is that of a wavefront term
abbrev pub IsWavefront : Value → Type 0
IsWavefront (Cold count) = ⊥
IsWavefront (Partition bound) = ⊥
IsWavefront (Wavefront pairs outer) = ⊤
IsWavefront (Joint bound) = ⊥

-- the value of a term, if its words were computed, and else 0
abbrev pub word_value : TermClaim → Value → List ℤ → ℕ → ℕ
word_value term value sizes s = if is_computed term then term_value (term_of value) sizes s else 0

-- each term whose words were computed has such a value
abbrev pub HasWordValue : TermClaim → Value → Type 0
HasWordValue term value = is_computed term ≡ true → IsWavefront value

abbrev pub HaveWordValues : List TermClaim → List Value → Type 0
HaveWordValues terms values = AllZip HasWordValue terms values

-- ---- both values

-- What an evaluation answers: the bound's value and that of the stores, where the assumptions are met and nothing is wide; the
-- first assumption that isn't met; or that something is wide, where the assumptions are met.
abbrev pub EvaluatesBoth : List AffineForm → List ℤ → ℕ → ℕ → Type 0 → Result Traffic ValueFault → Type 0
EvaluatesBoth assumptions sizes least_loads least_stores wide (Ok found) =
    AreMet assumptions sizes × (¬ wide) × (found.loads ≡ least_loads) × (found.stores ≡ least_stores)
EvaluatesBoth assumptions sizes least_loads least_stores wide (Err (OutsideAssumption number)) = IsFirstUnmet assumptions sizes number
EvaluatesBoth assumptions sizes least_loads least_stores wide (Err Wide) = AreMet assumptions sizes × wide
