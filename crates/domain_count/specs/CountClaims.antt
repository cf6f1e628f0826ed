-- What is claimed of a nest's number of points, claim by claim in the order in which they are tested: that each range is
-- whole, from the outermost variable in; then that each polynomial sums what the variables behind it count, from the last
-- variable out. (Graham, Knuth and Patashnik, Concrete Mathematics, section 2.6.)
use Rattle.std.specs.Prelude.{ℕ, zero, suc, ◌+◌, List, [], ◌∷◌, ◌++◌, length, take, drop, slice_index_or, codes}
use Rattle.iolb_model.specs.Form.{AffineForm}
use Rattle.iolb_model.specs.Program.{AffineProgram}
use Rattle.affine_form.specs.Multipliers.{FarkasMultipliers}
use Rattle.claims.specs.Claims.{Claim, numbered}
use Rattle.claims.specs.declared.place.Step.{Step}
use Rattle.claims.specs.declared.place.Step.TheVariants.{Key, Index}
use Rattle.poly_tree.specs.Poly.{Quotient}
use Rattle.domain_count.specs.Antidifference.{IsAntidifference, IsBackwardDifference}
use Rattle.domain_count.specs.Claims.{SumClaims}
use Rattle.domain_count.specs.Count.{IsSumFrom, ShowsRange, multipliers_at, one}

-- the place of a member under a key
abbrev pub member_place : List Step → List ℕ → ℕ → List Step
member_place place key k = place ++ Key key ∷ Index k ∷ []

-- the claim that a variable's range is whole
abbrev pub range_claim : AffineProgram → List (AffineForm × AffineForm) → List FarkasMultipliers → List Step → ℕ → AffineForm × AffineForm → List Claim
range_claim program nest shown place k bounds = record {
  condition = 8;
  place = member_place place (codes "shown") k;
  statement = ShowsRange program (take k nest) bounds (multipliers_at shown k);
} ∷ []

-- the polynomial of the variable with this number; one that isn't there isn't asked for
abbrev pub sum_at : List Quotient → ℕ → Quotient
sum_at sums k = slice_index_or sums k one

-- The backward difference of a polynomial has its measures within the limits.
abbrev pub HasDifference : ℕ → Quotient → Type 0
HasDifference var sum = (difference : Quotient) × IsBackwardDifference var sum difference

-- A variable's polynomial is an antidifference of what the variables behind it count.
abbrev pub SumsBehind : ℕ → List (AffineForm × AffineForm) → List Quotient → ℕ → Type 0
SumsBehind params nest sums k =
    (summand : Quotient) × (IsSumFrom (suc (params + k)) (drop (suc k) nest) (drop (suc k) sums) summand × IsAntidifference (params + k) summand (sum_at sums k))

-- The sum between a variable's bounds, which counts the variables from this one on, has its measures within the limits.
abbrev pub HasTotal : ℕ → List (AffineForm × AffineForm) → List Quotient → ℕ → Type 0
HasTotal params nest sums k = (total : Quotient) × IsSumFrom (params + k) (drop k nest) (drop k sums) total

-- the claims about a variable's polynomial, which stands in a list under a key
abbrev pub sum_claims : ℕ → List (AffineForm × AffineForm) → List Quotient → List Step → List ℕ → ℕ → List Claim
sum_claims params nest sums place key k =
    record { condition = 2; place = member_place place key k; statement = HasDifference (params + k) (sum_at sums k) }
    ∷ record { condition = 9; place = member_place place key k; statement = SumsBehind params nest sums k }
    ∷ record { condition = 2; place = member_place place key k; statement = HasTotal params nest sums k }
    ∷ []

-- the claims about the polynomials of the variables before one, from the last of them out
abbrev pub sums_down : ℕ → List (AffineForm × AffineForm) → List Quotient → List Step → List ℕ → ℕ → List Claim
sums_down params nest sums place key zero = []
sums_down params nest sums place key (suc k) = sum_claims params nest sums place key k ++ sums_down params nest sums place key k

-- what is claimed of a nest's polynomials, which stand in a list under a key
abbrev pub sums_claims : AffineProgram → List (AffineForm × AffineForm) → List Quotient → List Step → List ℕ → List Claim
sums_claims program nest sums place key = sums_down (length program.parameters) nest sums place key (length nest)

-- all claims of a count
abbrev pub count_claims : AffineProgram → List (AffineForm × AffineForm) → SumClaims → List Step → List Claim
count_claims program nest claims place =
    numbered (range_claim program nest claims.shown place) 0 nest
    ++ sums_claims program nest claims.sums place (codes "sums")
