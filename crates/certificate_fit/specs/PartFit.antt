-- What is asked of forms, multipliers, nests, matrices and polynomials. A list is looked at before its members.
use Rattle.std.specs.Prelude.{ℕ, suc, ◌+◌, ◌==◌, if◌then◌else◌, List, [], ◌∷◌, ◌++◌, length}
use Rattle.iolb_model.specs.Form.{AffineForm}
use Rattle.affine_form.specs.Matrix.{IntegerMatrix}
use Rattle.affine_form.specs.Multipliers.{FarkasMultipliers}
use Rattle.poly_tree.specs.Poly.{Quotient}
use Rattle.claims.specs.declared.place.Step.{Step}
use Rattle.claims.specs.declared.place.Step.TheVariants.{Index}
use Rattle.claims.specs.Claims.{Claim, numbered}
use Rattle.certificate_fit.specs.FitClaims.{so_many, uses}

-- a form over so many variables
abbrev pub form_fits : ℕ → List Step → AffineForm → Claim
form_fits variables place form = so_many place (length form.coefficients) variables

-- forms over so many variables
abbrev pub form_at : ℕ → List Step → ℕ → AffineForm → List Claim
form_at variables place index form = form_fits variables (place ++ Index index ∷ []) form ∷ []

abbrev pub forms_fit : ℕ → List Step → List AffineForm → List Claim
forms_fit variables place forms = numbered (form_at variables place) 0 forms

-- so many multipliers
abbrev pub shown_fit : ℕ → List Step → List FarkasMultipliers → Claim
shown_fit called place shown = so_many place (length shown) called

-- The bounds of a nest's variables: those of each are over so many variables and one more for each before it.
abbrev pub bounds_at : ℕ → List Step → ℕ → AffineForm × AffineForm → List Claim
bounds_at variables place index bounds =
    form_fits (variables + index) (place ++ Index index ∷ Index 0 ∷ []) bounds.0 ∷ form_fits (variables + index) (place ++ Index index ∷ Index 1 ∷ []) bounds.1 ∷ []

abbrev pub bounds_fit : ℕ → List Step → List (AffineForm × AffineForm) → List Claim
bounds_fit variables place nest = numbered (bounds_at variables place) 0 nest

-- A matrix with so many rows and, where it has a row, so many columns.
abbrev pub matrix_fit : ℕ → ℕ → List Step → IntegerMatrix → List Claim
matrix_fit rows columns place matrix =
    so_many place matrix.rows rows ∷ so_many place matrix.columns (if matrix.rows == 0 then 0 else columns) ∷ []

-- Polynomials: each uses only so many variables and one more for each before it.
abbrev pub sum_at : ℕ → List Step → ℕ → Quotient → List Claim
sum_at variables place index sum = uses (place ++ Index index ∷ []) sum (variables + index) ∷ []

abbrev pub sums_fit : ℕ → List Step → List Quotient → List Claim
sums_fit variables place sums = numbered (sum_at variables place) 0 sums

-- Polynomials in a list at a place, of which so many are called for: over so many parameters, and one more variable for each
-- before it and its own.
abbrev pub polynomials_fit : ℕ → List Step → List Quotient → ℕ → List Claim
polynomials_fit parameters place sums called = so_many place (length sums) called ∷ sums_fit (suc parameters) place sums
