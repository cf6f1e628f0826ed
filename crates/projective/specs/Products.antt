-- Counts of nests whose variables run from 0 to below parameters: products of these.
use Rattle.std.specs.Prelude.{◌≡◌, ⊤, ℕ, suc, ◌≤◌, ℤ, pos, ◌+ℤ◌, ◌*ℤ◌, neg_ℤ, ◌<◌, List, [], ◌∷◌, length}
use Rattle.std.specs.List.{AllByRecursion}
use Rattle.iolb_model.specs.Form.{AffineForm}
use Rattle.iolb_model.specs.Program.{AffineProgram}
use Rattle.affine_form.specs.Form.{IsSmall}
use Rattle.affine_form.specs.Multipliers.{FarkasMultipliers}
use Rattle.affine_form.specs.Rows.{variable}
use Rattle.affine_form.specs.Shown.{row_at}
use Rattle.poly_tree.specs.Expansion.{IsCanonical, at, coefficients}
use Rattle.poly_tree.specs.Poly.{IsLegal, Quotient, numerator_at, size}
use Rattle.domain_count.specs.Claims.{SumClaims}
use Rattle.domain_count.specs.Count.{IsCount}
use Rattle.projective.specs.Projective.{Assumes, HoldsOfOne, RunsBelow}

-- Each variable of a nest, with so many variables around the first, runs from 0 to below its parameter, which some
-- assumption says is at least 1.
abbrev pub RunBelow : AffineProgram → ℕ → List (AffineForm × AffineForm) → List ℕ → Type 0
RunBelow program vars [] [] = ⊤
RunBelow program vars [] (parameter ∷ parameters) = ⊥
RunBelow program vars (bounds ∷ nest) [] = ⊥
RunBelow program vars (bounds ∷ nest) (parameter ∷ parameters) = RunsBelow program vars bounds parameter × RunBelow program (suc vars) nest parameters

-- each of some parameters is there, and some assumption says that it is at least 1
abbrev pub AreAssumed : AffineProgram → List ℕ → Type 0
AreAssumed program parameters =
    AllByRecursion (λ parameter. (parameter < length program.parameters) × HoldsOfOne (Assumes (length program.parameters) parameter) program.assumptions) parameters

-- the product of the values of variables
abbrev pub product_of : List ℕ → (ℕ → ℤ) → ℤ
product_of [] values = pos 1
product_of (variable ∷ variables) values = values variable *ℤ product_of variables values

-- a polynomial is a product of variables
pub record IsProduct (variables : List ℕ) (poly : Quotient) : Type 0 where
  pub legal : IsLegal poly
  pub whole : poly.denominator ≡ 1
  pub value : (point : List ℤ) → numerator_at poly point ≡ product_of variables (at point)

-- A polynomial adds up a product of variables over the values of another one, from 0 to itself.
pub record IsRepeated (variable : ℕ) (variables : List ℕ) (poly : Quotient) : Type 0 where
  pub legal : IsLegal poly
  pub whole : poly.denominator ≡ 1
  pub value : (point : List ℤ) → numerator_at poly point ≡ product_of variables (at point) *ℤ (at point variable +ℤ pos 1)
  pub uses : IsCanonical (suc variable) poly.tree
  pub numbers : AllByRecursion (IsSmall 2) (coefficients poly.tree)
  pub light : size poly ≤ 2

-- the polynomials of a nest's variables, from one on: each adds up the product of the parameters behind it
abbrev pub AreRepeated : ℕ → List ℕ → List Quotient → Type 0
AreRepeated variable [] [] = ⊤
AreRepeated variable [] (sum ∷ sums) = ⊥
AreRepeated variable (parameter ∷ parameters) [] = ⊥
AreRepeated variable (parameter ∷ parameters) (sum ∷ sums) = IsRepeated variable parameters sum × AreRepeated (suc variable) parameters sums

-- Multipliers show a form from the row with this number, which has the form's coefficients and a constant below 0: they take the row
-- once, and the rest that makes the constant 0.
pub record TakesRow (rows : List AffineForm) (coefficients : List ℤ) (shown : FarkasMultipliers) : Type 0 where
  pub number : ℕ
  pub rest : ℕ
  pub there : number < length rows
  pub row : (row_at rows number).coefficients ≡ coefficients
  pub below : (row_at rows number).constant ≡ neg_ℤ (pos rest)
  pub is : shown ≡ record { scale = 1; rest = rest; weights = (number, 1) ∷ [] }

-- for each of some parameters, of so many, multipliers that take one row which says that it is at least 1
abbrev pub AreTaken : List AffineForm → ℕ → List ℕ → List FarkasMultipliers → Type 0
AreTaken rows count [] [] = ⊤
AreTaken rows count [] (m ∷ shown) = ⊥
AreTaken rows count (parameter ∷ parameters) [] = ⊥
AreTaken rows count (parameter ∷ parameters) (m ∷ shown) = TakesRow rows (variable count parameter).coefficients m × AreTaken rows count parameters shown

-- Claims of a nest's number of points are right, and it is the product of the parameters below which its variables run.
pub record IsProductCount (program : AffineProgram) (nest : List (AffineForm × AffineForm)) (claims : SumClaims) : Type 0 where
  pub parameters : List ℕ
  pub run : RunBelow program (length program.parameters) nest parameters
  pub total : Quotient
  pub right : IsCount program nest claims total
  pub product : IsProduct parameters total
  pub shown : AreTaken program.assumptions (length program.parameters) parameters claims.shown
  pub sums : AreRepeated (length program.parameters) parameters claims.sums
