-- What is asked of the polynomials of a product holds, and as many are there as the nest has variables.
use Rattle.std.proofs.Common.{◌≡◌, refl, subst, ℕ, suc, ◌+◌, List, [], ◌∷◌, length, ap, arith, ◌∙◌}
use Rattle.iolb_model.specs.Form.{AffineForm}
use Rattle.iolb_model.specs.Program.{AffineProgram}
use Rattle.claims.specs.Claims.{AllHold, numbered}
use Rattle.claims.specs.declared.place.Step.{Step}
use Rattle.affine_form.specs.Multipliers.{FarkasMultipliers}
use Rattle.domain_count.specs.Claims.{SumClaims}
use Rattle.poly_tree.specs.Expansion.{IsCanonical}
use Rattle.poly_tree.specs.Poly.{Quotient}
use Rattle.certificate_fit.specs.PartFit.{polynomials_fit, sum_at}
use Rattle.projective.specs.Products.{AreRepeated, AreTaken, IsProductCount}
use Rattle.projective.proofs.Runs.{run-many}

taken-many : (rows : List AffineForm) (count : ℕ) (ps : List ℕ) (shown : List FarkasMultipliers) → AreTaken rows count ps shown → length shown ≡ length ps
taken-many rows count [] [] h = refl
taken-many rows count [] (m ∷ shown) h = absurd h
taken-many rows count (p ∷ ps) [] h = absurd h
taken-many rows count (p ∷ ps) (m ∷ shown) h = ap suc (taken-many rows count ps shown h.1)

sums-many : (variable : ℕ) (ps : List ℕ) (sums : List Quotient) → AreRepeated variable ps sums → length sums ≡ length ps
sums-many variable [] [] h = refl
sums-many variable [] (s ∷ sums) h = absurd h
sums-many variable (p ∷ ps) [] h = absurd h
sums-many variable (p ∷ ps) (s ∷ sums) h = ap suc (sums-many (suc variable) ps sums h.1)

sums-hold : (variables index variable : ℕ) (place : List Step) (ps : List ℕ) (sums : List Quotient) → suc variable ≡ variables + index → AreRepeated variable ps sums
    → AllHold (numbered (sum_at variables place) index sums)
sums-hold variables index variable place [] [] e h = tt
sums-hold variables index variable place [] (s ∷ sums) e h = absurd h
sums-hold variables index variable place (p ∷ ps) [] e h = absurd h
sums-hold variables index variable place (p ∷ ps) (s ∷ sums) e h =
    (subst (λ (n : ℕ). IsCanonical n s.tree) e h.0.uses, sums-hold variables (suc index) (suc variable) place ps sums (omega arith) h.1)

module _ (program : AffineProgram) (nest : List (AffineForm × AffineForm)) (claims : SumClaims) (h : IsProductCount program nest claims) where
  pub shown-many : length claims.shown ≡ length nest
  shown-many =
      taken-many program.assumptions (length program.parameters) h.parameters claims.shown h.shown ∙ run-many program (length program.parameters) nest h.parameters h.run

  pub polynomials-hold : (place : List Step) → AllHold (polynomials_fit (length program.parameters) place claims.sums (length nest))
  polynomials-hold place = (
    sums-many (length program.parameters) h.parameters claims.sums h.sums ∙ run-many program (length program.parameters) nest h.parameters h.run,
    sums-hold (suc (length program.parameters)) 0 (length program.parameters) place h.parameters claims.sums (omega arith) h.sums,
  )
