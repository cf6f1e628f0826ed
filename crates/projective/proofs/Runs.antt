-- Nests whose variables run from 0 to below parameters, variable by variable.
use Rattle.std.proofs.Common.{◌≡◌, refl, ap, subst, ℕ, suc, List, [], ◌∷◌, length, map}
use Rattle.iolb_model.specs.Form.{AffineForm}
use Rattle.iolb_model.specs.Program.{AffineProgram}
use Rattle.projective.specs.Projective.{AllRun, RunsBelow}
use Rattle.projective.specs.Products.{AreAssumed, RunBelow}

-- the first variable, and those behind it
pub first-runs : (program : AffineProgram) (vars : ℕ) (bounds : List (AffineForm × AffineForm)) (first : AffineForm × AffineForm) (others : List (AffineForm × AffineForm)) → bounds ≡ first ∷ others
    → AllRun program vars bounds → ((p : ℕ) × RunsBelow program vars first p) × AllRun program (suc vars) others
first-runs program vars bounds first others e h = subst (λ (b : List (AffineForm × AffineForm)). AllRun program vars b) e h

-- there are as many parameters as variables
pub run-many : (program : AffineProgram) (vars : ℕ) (nest : List (AffineForm × AffineForm)) (ps : List ℕ) → RunBelow program vars nest ps → length ps ≡ length nest
run-many program vars [] [] h = refl
run-many program vars [] (p ∷ ps) h = absurd h
run-many program vars (b ∷ nest) [] h = absurd h
run-many program vars (b ∷ nest) (p ∷ ps) h = ap suc (run-many program (suc vars) nest ps h.1)

-- they are there, and are assumed to be at least 1
pub run-assumed : (program : AffineProgram) (vars : ℕ) (nest : List (AffineForm × AffineForm)) (ps : List ℕ) → RunBelow program vars nest ps → AreAssumed program ps
run-assumed program vars [] [] h = tt
run-assumed program vars [] (p ∷ ps) h = absurd h
run-assumed program vars (b ∷ nest) [] h = absurd h
run-assumed program vars (b ∷ nest) (p ∷ ps) h = ((h.0.there, h.0.assumed), run-assumed program (suc vars) nest ps h.1)
