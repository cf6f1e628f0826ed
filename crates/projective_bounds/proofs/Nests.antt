-- Nests whose variables run from 0 to below parameters.
use Rattle.std.proofs.Common.{◌≡◌, refl, ◌∙◌, ap, ℕ, zero, suc, ◌<◌, ◌≤◌, List, [], ◌∷◌, length, map, get_or, arith}
use Rattle.std.specs.List.{AllByRecursion}
use Rattle.std.proofs.Math.IntN.{ℤ, negsuc, ◌+ℤ◌}
use Rattle.base_laws.proofs.Lists.{All-at}
use Rattle.iolb_model.specs.Form.{AffineForm, form_value}
use Rattle.iolb_model.specs.Program.{AffineProgram}
use Rattle.projective.specs.Projective.{AllRun, Assumes, HoldsOfOne}
use Rattle.projective.specs.Products.{AreAssumed, RunBelow}
use Rattle.projective.proofs.NestRows.{at}
use Rattle.projective.proofs.TurnWorths.{ends_of, shifted-worth}
use Rattle.projective_bounds.specs.Loops.{parameters_of}
use Rattle.projective_bounds.specs.Outline.{nest_below}

pub nest-many : (vars : ℕ) (ps : List ℕ) → length (nest_below vars ps) ≡ length ps
nest-many vars [] = refl
nest-many vars (p ∷ ps) = ap suc (nest-many (suc vars) ps)

-- its variables run below the parameters
pub nest-runs : (program : AffineProgram) (vars : ℕ) (ps : List ℕ) → AreAssumed program ps → RunBelow program vars (nest_below vars ps) ps
nest-runs program vars [] h = tt
nest-runs program vars (p ∷ ps) h = (record { there = h.0.0; lower = refl; upper = refl; assumed = h.0.1 }, nest-runs program (suc vars) ps h.1)

pub run-all : (program : AffineProgram) (vars : ℕ) (nest : List (AffineForm × AffineForm)) (ps : List ℕ) → RunBelow program vars nest ps → AllRun program vars nest
run-all program vars [] ps h = tt
run-all program vars (b ∷ nest) [] h = absurd h
run-all program vars (b ∷ nest) (p ∷ ps) h = ((p, h.0), run-all program (suc vars) nest ps h.1)

-- each ends one before its parameter
pub ends-run : (program : AffineProgram) (vars : ℕ) (nest : List (AffineForm × AffineForm)) (ps : List ℕ) (k : ℕ) (point : List ℤ) → length program.parameters ≤ vars
    → RunBelow program vars nest ps → k < length nest → ends_of nest k point ≡ at (get_or ps k 0) point +ℤ negsuc 0
ends-run program vars [] ps k point more h below = absurd (omega arith)
ends-run program vars (b ∷ nest) [] k point more h below = absurd h
ends-run program vars (b ∷ nest) (p ∷ ps) zero point more h below =
    ap (λ (form : AffineForm). form_value form point) h.0.upper ∙ shifted-worth vars p point (omega (arith, more, h.0.there))
ends-run program vars (b ∷ nest) (p ∷ ps) (suc k) point more h below = ends-run program (suc vars) nest ps k point (omega (arith, more)) h.1 (omega arith)

-- the parameters of some loops
pub chosen-assumed : (program : AffineProgram) (below loops : List ℕ) → AreAssumed program below → AllByRecursion (λ (level : ℕ). level < length below) loops → AreAssumed program (parameters_of below loops)
chosen-assumed program below [] h there = tt
chosen-assumed program below (level ∷ loops) h there = (
  All-at (λ (parameter : ℕ). (parameter < length program.parameters) × HoldsOfOne (Assumes (length program.parameters) parameter) program.assumptions) below level 0 h there.0,
  chosen-assumed program below loops h there.1,
)
