-- What claims that hold show.
use Rattle.std.proofs.Common.{ℕ, suc, ◌≤◌, List, [], ◌∷◌, length, arith}
use Rattle.std.specs.Prelude.{ℤ}
use Rattle.std.specs.List.{AllByRecursion}
use Rattle.iolb_model.specs.Form.{AffineForm}
use Rattle.affine_form.specs.Multipliers.{FarkasMultipliers}
use Rattle.affine_form.specs.Shown.{HasNoPoint}
use Rattle.affine_form.specs.System.{AffineSystem, IsMet}
use Rattle.affine_form.proofs.ShownLemmas.{Shows-follows, Shows-none}
use Rattle.claims.specs.Claims.{AllHold}
use Rattle.claims.specs.Shown.{follow_claims, pointless_claims}
use Rattle.claims.specs.declared.place.Step.{Step}

-- goals that are shown are met where the rows are
pub goals-met : (condition : ℕ) (place : List Step) (system : AffineSystem) (index : ℕ) (goals : List AffineForm) (shown : List FarkasMultipliers) (point : List ℤ)
    → length goals ≤ length shown → AllHold (follow_claims condition place system index goals shown) → IsMet system.rows point → IsMet goals point
goals-met condition place system index [] shown point enough h met = tt
goals-met condition place system index (goal ∷ goals) [] point enough h met = absurd (omega arith)
goals-met condition place system index (goal ∷ goals) (m ∷ shown) point enough h met =
    (Shows-follows system goal m h.0.0 h.0.1 point met, goals-met condition place system (suc index) goals shown point (omega arith) h.1 met)

-- systems that are shown to have no point have none
pub none-met : (condition : ℕ) (place : List Step) (index : ℕ) (systems : List AffineSystem) (shown : List FarkasMultipliers)
    → length systems ≤ length shown → AllHold (pointless_claims condition place index systems shown) → AllByRecursion HasNoPoint systems
none-met condition place index [] shown enough h = tt
none-met condition place index (first ∷ systems) [] enough h = absurd (omega arith)
none-met condition place index (first ∷ systems) (s ∷ shown) enough h =
    (Shows-none first s h.1.0.0 h.1.0.1, none-met condition place (suc index) systems shown (omega arith) h.1.1)
