-- Where a reach's claims hold, a walk back from the one spot arrives at the other.
use Rattle.std.specs.Prelude.{ℕ, ℤ, List, ◌++◌, map}
use Rattle.iolb_model.specs.Form.{AffineForm}
use Rattle.iolb_model.specs.Program.{AffineProgram, IsWellFormed}
use Rattle.iolb_model.specs.Bound.{IsAdmitted}
use Rattle.iolb_model.specs.Domain.{IsWithin, IsAt}
use Rattle.iolb_model.specs.Execution.{Instance}
use Rattle.iolb_model.specs.Graph.{computation_graph}
use Rattle.claims.specs.Claims.{AllHold}
use Rattle.claims.specs.declared.place.Step.{Step}
use Rattle.affine_form.specs.Substitution.{values_at}
use Rattle.dep_quast.specs.Tree.{SelectionTree}
use Rattle.reuse_paths.specs.ReachClaims.{reach_claims}
use Rattle.reuse_paths.specs.ReachFits.{ReachFits}
use Rattle.reuse_paths.specs.Reached.{IsReached}
use Rattle.dep_quast.specs.Trees.{RowsFit, RowsAreTrue}
use Rattle.reuse_paths.specs.Walks.{SpotForms, ReachClaim}

-- the instance of a spot at a point of the nest
abbrev pub instance_of : SpotForms → List ℤ → List ℤ → Instance
instance_of spot parameters point = record { statement = spot.statement; values = values_at spot.point (parameters ++ point) }

-- At all admitted parameter values, of any size, and at each point within the nest's bounds at which the one spot is an
-- instance of the execution, the other is that instance, or it is reached from it by going from vertex to predecessor.
abbrev pub Arrives : AffineProgram → List (AffineForm × AffineForm) → SpotForms → SpotForms → Type 0
Arrives program nest from to = (parameters point : List ℤ) (start : ℕ) → IsAdmitted program parameters → IsWithin nest parameters point
    → IsAt program parameters start (instance_of from parameters point)
    → (end : ℕ) × (IsAt program parameters end (instance_of to parameters point) × IsReached (computation_graph program parameters) start end)

-- A reach whose claims hold, over true source trees, arrives.
abbrev pub ReachesArrive : Type 0
ReachesArrive = (program : AffineProgram) (trees : List (List SelectionTree)) (nest : List (AffineForm × AffineForm)) (from to : SpotForms) (reach : ReachClaim) (condition : ℕ) (place : List Step)
    → IsWellFormed program → RowsFit program 0 trees → RowsAreTrue program 0 trees → ReachFits program trees nest from to reach
    → AllHold (reach_claims program trees nest from to reach condition place) → Arrives program nest from to
