-- Branches of terms whose values add up.
use Rattle.std.specs.Prelude.{ℕ, ◌≤◌, ℤ, List}
use Rattle.iolb_model.specs.declared.game.Move.{Move}
use Rattle.iolb_model.specs.Program.{AffineProgram}
use Rattle.iolb_model.specs.Bound.{IsAdmitted, BoundTerm, branch_value}
use Rattle.iolb_model.specs.Footprint.{ValuesAddUp}
use Rattle.iolb_model.specs.Graph.{computation_graph}
use Rattle.iolb_model.specs.Game.{IsCompletePebbling, loads}

-- The value of a branch whose terms cost their values in loads of footprints of which no two have a vertex in common is at most
-- the loads of every complete pebbling, at all admitted parameter values and every S of at least 1.
abbrev pub BranchesAreLoaded : Type 0
BranchesAreLoaded = (program : AffineProgram) (terms : List BoundTerm) (values : List ℤ) (s : ℕ) (moves : List Move) → ValuesAddUp program terms
    → IsAdmitted program values → 1 ≤ s → IsCompletePebbling (computation_graph program values) s moves → branch_value terms values s ≤ loads moves
