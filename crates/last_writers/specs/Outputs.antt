-- Sound outputs, what they cost, and their pieces.
use Rattle.std.specs.Prelude.{◌≡◌, ℕ, ◌≤◌, ℤ, nat_eq, true, List, [], ◌∷◌, map, length}
use Rattle.std.specs.List.{AllByRecursion, IsDistinct}
use Rattle.iolb_model.specs.declared.game.Move.{Move}
use Rattle.iolb_model.specs.Program.{AffineProgram, IsWellFormed}
use Rattle.iolb_model.specs.Bound.{IsAdmitted}
use Rattle.iolb_model.specs.Execution.{Instance}
use Rattle.iolb_model.specs.Footprint.{Footprint}
use Rattle.iolb_model.specs.Game.{IsCompletePebbling, marked}
use Rattle.iolb_model.specs.Graph.{computation_graph}
use Rattle.affine_form.specs.Rows.{widened}
use Rattle.claims.specs.Claims.{AllHold}
use Rattle.claims.specs.declared.place.Step.{Step}
use Rattle.domain_count.specs.Points.{count, points}
use Rattle.footprint_pieces.specs.Pieces.{AreCovered, FootprintPiece}
use Rattle.footprint_pieces.specs.declared.piece.Target.TheVariants.{Instance as instance}
use Rattle.reuse_paths.specs.Arrival.{instance_of}
use Rattle.reuse_paths.specs.Places.{IsExecuted, place_of}
use Rattle.reuse_paths.specs.Walks.{SpotForms}
use Rattle.store_laws.specs.Stored.{stores_of}
use Rattle.store_terms.specs.Claims.{OutputClaim}
use Rattle.last_writers.specs.OutputClaims.{instance_claims, output_system, output_variables}
use Rattle.last_writers.specs.Fitting.{OutputFits}

-- the instance of each point of the nest
abbrev pub output_spot : OutputClaim → SpotForms
output_spot output = record { statement = output.statement; point = output.point }

abbrev pub output_instance : OutputClaim → List ℤ → List ℤ → Instance
output_instance output parameters point = instance_of (output_spot output) parameters point

-- an instance is executed, and no later one writes the cell that it writes
abbrev pub WritesLast : AffineProgram → List ℤ → Instance → Type 0
WritesLast program parameters it =
    IsExecuted program parameters it × (marked (computation_graph program parameters).last_writers (place_of program parameters it) ≡ true)

-- its footprint: the vertices of the instances of the nest's points
abbrev pub output_footprint : AffineProgram → OutputClaim → Footprint
output_footprint program output parameters = map (λ point. place_of program parameters (output_instance output parameters point)) (points output.nest parameters)

-- An output is sound: at all admitted parameter values, of any size, the instance of each point of the nest writes its cell
-- last, and different points have different instances.
abbrev pub IsSoundOutput : AffineProgram → OutputClaim → Type 0
IsSoundOutput program output = (parameters : List ℤ) → IsAdmitted program parameters
    → AllByRecursion (λ point. WritesLast program parameters (output_instance output parameters point)) (points output.nest parameters)
    × IsDistinct nat_eq (output_footprint program output parameters)

-- An output whose claims hold is sound.
abbrev pub ValidOutputsAreSound : Type 0
ValidOutputsAreSound = (program : AffineProgram) (place : List Step) (output : OutputClaim) → IsWellFormed program → OutputFits program output
    → AllHold (instance_claims program place output) → IsSoundOutput program output

-- It costs as many stores of its footprint as its nest has points: in every complete pebbling, with any number of red pebbles.
abbrev pub SoundOutputsAreStored : Type 0
SoundOutputsAreStored = (program : AffineProgram) (output : OutputClaim) (parameters : List ℤ) (s : ℕ) (moves : List Move) → IsSoundOutput program output
    → IsAdmitted program parameters → IsCompletePebbling (computation_graph program parameters) s moves
    → count output.nest parameters ≤ stores_of (output_footprint program output parameters) moves

-- ---- its piece

-- the instances of the nest's points
abbrev pub output_piece : AffineProgram → OutputClaim → FootprintPiece
output_piece program output = record {
  target = instance output.statement;
  vars = length output.nest;
  rows = (output_system program output).rows;
  point = map (widened (output_variables program output)) output.point;
}

-- The piece of a sound output covers its footprint.
abbrev pub OutputPiecesCover : Type 0
OutputPiecesCover = (program : AffineProgram) (output : OutputClaim) → IsWellFormed program → IsSoundOutput program output
    → AreCovered program (output_footprint program output) (output_piece program output ∷ [])
