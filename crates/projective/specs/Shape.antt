-- What a projective program's shape says.
use Rattle.std.specs.Prelude.{◌≡◌}
use Rattle.iolb_model.specs.Program.{AffineProgram}
use Rattle.affine_program.specs.Domain.{depth_of}
use Rattle.projective.specs.declared.projective.Projective.{Projective}
use Rattle.projective.specs.Projective.{projection_sets}

-- how many loops a program has, and which of them stand in each array's reference
pub record IsShapeOf (program : AffineProgram) (shape : Projective) : Type 0 where
  pub sets : shape.sets.items ≡ projection_sets program
  pub depth : shape.depth ≡ depth_of program 0
