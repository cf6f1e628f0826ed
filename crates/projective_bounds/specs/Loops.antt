-- The loops that stand in a reference of a projective program, and the parameters below which loops run.
use Rattle.std.specs.Prelude.{◌≡◌, ℕ, ◌<◌, List, length, map, slice_index_or}
use Rattle.std.specs.List.{AllByRecursion}
use Rattle.iolb_model.specs.Form.{AffineForm}
use Rattle.iolb_model.specs.Program.{AffineProgram, read_at}
use Rattle.affine_program.specs.Domain.{bounds_at, depth_of}
use Rattle.projective.specs.Products.{RunBelow}
use Rattle.projective_bounds.specs.Families.{loops_label}

-- the subscripts of a read are these loops
pub record AreLoopsOf (program : AffineProgram) (read : ℕ) (loops : List ℕ) : Type 0 where
  pub subscripts : (read_at program 0 read).subscripts ≡ loops_label program loops
  pub there : AllByRecursion (λ level. level < depth_of program 0) loops

-- the loops run from 0 to below these parameters, from the outermost
pub record RunLoops (program : AffineProgram) (below : List ℕ) : Type 0 where
  pub nest : List (AffineForm × AffineForm)
  pub around : nest ≡ bounds_at program 0
  pub run : RunBelow program (length program.parameters) nest below

-- the parameters of some of the loops
abbrev pub parameters_of : List ℕ → List ℕ → List ℕ
parameters_of below loops = map (λ level. slice_index_or below level 0) loops
