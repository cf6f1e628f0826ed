-- The outline of a cold term of a projective program: the loops that stand in the reference take all their values, and each
-- other is in its first turn.
use Rattle.std.specs.Prelude.{◌≡◌, ℕ, suc, ◌+◌, ◌==◌, if◌then◌else◌, pos, negsuc, List, [], ◌∷◌, length, map}
use Rattle.std.specs.List.{range_with_len}
use Rattle.iolb_model.specs.Form.{AffineForm}
use Rattle.iolb_model.specs.Program.{AffineProgram}
use Rattle.affine_form.specs.Combination.{constant_form}
use Rattle.affine_form.specs.Rows.{variable}
use Rattle.affine_program.specs.Domain.{depth_of}
use Rattle.cold_terms.specs.Outline.{ColdOutline}
use Rattle.projective.specs.Projective.{shifted_variable}
use Rattle.projective.specs.SourceTrees.{read_number}
use Rattle.projective_bounds.specs.Whole.{identity_matrix}
use Rattle.projective_bounds.specs.Loops.{AreLoopsOf, RunLoops, parameters_of}

-- the bounds of a nest's variables, with so many variables around the first, which run from 0 to below these parameters
abbrev pub nest_below : ℕ → List ℕ → List (AffineForm × AffineForm)
nest_below vars [] = []
nest_below vars (parameter ∷ parameters) = (constant_form vars (pos 0), shifted_variable vars parameter (negsuc 0)) ∷ nest_below (suc vars) parameters

-- The value of a loop: where it is one of these, its variable, of which the first has this place; else 0, its value in its
-- first turn.
abbrev pub value_among : ℕ → ℕ → List ℕ → ℕ → AffineForm
value_among vars place [] level = constant_form vars (pos 0)
value_among vars place (first ∷ others) level = if first == level then variable vars place else value_among vars (suc place) others level

-- the values of all loops, over so many variables
abbrev pub read_values : AffineProgram → ℕ → List ℕ → List AffineForm
read_values program vars loops = map (value_among vars (length program.parameters) loops) (range_with_len 0 (depth_of program 0))

-- The outline of a read's cold term: a variable for each subscript, in their order, which runs below the parameter of its
-- loop. So the subscripts are the variables, and the identity undoes them.
pub record IsReadOutline (program : AffineProgram) (read : ℕ) (outline : ColdOutline) : Type 0 where
  pub reader : outline.reader ≡ read_number read
  pub loops : List ℕ
  pub are : AreLoopsOf program read loops
  pub below : List ℕ
  pub run : RunLoops program below
  pub nest : outline.nest ≡ nest_below (length program.parameters) (parameters_of below loops)
  pub point : outline.point ≡ read_values program (length program.parameters + length outline.nest) loops
  pub matrix : outline.matrix ≡ identity_matrix (length outline.nest)
  pub scale : outline.scale ≡ 1
