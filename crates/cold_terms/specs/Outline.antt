-- What a cold term is filled into: its read, nest, point and matrix.
use Rattle.std.specs.Prelude.{◌≡◌, ℕ, ◌+◌, ◌≤◌, List, [], length}
use Rattle.std.specs.List.{AllByRecursion}
use Rattle.iolb_model.specs.Form.{AffineForm}
use Rattle.iolb_model.specs.Program.{AffineProgram}
use Rattle.affine_form.specs.Matrix.{IntegerMatrix}
use Rattle.affine_form.specs.Rows.{BoundsFit, IsSmallOver}
use Rattle.affine_program.specs.Domain.{depth_of}
use Rattle.dep_quast.specs.Context.{ReadOf, reference_of}
use Rattle.dep_quast.specs.Truth.{ReadFits}
use Rattle.wavefront.specs.Term.{ColdTerm}
use Rattle.cold_terms.specs.declared.outline.Outline.{Outline}
use Rattle.iolb_model.specs.declared.limits.TheConstants.{NEST_VARIABLES, SCALE}

-- An outline: the read of a cold term, its nest, the loop values of the reading instance, and the matrix with its scale.
pub record ColdOutline : Type 0 where
  pub reader : ReadOf
  pub nest : List (AffineForm × AffineForm)
  pub point : List AffineForm
  pub matrix : IntegerMatrix
  pub scale : ℕ

-- that of a term
abbrev pub outline_in : ColdTerm → ColdOutline
outline_in term = record { reader = term.reader; nest = term.nest; point = term.point; matrix = term.matrix; scale = term.scale }

-- the term of an outline, yet without polynomials, multipliers and entries
abbrev pub bare : ColdOutline → ColdTerm
bare outline = record {
  reader = outline.reader;
  nest = outline.nest;
  count = record { shown = []; sums = [] };
  point = outline.point;
  inside = [];
  matrix = outline.matrix;
  scale = outline.scale;
  leaves = [];
}

-- that which the code holds
abbrev pub outline_of : Outline → ColdOutline
outline_of outline = record {
  reader = record { statement = outline.statement; read = outline.read };
  nest = outline.nest;
  point = outline.point.items;
  matrix = outline.inverse.matrix;
  scale = outline.inverse.scale;
}

-- An outline fits a program: its read is there, its forms are small and over the parameters and the nest's variables, there
-- is a value for each loop around the statement, a row of the matrix for each variable and a column for each subscript.
pub record OutlineFits (program : AffineProgram) (outline : ColdOutline) : Type 0 where
  pub read : ReadFits program outline.reader
  pub few : length outline.nest ≤ NEST_VARIABLES
  pub bounds : BoundsFit (length program.parameters) outline.nest
  pub point : length outline.point ≡ depth_of program outline.reader.statement
  pub forms : AllByRecursion (IsSmallOver (length program.parameters + length outline.nest)) outline.point
  pub rows : outline.matrix.rows ≡ length outline.nest
  pub columns : (1 ≤ outline.matrix.rows) → outline.matrix.columns ≡ length (reference_of program outline.reader).subscripts
  pub some_scale : 1 ≤ outline.scale
  pub scale : outline.scale ≤ SCALE
