-- The texts of outputs.
use Rattle.std.specs.Prelude.{ℕ, List, codes, refl}
use Rattle.iolb_model.specs.Form.{AffineForm}
use Rattle.iolb_model.specs.Polynomial.{Polynomial}
use Rattle.affine_form.specs.Matrix.{IntegerMatrix}
use Rattle.affine_form.specs.Multipliers.{FarkasMultipliers}
use Rattle.json_parts.specs.Fields.{Fields, no_fields, field, record_shape}
use Rattle.json_parts.specs.Shape.{Shape, natural_shape, list_shape}
use Rattle.certificate_parts.specs.Forms.{forms_shape}
use Rattle.certificate_parts.specs.Inverses.{inverse_shape}
use Rattle.certificate_parts.specs.Multipliers.{all_multipliers_shape}
use Rattle.certificate_parts.specs.Nests.{nest_shape}
use Rattle.certificate_parts.specs.Polynomials.{polynomial_shape}

-- what an output claims, its polynomials as they are written
pub record WrittenOutput : Type 0 where
  pub statement : ℕ
  pub nest : List (AffineForm × AffineForm)
  pub shown : List FarkasMultipliers
  pub sums : List Polynomial
  pub point : List AffineForm
  pub inside : List FarkasMultipliers
  pub matrix : IntegerMatrix
  pub scale : ℕ
  pub later : List FarkasMultipliers

abbrev pub OutputMembers : Type 0
OutputMembers = List FarkasMultipliers × ((IntegerMatrix × ℕ) × (List FarkasMultipliers × (List (AffineForm × AffineForm) × (List AffineForm × (List FarkasMultipliers × (ℕ × (List Polynomial × Unit {0})))))))

abbrev pub output_fields : Fields OutputMembers
output_fields =
    field (codes "inside") all_multipliers_shape
    (field (codes "inverse") inverse_shape
    (field (codes "later") all_multipliers_shape
    (field (codes "nest") nest_shape
    (field (codes "point") forms_shape
    (field (codes "shown") all_multipliers_shape
    (field (codes "statement") (natural_shape 0 65535)
    (field (codes "sums") (list_shape polynomial_shape)
    no_fields)))))))

abbrev pub output_made : OutputMembers → WrittenOutput
output_made b = record { statement = b.1.1.1.1.1.1.0; nest = b.1.1.1.0; shown = b.1.1.1.1.1.0; sums = b.1.1.1.1.1.1.1.0; point = b.1.1.1.1.0; inside = b.0; matrix = b.1.0.0; scale = b.1.0.1; later = b.1.1.0 }

abbrev pub output_parts : WrittenOutput → OutputMembers
output_parts output = (output.inside, ((output.matrix, output.scale), (output.later, (output.nest, (output.point, (output.shown, (output.statement, (output.sums, tt))))))))

-- An output.
unfoldable pub output_shape : Shape WrittenOutput
output_shape = record_shape output_fields output_made output_parts (λ b. refl)
