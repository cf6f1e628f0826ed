-- The texts of matrices with their scales.
use Rattle.std.specs.Prelude.{ℕ, codes, refl}
use Rattle.iolb_model.specs.declared.limits.TheConstants.{SCALE}
use Rattle.affine_form.specs.Matrix.{IntegerMatrix}
use Rattle.json_parts.specs.Fields.{Fields, no_fields, field, record_shape}
use Rattle.json_parts.specs.Shape.{Shape, natural_shape}
use Rattle.certificate_parts.specs.Matrices.{matrix_shape}

abbrev pub InverseMembers : Type 0
InverseMembers = IntegerMatrix × (ℕ × Unit {0})

abbrev pub inverse_fields : Fields InverseMembers
inverse_fields = field (codes "matrix") matrix_shape (field (codes "scale") (natural_shape 1 SCALE) no_fields)

abbrev pub inverse_made : InverseMembers → IntegerMatrix × ℕ
inverse_made b = (b.0, b.1.0)

-- a matrix and its scale, at least 1 and at most what a scale may be
unfoldable pub inverse_shape : Shape (IntegerMatrix × ℕ)
inverse_shape = record_shape inverse_fields inverse_made (λ inverse. (inverse.0, (inverse.1, tt))) (λ b. refl)
