-- The texts of cold terms.
use Rattle.std.specs.Prelude.{ℕ, List, codes, refl}
use Rattle.iolb_model.specs.Form.{AffineForm}
use Rattle.iolb_model.specs.Polynomial.{Polynomial}
use Rattle.affine_form.specs.Matrix.{IntegerMatrix}
use Rattle.affine_form.specs.Multipliers.{FarkasMultipliers}
use Rattle.reuse_paths.specs.LeafClaims.{LeafClaim}
use Rattle.json_parts.specs.Fields.{Fields, no_fields, field, record_shape}
use Rattle.json_parts.specs.Shape.{Shape, natural_shape, list_shape}
use Rattle.certificate_parts.specs.Forms.{forms_shape}
use Rattle.certificate_parts.specs.Multipliers.{all_multipliers_shape}
use Rattle.certificate_parts.specs.Nests.{nest_shape}
use Rattle.certificate_parts.specs.Polynomials.{polynomial_shape}
use Rattle.iolb_cert.specs.Read.{WrittenCold}
use Rattle.certificate_parts.specs.Leaves.{leaves_shape}
use Rattle.certificate_parts.specs.Inverses.{inverse_shape}

abbrev pub ColdMembers : Type 0
ColdMembers = List FarkasMultipliers × ((IntegerMatrix × ℕ) × (List LeafClaim × (List (AffineForm × AffineForm) × (List AffineForm × (ℕ × (List FarkasMultipliers × (ℕ × (List Polynomial × Unit {0}))))))))

abbrev pub cold_fields : Fields ColdMembers
cold_fields =
    field (codes "inside") all_multipliers_shape
    (field (codes "inverse") inverse_shape
    (field (codes "leaves") leaves_shape
    (field (codes "nest") nest_shape
    (field (codes "point") forms_shape
    (field (codes "read") (natural_shape 0 65535)
    (field (codes "shown") all_multipliers_shape
    (field (codes "statement") (natural_shape 0 65535)
    (field (codes "sums") (list_shape polynomial_shape)
    no_fields))))))))

abbrev pub cold_made : ColdMembers → WrittenCold
cold_made b = record {
  claim = record { statement = b.1.1.1.1.1.1.1.0; read = b.1.1.1.1.1.0; nest = b.1.1.1.0; shown = b.1.1.1.1.1.1.0; point = b.1.1.1.1.0; inside = b.0; matrix = b.1.0.0; scale = b.1.0.1; leaves = b.1.1.0 };
  sums = b.1.1.1.1.1.1.1.1.0;
}

abbrev pub cold_parts : WrittenCold → ColdMembers
cold_parts cold = (cold.claim.inside, ((cold.claim.matrix, cold.claim.scale), (cold.claim.leaves, (cold.claim.nest, (cold.claim.point, (cold.claim.read, (cold.claim.shown, (cold.claim.statement, (cold.sums, tt)))))))))

-- A cold term.
unfoldable pub cold_shape : Shape WrittenCold
cold_shape = record_shape cold_fields cold_made cold_parts (λ b. refl)
