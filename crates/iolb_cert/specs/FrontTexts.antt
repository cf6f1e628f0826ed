-- The texts of wavefront terms.
use Rattle.std.specs.Prelude.{ℕ, List, codes, Option, refl}
use Rattle.iolb_model.specs.Form.{AffineForm}
use Rattle.iolb_model.specs.Polynomial.{Polynomial}
use Rattle.affine_form.specs.Matrix.{IntegerMatrix}
use Rattle.affine_form.specs.Multipliers.{FarkasMultipliers}
use Rattle.reuse_paths.specs.LeafClaims.{LeafClaim}
use Rattle.reuse_paths.specs.Walks.{SpotForms, ReachClaim}
use Rattle.json_parts.specs.Fields.{Fields, no_fields, field, record_shape}
use Rattle.json_parts.specs.Shape.{Shape, natural_shape, list_shape, or_null_shape}
use Rattle.certificate_parts.specs.Reaches.{spot_shape, reach_shape}
use Rattle.certificate_parts.specs.Multipliers.{all_multipliers_shape}
use Rattle.certificate_parts.specs.Nests.{nest_shape}
use Rattle.certificate_parts.specs.Polynomials.{polynomial_shape}
use Rattle.iolb_cert.specs.Read.{WrittenFront}
use Rattle.certificate_parts.specs.Leaves.{leaves_shape}
use Rattle.certificate_parts.specs.Inverses.{inverse_shape}

abbrev pub FrontMembers : Type 0
FrontMembers = ReachClaim × (List LeafClaim × (List FarkasMultipliers × ((IntegerMatrix × ℕ) × (List (AffineForm × AffineForm) × (ℕ × (List Polynomial × (Option ReachClaim × (ℕ × (List FarkasMultipliers × (Option SpotForms × (List Polynomial × (SpotForms × (SpotForms × Unit {0})))))))))))))

abbrev pub front_fields : Fields FrontMembers
front_fields =
    field (codes "back") reach_shape
    (field (codes "edge") leaves_shape
    (field (codes "inside") all_multipliers_shape
    (field (codes "inverse") inverse_shape
    (field (codes "nest") nest_shape
    (field (codes "outer") (natural_shape 0 255)
    (field (codes "outer_sums") (list_shape polynomial_shape)
    (field (codes "reach") (or_null_shape reach_shape)
    (field (codes "read") (natural_shape 0 65535)
    (field (codes "shown") all_multipliers_shape
    (field (codes "source") (or_null_shape spot_shape)
    (field (codes "sums") (list_shape polynomial_shape)
    (field (codes "user") spot_shape
    (field (codes "vertex") spot_shape
    no_fields)))))))))))))

abbrev pub front_made : FrontMembers → WrittenFront
front_made b = record {
  claim = record { nest = b.1.1.1.1.0; outer = b.1.1.1.1.1.0; shown = b.1.1.1.1.1.1.1.1.1.0; vertex = b.1.1.1.1.1.1.1.1.1.1.1.1.1.0; user = b.1.1.1.1.1.1.1.1.1.1.1.1.0; read = b.1.1.1.1.1.1.1.1.0; source = b.1.1.1.1.1.1.1.1.1.1.0; inside = b.1.1.0; matrix = b.1.1.1.0.0; scale = b.1.1.1.0.1; edge = b.1.0; reach = b.1.1.1.1.1.1.1.0; back = b.0 };
  sums = b.1.1.1.1.1.1.1.1.1.1.1.0;
  outer_sums = b.1.1.1.1.1.1.0;
}

abbrev pub front_parts : WrittenFront → FrontMembers
front_parts front = (front.claim.back, (front.claim.edge, (front.claim.inside, ((front.claim.matrix, front.claim.scale), (front.claim.nest, (front.claim.outer, (front.outer_sums, (front.claim.reach, (front.claim.read, (front.claim.shown, (front.claim.source, (front.sums, (front.claim.user, (front.claim.vertex, tt))))))))))))))

-- A wavefront term.
unfoldable pub front_shape : Shape WrittenFront
front_shape = record_shape front_fields front_made front_parts (λ b. refl)
