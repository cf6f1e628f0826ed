-- The texts of parts.
use Rattle.std.specs.Prelude.{◌≡◌, ℕ, List, codes, map, refl}
use Rattle.iolb_model.specs.declared.limits.TheConstants.{NEST_VARIABLES}
use Rattle.iolb_model.specs.Form.{AffineForm}
use Rattle.iolb_model.specs.Polynomial.{Polynomial}
use Rattle.affine_form.specs.Matrix.{IntegerMatrix}
use Rattle.affine_form.specs.Multipliers.{FarkasMultipliers}
use Rattle.json_parts.specs.Fields.{Fields, no_fields, field, record_shape}
use Rattle.json_parts.specs.Shape.{Shape, natural_shape, list_shape}
use Rattle.poly_tree.specs.Poly.{Quotient}
use Rattle.certificate_parts.specs.Forms.{form_shape}
use Rattle.certificate_parts.specs.Inverses.{inverse_shape}
use Rattle.certificate_parts.specs.Multipliers.{all_multipliers_shape}
use Rattle.certificate_parts.specs.Nests.{nest_shape}
use Rattle.certificate_parts.specs.Polynomials.{ArePolynomials, polynomial_shape, written_polynomial}
use Rattle.joint_partition.specs.declared.term.Part.{Part}
use Rattle.joint_partition.specs.Term.{PartTerm}
use Rattle.json_parts.specs.OneToMost.{one_to_most_shape}

-- what a part claims, its polynomials as they are written
pub record WrittenPart : Type 0 where
  pub statement : ℕ
  pub nest : List (AffineForm × AffineForm)
  pub shown : List FarkasMultipliers
  pub sums : List Polynomial
  pub inside : List FarkasMultipliers
  pub image : List AffineForm
  pub matrix : IntegerMatrix
  pub scale : ℕ

abbrev pub PartMembers : Type 0
PartMembers = List FarkasMultipliers × ((IntegerMatrix × ℕ) × (List AffineForm × (List (AffineForm × AffineForm) × (List FarkasMultipliers × (ℕ × (List Polynomial × Unit {0}))))))

abbrev pub part_fields : Fields PartMembers
part_fields =
    field (codes "inside") all_multipliers_shape
    (field (codes "inverse") inverse_shape
    (field (codes "map") (one_to_most_shape NEST_VARIABLES form_shape)
    (field (codes "nest") nest_shape
    (field (codes "shown") all_multipliers_shape
    (field (codes "statement") (natural_shape 0 65535)
    (field (codes "sums") (list_shape polynomial_shape)
    no_fields))))))

abbrev pub part_made : PartMembers → WrittenPart
part_made b = record { statement = b.1.1.1.1.1.0; nest = b.1.1.1.0; shown = b.1.1.1.1.0; sums = b.1.1.1.1.1.1.0; inside = b.0; image = b.1.1.0; matrix = b.1.0.0; scale = b.1.0.1 }

abbrev pub part_members : WrittenPart → PartMembers
part_members part = (part.inside, ((part.matrix, part.scale), (part.image, (part.nest, (part.shown, (part.statement, (part.sums, tt)))))))

-- A part: the map has 1 to 6 forms.
unfoldable pub part_shape : Shape WrittenPart
part_shape = record_shape part_fields part_made part_members (λ b. refl)

-- the part that is written, with these polynomials
abbrev pub part_with : WrittenPart → List Quotient → PartTerm
part_with written sums = record {
  statement = written.statement;
  nest = written.nest;
  count = record { shown = written.shown; sums = sums };
  inside = written.inside;
  image = written.image;
  inverse = written.matrix;
  scale = written.scale;
}

-- a part is the one that is written: it claims the same, by polynomials with the values of those that are written
pub record IsPart (written : WrittenPart) (part : PartTerm) : Type 0 where
  pub claims : part ≡ part_with written part.count.sums
  pub sums : ArePolynomials written.sums part.count.sums

-- a part as it is written, its polynomials by their terms in the order in which they are printed
abbrev pub written_part : Part → WrittenPart
written_part part = record {
  statement = part.statement;
  nest = part.nest;
  shown = part.sums.shown;
  sums = map written_polynomial part.sums.sums;
  inside = part.inside.items;
  image = part.image.items;
  matrix = part.inverse.matrix;
  scale = part.inverse.scale;
}
