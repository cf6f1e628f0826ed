-- The texts of partition terms.
use Rattle.std.specs.Prelude.{ℕ, ◌+◌, List, bytes_eq, if◌then◌else◌, codes, Bool, false, nat_le, Option, None, Some, Ok, Err, IfOk, refl}
use Rattle.iolb_model.specs.Form.{AffineForm}
use Rattle.iolb_model.specs.Polynomial.{Polynomial}
use Rattle.affine_form.specs.Matrix.{IntegerMatrix}
use Rattle.affine_form.specs.Multipliers.{FarkasMultipliers}
use Rattle.k_partition.specs.declared.term.Shape.{Shape as TermShape}
use Rattle.k_partition.specs.declared.term.Shape.TheVariants.{Each, Sum}
use Rattle.reuse_paths.specs.Families.{FamilyForms}
use Rattle.serde_json.specs.Data.{Data, string}
use Rattle.serde_json.specs.Find.{as_str}
use Rattle.json_parts.specs.Fields.{Fields, no_fields, field, record_shape}
use Rattle.json_parts.specs.Outcome.{Outcome, fault}
use Rattle.json_parts.specs.Shape.{Shape, natural_shape, list_shape, tested_at_shape}
use Rattle.json_parts.specs.Truths.{never}
use Rattle.certificate_parts.specs.Credits.{WrittenCredit, credits_shape}
use Rattle.certificate_parts.specs.Families.{families_shape}
use Rattle.certificate_parts.specs.Multipliers.{all_multipliers_shape}
use Rattle.certificate_parts.specs.Nests.{nest_shape}
use Rattle.certificate_parts.specs.Polynomials.{polynomial_shape}
use Rattle.iolb_cert.specs.Read.{WrittenPartition}
use Rattle.certificate_parts.specs.Matrices.{matrix_shape}
use Rattle.iolb_model.specs.declared.limits.TheConstants.{STRETCH, STRETCH_MORE, WEIGHT}

-- ---- shapes, by their names

pub any : {A : Type 0} (read : Outcome A) → IfOk read (λ _. Unit {0})
any (Ok a) = tt
any (Err f) = tt

abbrev pub shape_of : Option (List ℕ) → Outcome TermShape
shape_of None = fault 2
shape_of (Some name) = if bytes_eq name (codes "each") then Ok Each else (if bytes_eq name (codes "sum") then Ok Sum else fault 2)

unfoldable pub reads_shape : Data → Outcome TermShape
reads_shape d = shape_of (as_str d)

abbrev pub shape_name : TermShape → List ℕ
shape_name Each = codes "each"
shape_name Sum = codes "sum"

abbrev pub name_shape : Shape TermShape
name_shape = record { reads = reads_shape; data_of = λ shape. string (shape_name shape); IsWithin = λ _. Unit {0}; kept = λ d. any (reads_shape d); is_present = false; present = never }

-- ---- partition terms

abbrev pub PartitionMembers : Type 0
PartitionMembers = ℕ × (List FarkasMultipliers × (ℕ × (List WrittenCredit × (List FamilyForms × (List FarkasMultipliers × (IntegerMatrix × (IntegerMatrix × (List (AffineForm × AffineForm) × (ℕ × (TermShape × (List FarkasMultipliers × (ℕ × (List Polynomial × Unit {0})))))))))))))

abbrev pub partition_fields : Fields PartitionMembers
partition_fields =
    field (codes "a") (natural_shape 0 STRETCH)
    (field (codes "apart") all_multipliers_shape
    (field (codes "b") (natural_shape 0 STRETCH_MORE)
    (field (codes "credits") credits_shape
    (field (codes "families") families_shape
    (field (codes "inside") all_multipliers_shape
    (field (codes "inverse") matrix_shape
    (field (codes "matrix") matrix_shape
    (field (codes "nest") nest_shape
    (field (codes "q") (natural_shape 1 WEIGHT)
    (field (codes "shape") name_shape
    (field (codes "shown") all_multipliers_shape
    (field (codes "statement") (natural_shape 0 65535)
    (field (codes "sums") (list_shape polynomial_shape)
    no_fields)))))))))))))

abbrev pub partition_made : PartitionMembers → WrittenPartition
partition_made b = record {
  claim = record { statement = b.1.1.1.1.1.1.1.1.1.1.1.1.0; nest = b.1.1.1.1.1.1.1.1.0; shown = b.1.1.1.1.1.1.1.1.1.1.1.0; inside = b.1.1.1.1.1.0; matrix = b.1.1.1.1.1.1.1.0; inverse = b.1.1.1.1.1.1.0; q = b.1.1.1.1.1.1.1.1.1.0; shape = b.1.1.1.1.1.1.1.1.1.1.0; a = b.0; b = b.1.1.0; families = b.1.1.1.1.0; apart = b.1.0 };
  sums = b.1.1.1.1.1.1.1.1.1.1.1.1.1.0;
  credits = b.1.1.1.0;
}

abbrev pub partition_parts : WrittenPartition → PartitionMembers
partition_parts partition = (partition.claim.a, (partition.claim.apart, (partition.claim.b, (partition.credits, (partition.claim.families, (partition.claim.inside, (partition.claim.inverse, (partition.claim.matrix, (partition.claim.nest, (partition.claim.q, (partition.claim.shape, (partition.claim.shown, (partition.claim.statement, (partition.sums, tt))))))))))))))

unfoldable pub members_shape : Shape WrittenPartition
members_shape = record_shape partition_fields partition_made partition_parts (λ b. refl)

-- its stretches have events
abbrev pub has_events : WrittenPartition → Bool
has_events partition = nat_le 1 (partition.claim.a + partition.claim.b)

-- A partition term. That its stretches have events is tested behind its members; else a is at fault.
unfoldable pub partition_shape : Shape WrittenPartition
partition_shape = tested_at_shape (codes "a") members_shape has_events
