-- The texts of stores.
use Rattle.std.specs.Prelude.{ℕ, List, Option, codes, refl}
use Rattle.affine_form.specs.Multipliers.{FarkasMultipliers}
use Rattle.json_parts.specs.Fields.{Fields, no_fields, field, record_shape}
use Rattle.json_parts.specs.Outcome.{Outcome}
use Rattle.json_parts.specs.Shape.{Shape, natural_shape, few_shape, exact_shape, or_null_shape}
use Rattle.serde_json.specs.Data.{Data}
use Rattle.certificate_parts.specs.Multipliers.{all_multipliers_shape}
use Rattle.store_terms.specs.declared.limits.TheConstants.{OUTPUTS}
use Rattle.store_text.specs.Outputs.{WrittenOutput, output_shape}

-- what stores claim, the polynomials of their outputs as they are written
pub record WrittenStores : Type 0 where
  pub outputs : List WrittenOutput
  pub branch : Option ℕ
  pub apart : List FarkasMultipliers

abbrev pub StoresMembers : Type 0
StoresMembers = List FarkasMultipliers × (Option ℕ × (List WrittenOutput × (Unit {0} × Unit {0})))

abbrev pub stores_fields : Fields StoresMembers
stores_fields =
    field (codes "apart") all_multipliers_shape
    (field (codes "branch") (or_null_shape (natural_shape 0 255))
    (field (codes "outputs") (few_shape OUTPUTS output_shape)
    (field (codes "version") (exact_shape 1)
    no_fields)))

abbrev pub stores_made : StoresMembers → WrittenStores
stores_made b = record { outputs = b.1.1.0; branch = b.1.0; apart = b.0 }

abbrev pub stores_parts : WrittenStores → StoresMembers
stores_parts stores = (stores.apart, (stores.branch, (stores.outputs, (tt, tt))))

-- Stores: at most 16 outputs, the number of a branch or null, multipliers, and the version.
unfoldable pub stores_shape : Shape WrittenStores
stores_shape = record_shape stores_fields stores_made stores_parts (λ b. refl)

abbrev pub reads_stores : Data → Outcome WrittenStores
reads_stores = stores_shape.reads
