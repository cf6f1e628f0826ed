-- The texts of claims at the leaves of source trees.
use Rattle.std.specs.Prelude.{ℕ, List, false, codes, IfOk}
use Rattle.affine_form.specs.Multipliers.{FarkasMultipliers}
use Rattle.certificate_fit.specs.Limits.{IsSmallEntry}
use Rattle.reuse_paths.specs.LeafClaims.{LeafClaim, no_point, stops, is_credited, goes_on, arrives}
use Rattle.serde_json.specs.Data.{Data, object}
use Rattle.json_parts.specs.Fields.{Fields, no_fields, field, object_shape, reads_made, told, told-kept}
use Rattle.json_parts.specs.Outcome.{Outcome}
use Rattle.json_parts.specs.Shape.{Shape, natural_shape, list_shape, made-kept}
use Rattle.json_parts.specs.Truths.{never}
use Rattle.certificate_parts.specs.Multipliers.{multipliers_shape, all_multipliers_shape}

abbrev pub Shown : Type 0
Shown = List FarkasMultipliers

-- one member, multipliers or a list of them
abbrev pub empty_fields : Fields (FarkasMultipliers × Unit {0})
empty_fields = field (codes "empty") multipliers_shape no_fields

abbrev pub stop_fields : Fields (Shown × Unit {0})
stop_fields = field (codes "stop") all_multipliers_shape no_fields

abbrev pub arrive_fields : Fields (Shown × Unit {0})
arrive_fields = field (codes "arrive") all_multipliers_shape no_fields

abbrev pub go_fields : Fields (Shown × (Shown × Unit {0}))
go_fields = field (codes "label") all_multipliers_shape (field (codes "rows") all_multipliers_shape no_fields)

abbrev pub credit_fields : Fields (ℕ × (Shown × (Shown × Unit {0})))
credit_fields = field (codes "credit") (natural_shape 0 255) go_fields

abbrev pub go_made : Shown × (Shown × Unit {0}) → LeafClaim
go_made b = goes_on b.1.0 b.0

abbrev pub credit_made : ℕ × (Shown × (Shown × Unit {0})) → LeafClaim
credit_made b = is_credited b.0 b.1.1.0 b.1.0

-- A claim, told by its keys.
unfoldable pub reads_leaf : Data → Outcome LeafClaim
reads_leaf =
    told empty_fields (λ b. no_point b.0)
    (told stop_fields (λ b. stops b.0)
    (told credit_fields credit_made
    (told go_fields go_made
    (reads_made arrive_fields (λ b. arrives b.0)))))

abbrev pub leaf_data : LeafClaim → Data
leaf_data (no_point shown) = object (empty_fields.members (shown, tt))
leaf_data (stops label) = object (stop_fields.members (label, tt))
leaf_data (is_credited credit rows label) = object (credit_fields.members (credit, (label, (rows, tt))))
leaf_data (goes_on rows label) = object (go_fields.members (label, (rows, tt)))
leaf_data (arrives equal) = object (arrive_fields.members (equal, tt))

pub leaf_kept : (d : Data) → IfOk (reads_leaf d) IsSmallEntry
unfolding reads_leaf
leaf_kept =
    told-kept empty_fields (λ b. no_point b.0) _ IsSmallEntry (λ b small. small.0)
    (told-kept stop_fields (λ b. stops b.0) _ IsSmallEntry (λ b small. small.0)
    (told-kept credit_fields credit_made _ IsSmallEntry (λ b small. (small.1.1.0, small.1.0))
    (told-kept go_fields go_made _ IsSmallEntry (λ b small. (small.1.0, small.0))
    (made-kept (object_shape arrive_fields) (λ b. arrives b.0) IsSmallEntry (λ b small. small.0)))))

abbrev pub leaf_shape : Shape LeafClaim
leaf_shape = record { reads = reads_leaf; data_of = leaf_data; IsWithin = IsSmallEntry; kept = leaf_kept; is_present = false; present = never }

abbrev pub leaves_shape : Shape (List LeafClaim)
leaves_shape = list_shape leaf_shape
