-- The texts of regions, of spots, and of what shows that walks arrive.
use Rattle.std.specs.Prelude.{◌≡◌, ℕ, List, [], ◌∷◌, true, codes, Option, is_some, None, Some, Ok, IfOk, IfSome, refl}
use Rattle.std.specs.List.{AllByRecursion}
use Rattle.iolb_model.specs.Form.{AffineForm}
use Rattle.iolb_model.specs.declared.limits.TheConstants.{REGION_ROWS}
use Rattle.affine_form.specs.Multipliers.{FarkasMultipliers}
use Rattle.certificate_fit.specs.Limits.{AreSmall, IsSmallRegion, IsSmallNode, IsSmallReach, IsSmallWay, IsSmallSpot}
use Rattle.reuse_paths.specs.Walks.{WalkTree, WalkRegion, SpotForms, ReachClaim, same, walked}
use Rattle.serde_json.specs.Data.{Data, null, object}
use Rattle.serde_json.specs.Find.{as_null}
use Rattle.json_parts.specs.Fields.{Fields, no_fields, field, reads_object, object_shape, reads_made, told, told-kept}
use Rattle.json_parts.specs.Given.{given_then, given_if}
use Rattle.json_parts.specs.Json.{reads_or_null, has_keys}
use Rattle.json_parts.specs.Outcome.{Outcome, fault}
use Rattle.json_parts.specs.Shape.{Shape, natural_shape, list_shape, few_shape, or_null_shape, made_shape, made-kept}
use Rattle.certificate_parts.specs.Forms.{form_shape, forms_shape}
use Rattle.certificate_parts.specs.Multipliers.{all_multipliers_shape}
use Rattle.certificate_parts.specs.Walks.{walk_shape}

-- ---- regions: at most 16 rows, and a walk

abbrev pub region_fields : Fields (List AffineForm × (WalkTree × Unit {0}))
region_fields = field (codes "rows") (few_shape REGION_ROWS form_shape) (field (codes "tree") walk_shape no_fields)

abbrev pub region_made : List AffineForm × (WalkTree × Unit {0}) → WalkRegion
region_made b = record { rows = b.0; tree = b.1.0 }

unfoldable pub region_shape : Shape WalkRegion
region_shape = made_shape (object_shape region_fields) region_made (λ region. (region.rows, (region.tree, tt))) IsSmallRegion (λ b small. record { few = small.0.1; rows = small.0.0; tree = small.1.0 })

-- ---- spots: an instance for each point of a nest

abbrev pub spot_fields : Fields (List AffineForm × (ℕ × Unit {0}))
spot_fields = field (codes "point") forms_shape (field (codes "statement") (natural_shape 0 65535) no_fields)

abbrev pub spot_made : List AffineForm × (ℕ × Unit {0}) → SpotForms
spot_made b = record { statement = b.1.0; point = b.0 }

-- a spot whose forms are small
abbrev pub HasSmallPoint : SpotForms → Type 0
HasSmallPoint spot = AreSmall spot.point

unfoldable pub spot_shape : Shape SpotForms
spot_shape = made_shape (object_shape spot_fields) spot_made (λ spot. (spot.point, (spot.statement, tt))) HasSmallPoint (λ b small. small.0)

-- ---- what shows that a walk back from one spot arrives at another: that they are the same, or the regions of all statements

abbrev pub same_fields : Fields (List FarkasMultipliers × Unit {0})
same_fields = field (codes "same") all_multipliers_shape no_fields

abbrev pub same_made : List FarkasMultipliers × Unit {0} → ReachClaim
same_made b = same b.0

abbrev pub walked_fields : Fields (List (Option WalkRegion) × (List FarkasMultipliers × Unit {0}))
walked_fields = field (codes "nodes") (list_shape (or_null_shape region_shape)) (field (codes "start") all_multipliers_shape no_fields)

abbrev pub walked_made : List (Option WalkRegion) × (List FarkasMultipliers × Unit {0}) → ReachClaim
walked_made b = walked b.1.0 b.0

-- The one or the other, told by its keys.
unfoldable pub reads_reach : Data → Outcome ReachClaim
reads_reach = told same_fields same_made (reads_made walked_fields walked_made)

abbrev pub reach_data : ReachClaim → Data
reach_data (same equal) = object (same_fields.members (equal, tt))
reach_data (walked start nodes) = object (walked_fields.members (nodes, (start, tt)))

small-nodes : (nodes : List (Option WalkRegion)) → AllByRecursion (λ node. IfSome node region_shape.IsWithin) nodes → AllByRecursion IsSmallNode nodes
unfolding region_shape
small-nodes [] all = tt
small-nodes (None ∷ nodes) all = (tt, small-nodes nodes all.1)
small-nodes (Some region ∷ nodes) all = (all.0, small-nodes nodes all.1)

pub reach-kept : (d : Data) → IfOk (reads_reach d) IsSmallReach
unfolding reads_reach
reach-kept =
    told-kept same_fields same_made _ IsSmallReach (λ b small. small.0)
    (made-kept (object_shape walked_fields) walked_made IsSmallReach (λ b small. (small.1.0, small-nodes b.0 small.0)))

pub reach-null : reads_reach null ≡ fault 2
unfolding reads_reach reads_object has_keys
reach-null = refl

abbrev pub reach_shape : Shape ReachClaim
reach_shape = record { reads = reads_reach; data_of = reach_data; IsWithin = IsSmallReach; kept = reach-kept; is_present = true; present = λ _. reach-null }

-- ---- the texts and the limits, by their names
