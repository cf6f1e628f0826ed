-- The texts of nests: at most six variables, each by its lower and its upper form.
use Rattle.std.specs.Prelude.{List, [], ◌∷◌, false, Ok, IfOk}
use Rattle.iolb_model.specs.Form.{AffineForm}
use Rattle.iolb_model.specs.declared.limits.TheConstants.{NUMBER_SIZE}
use Rattle.affine_form.specs.Form.{IsSmallForm}
use Rattle.claims.specs.declared.place.Step.TheVariants.{Index}
use Rattle.serde_json.specs.Data.{Data}
use Rattle.json_parts.specs.Given.{given_then, given_behind, given_under}
use Rattle.json_parts.specs.Json.{reads_list}
use Rattle.json_parts.specs.Outcome.{Outcome, ◌>>=◌, fault, under}
use Rattle.json_parts.specs.Shape.{Shape, few_shape}
use Rattle.json_parts.specs.Truths.{never}
use Rattle.json_parts.specs.Written.{list}
use Rattle.certificate_parts.specs.Forms.{reads_form, form_data, form_small}

abbrev pub pair_in : List Data → Outcome (AffineForm × AffineForm)
pair_in [] = fault 2
pair_in (d ∷ []) = fault 2
pair_in (d ∷ e ∷ []) = do
  lower ← under (Index 0) (reads_form d)
  upper ← under (Index 1) (reads_form e)
  Ok (lower, upper)
pair_in (d ∷ e ∷ more ∷ others) = fault 2

unfoldable pub reads_pair : Data → Outcome (AffineForm × AffineForm)
reads_pair d = reads_list d >>= pair_in

abbrev pub pair_data : AffineForm × AffineForm → Data
pair_data bounds = list (form_data bounds.0 ∷ form_data bounds.1 ∷ [])

abbrev pub IsSmallPair : AffineForm × AffineForm → Type 0
IsSmallPair pair = IsSmallForm NUMBER_SIZE pair.0 × IsSmallForm NUMBER_SIZE pair.1

pair_in-small : (ds : List Data) → IfOk (pair_in ds) IsSmallPair
pair_in-small [] = tt
pair_in-small (d ∷ []) = tt
pair_in-small (d ∷ e ∷ []) =
    given_then (under (Index 0) (reads_form d)) _ (IsSmallForm NUMBER_SIZE) IsSmallPair (given_under (Index 0) (reads_form d) (IsSmallForm NUMBER_SIZE) (form_small d))
    (λ lower small_lower. given_then (under (Index 1) (reads_form e)) _ (IsSmallForm NUMBER_SIZE) IsSmallPair (given_under (Index 1) (reads_form e) (IsSmallForm NUMBER_SIZE) (form_small e))
    (λ upper small_upper. (small_lower, small_upper)))
pair_in-small (d ∷ e ∷ more ∷ others) = tt

pub pair_small : (d : Data) → IfOk (reads_pair d) IsSmallPair
unfolding reads_pair
pair_small d = given_behind (reads_list d) pair_in IsSmallPair pair_in-small

abbrev pub pair_shape : Shape (AffineForm × AffineForm)
pair_shape = record { reads = reads_pair; data_of = pair_data; IsWithin = IsSmallPair; kept = pair_small; is_present = false; present = never }

abbrev pub nest_shape : Shape (List (AffineForm × AffineForm))
nest_shape = few_shape 6 pair_shape

abbrev pub IsSmallNest : List (AffineForm × AffineForm) → Type 0
IsSmallNest = nest_shape.IsWithin
