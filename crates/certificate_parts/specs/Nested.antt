-- Trees whose inner nodes test forms.
use Rattle.std.specs.Prelude.{ℕ, zero, suc, List, [], ◌∷◌, if◌then◌else◌, codes, Ok, IfOk}
use Rattle.iolb_model.specs.Form.{AffineForm}
use Rattle.iolb_model.specs.declared.limits.TheConstants.{NUMBER_SIZE}
use Rattle.affine_form.specs.Form.{IsSmallForm}
use Rattle.serde_json.specs.Data.{Data, object, no_members, member}
use Rattle.json_parts.specs.Given.{given_then, given_if, given_part}
use Rattle.json_parts.specs.Json.{has_keys, part}
use Rattle.json_parts.specs.Outcome.{Outcome, ◌>>=◌, fault}
use Rattle.certificate_parts.specs.Forms.{reads_form, form_data, form_small}

-- How trees of a kind are read: those without tests, and what a test of a form makes of two trees, that of the points where
-- the form is at least 0 and that of the others; and when they are within their limits, so many tests nested at most.
pub record Branching (A : Type 0) : Type 1 where
  pub reads_end : Data → Outcome A
  pub made : AffineForm → A → A → A
  pub IsNested : ℕ → A → Type 0
  pub end_kept : (n : ℕ) (d : Data) → IfOk (reads_end d) (IsNested n)
  pub made_kept : (n : ℕ) (form : AffineForm) (above below : A) → IsSmallForm NUMBER_SIZE form → IsNested n above → IsNested n below → IsNested (suc n) (made form above below)

abbrev pub test_keys : List (List ℕ)
test_keys = codes "form" ∷ codes "no" ∷ codes "yes" ∷ []

-- a test, whose two trees are read so
unfoldable pub reads_test : {A : Type 0} → (AffineForm → A → A → A) → (Data → Outcome A) → Data → Outcome A
reads_test made inner d = do
  form ← part (codes "form") reads_form d
  below ← part (codes "no") inner d
  above ← part (codes "yes") inner d
  Ok (made form above below)

-- A tree in which so many tests may be nested: the keys are tested first, then the nesting.
unfoldable pub reads_nested : {A : Type 0} → Branching A → ℕ → Data → Outcome A
reads_nested kind zero d = if has_keys test_keys d then fault 3 else kind.reads_end d
reads_nested kind (suc n) d = if has_keys test_keys d then reads_test kind.made (reads_nested kind n) d else kind.reads_end d

abbrev pub test_data : AffineForm → Data → Data → Data
test_data form below above = object
    (member (codes "form") (form_data form)
    (member (codes "no") below
    (member (codes "yes") above
    no_members)))

pub nested_kept : {A : Type 0} (kind : Branching A) (n : ℕ) (d : Data) → IfOk (reads_nested kind n d) (kind.IsNested n)
unfolding reads_nested reads_test
nested_kept kind zero d = given_if (has_keys test_keys d) (fault 3) (kind.reads_end d) (kind.IsNested zero) (λ is. tt) (kind.end_kept zero d)
nested_kept kind (suc n) d =
    given_if (has_keys test_keys d) (reads_test kind.made (reads_nested kind n) d) (kind.reads_end d) (kind.IsNested (suc n))
    (λ is. given_then (part (codes "form") reads_form d) _ (IsSmallForm NUMBER_SIZE) (kind.IsNested (suc n)) (given_part (codes "form") reads_form (IsSmallForm NUMBER_SIZE) d form_small)
    (λ form small_form. given_then (part (codes "no") (reads_nested kind n) d) _ (kind.IsNested n) (kind.IsNested (suc n)) (given_part (codes "no") (reads_nested kind n) (kind.IsNested n) d (nested_kept kind n))
    (λ below small_below. given_then (part (codes "yes") (reads_nested kind n) d) _ (kind.IsNested n) (kind.IsNested (suc n)) (given_part (codes "yes") (reads_nested kind n) (kind.IsNested n) d (nested_kept kind n))
    (λ above small_above. kind.made_kept n form above below small_form small_above small_below))))
    (kind.end_kept (suc n) d)
