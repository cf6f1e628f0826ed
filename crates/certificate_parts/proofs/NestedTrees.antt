-- Trees by how many tests may be nested in them.
use Rattle.std.proofs.Common.{◌≡◌, ℕ, zero, suc, ◌-◌, true, false, Ok, refl, arith}
use Rattle.iolb_model.specs.Form.{AffineForm}
use Rattle.serde_json.specs.Data.{Data}
use Rattle.json_parts.specs.Outcome.{fault}
use Rattle.json_parts.specs.Json.{has_keys}
use Rattle.json_parts.specs.Shape.{IsReadBack}
use Rattle.certificate_parts.specs.Forms.{form_shape}
use Rattle.certificate_parts.specs.Nested.{Branching, test_keys, reads_test, reads_nested, test_data}

pub nested_leaf : {A : Type 0} (kind : Branching A) (n : ℕ) (d : Data) → has_keys test_keys d ≡ false → reads_nested kind n d ≡ kind.reads_end d
unfolding reads_nested
nested_leaf kind zero d is = rw is refl
nested_leaf kind (suc n) d is = rw is refl

pub nested_past : {A : Type 0} (kind : Branching A) (n : ℕ) (d : Data) → has_keys test_keys d ≡ true → n ≡ 0 → reads_nested kind n d ≡ fault 3
unfolding reads_nested
nested_past kind zero d is none = rw is refl
nested_past kind (suc n) d is none = absurd (omega arith)

pub nested_test : {A : Type 0} (kind : Branching A) (n : ℕ) (d : Data) → has_keys test_keys d ≡ true → (n ≡ 0 → ⊥) → reads_nested kind n d ≡ reads_test kind.made (reads_nested kind (n - 1)) d
unfolding reads_nested
nested_test kind zero d is some = absurd (some refl)
nested_test kind (suc n) d is some =
    let one : n ≡ suc n - 1 = omega arith in
    rw (is, ← one) refl

-- a test that is written is read, where its trees are
pub test_read : {A : Type 0} (kind : Branching A) (n : ℕ) (form : AffineForm) (above below : A) (d e : Data) → (n ≡ 0 → ⊥) → IsReadBack form_shape form
    → reads_nested kind (n - 1) d ≡ Ok below → reads_nested kind (n - 1) e ≡ Ok above → reads_nested kind n (test_data form d e) ≡ Ok (kind.made form above below)
unfolding reads_test has_keys
test_read kind n form above below d e some f b a = rw (nested_test kind n (test_data form d e) refl some, f, b, a) refl
