-- Matrices by their rows.
use Rattle.std.proofs.Common.{◌≡◌, ℕ, suc, ◌+◌, ◌*◌, ◌≤◌, List, [], ◌∷◌, length, map, Ok, Err, Vec, Global, refl, sym, ap, ◌∙◌, arith}
use Rattle.std.specs.Prelude.{ℤ}
use Rattle.std.specs.List.{AllByRecursion}
use Rattle.std.proofs.lemmas.List.{length-append, nil_from_length}
use Rattle.base_laws.proofs.Lists.{All-append}
use Rattle.affine_form.specs.Form.{IsSmall}
use Rattle.affine_form.specs.Matrix.{HasShape}
use Rattle.claims.specs.declared.place.Step.TheVariants.{Index}
use Rattle.serde_json.specs.Data.{Data}
use Rattle.json_parts.specs.Outcome.{Outcome, ◌>>=◌, under}
use Rattle.json_parts.specs.Json.{each}
use Rattle.certificate_parts.specs.Matrices.{all_entries, columns_of, row_items, IsRow}
use Rattle.iolb_model.specs.declared.limits.TheConstants.{NUMBER_SIZE}

-- the value of a step that didn't fail
pub bind_ok : {A B : Type 0} (r : Outcome A) (f : A → Outcome B) (b : B) → (r >>= f) ≡ Ok b → (a : A) × (r ≡ Ok a) × (f a ≡ Ok b)
bind_ok (Ok a) f b e = (a, refl, e)
bind_ok (Err g) f b e = absurd cc

same_ok : {A : Type 0} (x y : A) (f g : Outcome A) → f ≡ Ok x → g ≡ Ok y → f ≡ g → x ≡ y
same_ok x y f g d e h = cc

-- as many are read as there are
pub length-each : {A : Type 0} (reader : Data → Outcome A) (i : ℕ) (ds : List Data) (found : List A) → each reader i ds ≡ Ok found → length found ≡ length ds
unfolding each
length-each {A = A} reader i [] found e = ap length (same_ok found [] (Ok found) (Ok []) refl refl (sym e))
length-each {A = A} reader i (d ∷ ds) found e =
    let first = bind_ok (under (Index i) (reader d)) (λ a. each reader (suc i) ds >>= λ more. Ok (a ∷ more)) found e in
    let more = bind_ok (each reader (suc i) ds) (λ more. Ok (first.0 ∷ more)) found first.2 in
    let is : found ≡ first.0 ∷ more.0 = same_ok found (first.0 ∷ more.0) (Ok found) (Ok (first.0 ∷ more.0)) refl refl (sym more.2) in
    ap length is ∙ ap suc (length-each reader (suc i) ds more.0 more.1)

full : (columns : ℕ) (rows : List (Vec ℤ Global)) → AllByRecursion (IsRow columns) rows → length (all_entries (map row_items rows)) ≡ length rows * columns
full columns [] all = omega arith
full columns (row ∷ rows) all =
    length-append row.items (all_entries (map row_items rows)) ∙ ap (λ (n : ℕ). n + length (all_entries (map row_items rows))) all.0.all
    ∙ ap (λ (n : ℕ). columns + n) (full columns rows all.1) ∙ omega arith

-- the entries of the rows are small
pub entries_small : (columns : ℕ) (rows : List (Vec ℤ Global)) → AllByRecursion (IsRow columns) rows → AllByRecursion (IsSmall NUMBER_SIZE) (all_entries (map row_items rows))
entries_small columns [] all = tt
entries_small columns (row ∷ rows) all = All-append (IsSmall NUMBER_SIZE) row.items (all_entries (map row_items rows)) all.0.small (entries_small columns rows all.1)

few : (columns : ℕ) (rows : List (Vec ℤ Global)) → AllByRecursion (IsRow columns) rows → (length rows ≡ 0 → columns ≡ 0) → columns ≤ 6
few columns [] all none = omega (arith, none refl)
few columns (row ∷ rows) all none = all.0.few

-- rows of as many columns make a matrix
pub has_shape : (columns : ℕ) (rows : List (Vec ℤ Global)) (ds : List Data) (cells : List ℤ) → AllByRecursion (IsRow columns) rows → length rows ≡ length ds → length ds ≤ 6
    → columns ≡ columns_of ds → cells ≡ all_entries (map row_items rows) → HasShape (length rows) columns cells
has_shape columns rows ds cells all many most first is =
    let none : length rows ≡ 0 → columns ≡ 0 = λ z. first ∙ ap columns_of (nil_from_length ds (sym many ∙ z)) in
    record {
      few_rows = omega arith;
      few_columns = few columns rows all none;
      rows_first = none;
      full = ap length is ∙ full columns rows all;
    }
