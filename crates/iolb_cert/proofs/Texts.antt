-- The text of a value, with a newline at its end.
use Rattle.std.proofs.Common.{◌≡◌, ℕ, ◌≤◌, List, [], ◌∷◌, ◌++◌, Some, Ok, false, refl, sym, subst, ◌∙◌, ap}
use Rattle.std.specs.Prelude.{IsUtf8}
use Rattle.std.proofs.lemmas.Str.{IsUtf8-append}
use Rattle.json.specs.Lex.{tokens}
use Rattle.json.specs.Print.{print}
use Rattle.json.proofs.Printed.Utf8.{IsUtf8-are_ascii}
use Rattle.serde_json.specs.Data.{Data, depth}
use Rattle.serde_json.specs.Read.{max_depth, read}
use Rattle.serde_json.specs.Written.{has_float, compact_text, IsInOrder}
use Rattle.iolb_cert.specs.Certificates.{reads_certificate}
use Rattle.iolb_cert.specs.Texts.{IsTextOf}
use Rattle.iolb_cert.specs.Read.{WrittenCertificate}
use Rattle.iolb_cert.proofs.Newline.{read-newline}

pub text-is : (value d : Data) (text all : List ℕ) → value ≡ d → has_float d ≡ false → (has_float value ≡ false → text ≡ compact_text value) → all ≡ text ++ 10 ∷ [] → all ≡ compact_text d ++ 10 ∷ []
text-is value d text all is exact writes ends =
    ends ∙ ap (λ (l : List ℕ). l ++ 10 ∷ []) (writes (ap has_float is ∙ exact) ∙ ap compact_text is)

pub text-of : (value d : Data) (text all : List ℕ) (written : WrittenCertificate) → value ≡ d → depth d ≤ max_depth → reads_certificate d ≡ Ok written → IsUtf8 text → text ≡ print (tokens text) → IsInOrder text value
    → (depth value ≤ max_depth → read text ≡ Some value) → all ≡ text ++ 10 ∷ [] → IsTextOf all written
text-of value d text all written is nests says utf8 compact order reads ends =
    let value_nests : depth value ≤ max_depth = subst (λ (n : ℕ). n ≤ max_depth) (sym (ap depth is)) nests in
    let behind : read (text ++ 10 ∷ []) ≡ Some d = read-newline text d order.0 compact order.1 (reads value_nests ∙ ap (λ (e : Data). Some e) is) in
    let all_utf8 : IsUtf8 (text ++ 10 ∷ []) = IsUtf8-append text (10 ∷ []) utf8 (IsUtf8-are_ascii (10 ∷ []) refl) in
    record {
      value = d;
      has = record { utf8 = subst IsUtf8 (sym ends) all_utf8; reads = ap read ends ∙ behind };
      says = says;
    }
