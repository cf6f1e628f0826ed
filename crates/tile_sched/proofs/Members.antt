-- The members of JSON arrays.
use Rattle.std.proofs.Common.{◌≡◌, ◌<◌, List, [], ◌∷◌, length, map, get_or, Some, sym, ap, ◌∙◌, arith}
use Rattle.std.specs.Prelude.{Option, option_map}
use Rattle.std.proofs.lemmas.List.{length-map}
use Rattle.serde_json.specs.Data.{Items}
use Rattle.serde_json.specs.Find.{as_array}
use Rattle.serde_json.specs.View.{items_of}
use Rattle.json_values.specs.View.{json_data}
use Rattle.json_values.specs.declared.value.Json.{Json}
use Rattle.json_parts.specs.Json.{list_of}
use Rattle.certificate_parts.specs.Matrices.{member_count, columns_of}
use Rattle.json_parts.proofs.Items.{list_of-items_of}

pub columns_first : (values : List Json) (value : Json) (members : List Json) → 0 < length values → value ≡ get_or values 0 value → Some (items_of (map json_data members)) ≡ as_array (json_data value)
    → length members ≡ columns_of (map json_data values)
columns_first [] value members some is array = absurd (omega arith)
columns_first (x ∷ values) value members some is array =
    let here : Some (items_of (map json_data members)) ≡ as_array (json_data x) = array ∙ ap (λ (v : Json). as_array (json_data v)) is in
    let all : length (list_of (items_of (map json_data members))) ≡ columns_of (map json_data (x ∷ values)) =
    ap (λ (o : Option Items). member_count (option_map list_of o)) here in
    sym (length-map members json_data) ∙ ap length (sym (list_of-items_of (map json_data members))) ∙ all
