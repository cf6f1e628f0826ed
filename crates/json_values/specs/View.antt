-- The data that a value stands for, as serde_json has it.
use Rattle.std.specs.Prelude.{List, map, String, string_bytes}
use Rattle.std.specs.Global.{Global}
use Rattle.serde_json.specs.Data.{Data, null, boolean, number, string, array, object, Items, Members}
use Rattle.serde_json.specs.View.{items_of, members_of, number_view}
use Rattle.json_values.specs.declared.value.Json.{Json, fold-Json}
use Rattle.json_values.specs.declared.value.Json.TheOpen.{Json-F}

-- one level, with each value inside already seen as its data
abbrev pub data_step : Json-F Data → Data
data_step Json-F.Null = null
data_step (Json-F.Bool b) = boolean b
data_step (Json-F.Number x) = number (number_view x)
data_step (Json-F.String s) = string (string_bytes s)
data_step (Json-F.Array v) = array (items_of v.items)
data_step (Json-F.Object v) = object (members_of v.items)

abbrev pub json_data : Json → Data
json_data = fold-Json Data data_step

abbrev pub items_data : List Json → Items
items_data values = items_of (map json_data values)

abbrev pub members_data : List (String Global × Json) → Members
members_data members = members_of (map (λ m. (m.0, json_data m.1)) members)
