-- Members that go in one after another.
use Rattle.std.specs.Prelude.{List, [], ◌∷◌, String, string_bytes}
use Rattle.std.specs.Global.{Global}
use Rattle.serde_json.specs.Data.{Members, put}
use Rattle.json_values.specs.View.{json_data}
use Rattle.json_values.specs.declared.value.Json.{Json}

-- the members, with these put in one after another: of equal keys the last value stays
abbrev pub put_all : List (String Global × Json) → Members → Members
put_all [] members = members
put_all (m ∷ more) members = put_all more (put (string_bytes m.0) (json_data m.1) members)
