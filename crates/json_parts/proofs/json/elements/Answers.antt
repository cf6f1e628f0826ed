use Rattle.std.proofs.Common.{◌≡◌, Bor, List, map, Option, Some, None, option_map, refl, sym, ap, ◌∙◌}
use Rattle.json_values.specs.View.{items_data, json_data}
use Rattle.json_values.specs.declared.value.Json.{Json}
use Rattle.json_parts.specs.Json.{list_of}
use Rattle.json_parts.proofs.Items.{list_of-items_of}
use Rattle.json_parts.proofs.json.elements.Goals as goal

pub returns : goal.returns
returns c = seen c.as_array.result ∙ ap (option_map list_of) c.as_array.ensures where
  seen : (found : Option (Bor (List Json))) → option_map (λ list. map json_data list.now) found ≡ option_map list_of (option_map (λ list. items_data list.now) found)
  seen None = refl
  seen (Some list) = ap Some (sym (list_of-items_of (map json_data list.now)))
