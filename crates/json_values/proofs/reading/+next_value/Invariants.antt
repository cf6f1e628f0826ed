-- What is left of the tokens gives what is left of an array or object.
use Rattle.std.proofs.Common.{◌≡◌, ℕ, ◌+◌, ◌*◌, ◌≤◌, List, ◌++◌, length}
use Rattle.json.specs.Json.{items, members, value, parse_map}
use Rattle.serde_json.specs.Data.{no_members}
use Rattle.serde_json.specs.Read.{of_items, of_members, converted}
use Rattle.json_values.specs.Puts.{put_all}
use Rattle.json_values.specs.declared.value.Json.{Json}
use Rattle.json_values.proofs.Members.{Entry}
use Rattle.json_values.proofs.Turns.{items_before}
use Rattle.json_values.proofs.reading.+next_value.Given as goal

abbrev pub decreases-next_value : goal.decreases-next_value
decreases-next_value l = 2 * l.depth

abbrev pub decreases-next_items : goal.decreases-next_items
decreases-next_items l = 2 * l.depth + 1

abbrev pub decreases-next_members : goal.decreases-next_members
decreases-next_members l = 2 * l.depth + 1

abbrev pub invariant-next_items-items : goal.invariant-next_items-items
invariant-next_items-items l = record {
  turns : ℕ;
  found : List Json;
  enough : length l.reader ≤ turns;
  left : converted of_items (items (value l.depth) (length l.initial.reader) l.initial.reader) ≡ parse_map (items_before found) (converted of_items (items (value l.depth) turns l.reader));
  shorter : length l.reader ≤ length l.initial.reader;
  first : l.first ≡ length l.initial.pending.items.items;
  items : l.pending.items.items ≡ l.initial.pending.items.items ++ found;
  members : l.pending.members.items ≡ l.initial.pending.members.items;
}

abbrev pub decreases-next_items-items : goal.decreases-next_items-items
decreases-next_items-items l = length l.reader

abbrev pub invariant-next_members-members : goal.invariant-next_members-members
invariant-next_members-members l = record {
  turns : ℕ;
  found : List Entry;
  enough : length l.reader ≤ turns;
  left : converted (λ ms. of_members ms no_members) (members (value l.depth) (length l.initial.reader) l.initial.reader) ≡ converted (λ ms. of_members ms (put_all found no_members)) (members (value l.depth) turns l.reader);
  shorter : length l.reader ≤ length l.initial.reader;
  first : l.first ≡ length l.initial.pending.members.items;
  items : l.pending.items.items ≡ l.initial.pending.items.items;
  members : l.pending.members.items ≡ l.initial.pending.members.items ++ found;
}

abbrev pub decreases-next_members-members : goal.decreases-next_members-members
decreases-next_members-members l = length l.reader
