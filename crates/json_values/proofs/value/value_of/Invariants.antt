-- The key isn't among the members before.
use Rattle.std.proofs.Common.{◌≡◌, drop}
use Rattle.serde_json.specs.Find.{get_member}
use Rattle.json_values.specs.View.{members_data}
use Rattle.json_values.proofs.value.value_of.Given as goal

abbrev pub invariant-loop-member : goal.invariant-loop-member
invariant-loop-member l = get_member l.name (members_data l.members) ≡ get_member l.name (members_data (drop l.member-index l.members))
