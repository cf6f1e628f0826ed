use Rattle.std.proofs.Common.{◌≡◌, map, drop}
use Rattle.json_values.specs.View.{json_data}
use Rattle.json_parts.specs.Json.{each}
use Rattle.json_parts.proofs.Loop.{with_front}
use Rattle.tile_sched.specs.Reading.{reads_key, reads_keys}
use Rattle.tile_sched.proofs.reading.keys.Given as goal

abbrev pub invariant-loop-i : goal.invariant-loop-i
invariant-loop-i l = with_front l.keys.items (each (reads_key l.variables) l.i (map json_data (drop l.i l.values))) ≡ reads_keys l.count l.variables (json_data l.fn.value)
