use Rattle.std.proofs.Common.{◌≡◌, map, drop}
use Rattle.json_values.specs.View.{json_data}
use Rattle.affine_program.specs.Parts.{meaning}
use Rattle.json_parts.proofs.Loop.{with_front}
use Rattle.tile_sched.specs.Schedules.{rows_of}
use Rattle.tile_sched.specs.Reading.{reads_rows, reads_all}
use Rattle.tile_sched.proofs.reading.rows.Given as goal

abbrev pub invariant-loop-i : goal.invariant-loop-i
invariant-loop-i l = with_front (rows_of l.rows.items) (reads_rows (meaning l.program) l.count l.i (map json_data (drop l.i l.values))) ≡ reads_all (meaning l.program) (json_data l.fn.value)
