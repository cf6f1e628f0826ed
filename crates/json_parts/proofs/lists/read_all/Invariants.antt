use Rattle.std.proofs.Common.{map}
use Rattle.json_values.specs.View.{json_data}
use Rattle.json_parts.specs.Json.{each}
use Rattle.json_parts.proofs.LoopBy.{SoFar}
use Rattle.json_parts.proofs.lists.read_all.Given as goal

abbrev pub invariant-loop-i : goal.invariant-loop-i
invariant-loop-i g l = SoFar g.S.Part.link.Is g.S.Part.shape.reads l.values l.i l.all.items (each g.S.Part.shape.reads 0 (map json_data l.values))
