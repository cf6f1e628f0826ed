use Rattle.std.proofs.Common.{◌≡◌, ◌++◌, take}
use Rattle.std.specs.Prelude.{flat_map}
use Rattle.dep_quast.specs.Views.{read_of}
use Rattle.flow_deps.specs.Candidates.{same_turn}
use Rattle.flow_deps.proofs.candidates.with_same_turns.Given as goal

abbrev pub invariant-loop-writer : goal.invariant-loop-writer
invariant-loop-writer l = l.all.items ≡ l.fn.found.items ++ flat_map (same_turn (read_of l.reader)) (take l.writer-index l.writers)
