use Rattle.std.proofs.Common.{◌≡◌, ◌++◌, take}
use Rattle.std.specs.Prelude.{flat_map}
use Rattle.affine_program.specs.Parts.{meaning}
use Rattle.dep_quast.specs.Views.{read_of}
use Rattle.flow_deps.specs.Candidates.{turn_of}
use Rattle.flow_deps.proofs.candidates.with_turns_of.Given as goal

abbrev pub invariant-loop-writer : goal.invariant-loop-writer
invariant-loop-writer l = l.all.items ≡ l.fn.found.items ++ flat_map (turn_of (meaning l.program) (read_of l.reader) l.level) (take l.writer-index l.writers)
