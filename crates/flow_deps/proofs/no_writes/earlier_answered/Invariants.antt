use Rattle.std.proofs.Common.{map, take}
use Rattle.std.specs.Prelude.{flat_map}
use Rattle.affine_program.specs.Parts.{meaning}
use Rattle.dep_quast.specs.Context.{earlier_write}
use Rattle.dep_quast.specs.Levels.{levels}
use Rattle.dep_quast.specs.Views.{read_of}
use Rattle.flow_deps.specs.Answers.{Answers, pointless}
use Rattle.flow_deps.proofs.no_writes.earlier_answered.Given as goal

abbrev pub invariant-loop-writer : goal.invariant-loop-writer
invariant-loop-writer l = Answers l.wanted (map pointless (flat_map (λ writer. map (earlier_write (meaning l.program) (read_of l.reader) l.rows writer) (levels (meaning l.program) writer l.reader.statement))
    (take l.writer-index l.writer-items))) l.all.items
