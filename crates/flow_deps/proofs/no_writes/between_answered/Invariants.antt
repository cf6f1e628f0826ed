use Rattle.std.proofs.Common.{map, take}
use Rattle.std.specs.Prelude.{flat_map}
use Rattle.affine_program.specs.Parts.{meaning}
use Rattle.dep_quast.specs.Context.{write_between}
use Rattle.dep_quast.specs.Levels.{levels}
use Rattle.dep_quast.specs.Views.{read_of, claim_of}
use Rattle.flow_deps.specs.Answers.{Answers, pointless}
use Rattle.flow_deps.proofs.no_writes.between_answered.Given as goal

abbrev pub invariant-loop-writer : goal.invariant-loop-writer
invariant-loop-writer l = Answers l.wanted (map pointless (flat_map (λ writer. flat_map (λ after. map (write_between (meaning l.program) (read_of l.reader) l.rows (claim_of l.claimed) writer after)
    (levels (meaning l.program) writer l.reader.statement)) (levels (meaning l.program) l.claimed.statement writer)) (take l.writer-index l.writer-items))) l.all.items
