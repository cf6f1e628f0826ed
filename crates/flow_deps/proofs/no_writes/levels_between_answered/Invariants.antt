use Rattle.std.proofs.Common.{map}
use Rattle.std.specs.Prelude.{flat_map}
use Rattle.std.specs.List.{range_with_len}
use Rattle.affine_program.specs.Parts.{meaning}
use Rattle.dep_quast.specs.Context.{before_reader, after_source}
use Rattle.dep_quast.specs.Levels.{levels}
use Rattle.dep_quast.specs.Views.{read_of, claim_of}
use Rattle.flow_deps.specs.Answers.{Answers, pointless}
use Rattle.flow_deps.proofs.no_writes.levels_between_answered.Given as goal

abbrev pub invariant-loop-after : goal.invariant-loop-after
invariant-loop-after l = Answers l.wanted (map pointless (flat_map (λ after. map (before_reader (meaning l.program) (read_of l.reader) l.writer
    (after_source (meaning l.program) (read_of l.reader) l.writer l.rows (claim_of l.claimed) after)) (levels (meaning l.program) l.writer l.reader.statement)) (range_with_len 0 l.after))) l.all.items
