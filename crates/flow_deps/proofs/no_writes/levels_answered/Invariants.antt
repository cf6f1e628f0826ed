use Rattle.std.proofs.Common.{map}
use Rattle.std.specs.List.{range_with_len}
use Rattle.affine_program.specs.Parts.{meaning}
use Rattle.dep_quast.specs.Context.{before_reader}
use Rattle.dep_quast.specs.Views.{read_of}
use Rattle.flow_deps.specs.Answers.{Answers, pointless}
use Rattle.flow_deps.proofs.no_writes.levels_answered.Given as goal

abbrev pub invariant-loop-level : goal.invariant-loop-level
invariant-loop-level l = Answers l.wanted (map pointless (map (before_reader (meaning l.program) (read_of l.reader) l.writer l.rows) (range_with_len 0 l.level))) l.all.items
