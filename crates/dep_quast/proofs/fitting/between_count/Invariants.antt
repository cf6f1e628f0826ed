use Rattle.std.proofs.Common.{◌≡◌, ◌+◌, ◌*◌, ◌≤◌, length, map, drop, suc}
use Rattle.affine_program.specs.Parts.{meaning, statement_of}
use Rattle.iolb_model.specs.declared.limits.TheConstants.{LOOPS}
use Rattle.dep_quast.specs.Context.{reference_of}
use Rattle.dep_quast.specs.Levels.{writers, writers_from, levels_between}
use Rattle.dep_quast.specs.Views.{read_of}
use Rattle.dep_quast.proofs.fitting.between_count.Given as goal

abbrev pub invariant-loop-writer : goal.invariant-loop-writer
invariant-loop-writer l = record {
  few : l.total ≤ (suc LOOPS * suc LOOPS) * l.writer;
  count : l.total + length (levels_between (meaning l.program) l.source (writers_from l.writer (map statement_of (drop l.writer l.program.statements)) (reference_of (meaning l.program) (read_of l.reader)).array) l.reader.statement) ≡ length (levels_between (meaning l.program) l.source (writers (meaning l.program) (reference_of (meaning l.program) (read_of l.reader)).array) l.reader.statement);
}
