use Rattle.std.proofs.Common.{◌≡◌, ◌+◌, ◌*◌, ◌≤◌, length, map, drop, suc}
use Rattle.std.specs.Prelude.{flat_map}
use Rattle.affine_program.specs.Parts.{meaning, statement_of}
use Rattle.dep_quast.specs.Levels.{levels, writers, writers_from}
use Rattle.iolb_model.specs.Program.{statement_at}
use Rattle.iolb_model.specs.declared.limits.TheConstants.{LOOPS}
use Rattle.last_writers.proofs.fitting.later_levels.Given as goal

abbrev pub invariant-loop-writer : goal.invariant-loop-writer
invariant-loop-writer l = record {
  few : l.total ≤ suc LOOPS * l.writer;
  count : l.total + length (flat_map (λ writer. levels (meaning l.program) l.output.statement writer) (writers_from l.writer (map statement_of (drop l.writer l.program.statements)) (statement_at (meaning l.program) l.output.statement).writes.array))
      ≡ length (flat_map (λ writer. levels (meaning l.program) l.output.statement writer) (writers (meaning l.program) (statement_at (meaning l.program) l.output.statement).writes.array));
}
