use Rattle.std.proofs.Common.{◌≡◌, drop, length}
use Rattle.std.specs.List.{AllByRecursion}
use Rattle.affine_form.specs.Rows.{IsSmallOver}
use Rattle.affine_program.specs.Domain.{bounds_at}
use Rattle.affine_program.specs.Parts.{meaning}
use Rattle.dep_quast.specs.Context.{variables_at}
use Rattle.dep_quast.specs.Views.{read_of}
use Rattle.flow_deps.specs.Candidates.{values_along, point_from}
use Rattle.flow_deps.proofs.points.point_from.Given as goal

abbrev pub invariant-loop-level : goal.invariant-loop-level
invariant-loop-level l = record {
  along : values_along (meaning l.program) (read_of l.reader) l.writer (drop l.level (bounds_at (meaning l.program) l.writer)) l.values.items
      ≡ point_from (meaning l.program) (read_of l.reader) l.writer l.fn.given.items;
  count : length l.values.items ≡ l.level;
  over : AllByRecursion (IsSmallOver (variables_at (meaning l.program) (read_of l.reader))) l.values.items;
}
