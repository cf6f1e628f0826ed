use Rattle.std.proofs.Common.{◌≡◌, drop, map}
use Rattle.std.specs.Prelude.{◌==◌}
use Rattle.std.specs.List.{list_any}
use Rattle.iolb_model.specs.Program.{Statement}
use Rattle.affine_program.specs.Parts.{meaning, statement_of}
use Rattle.find_terms.specs.Trees.{is_written}
use Rattle.find_terms.proofs.trees.is_written.Given as goal

abbrev pub invariant-loop-statement : goal.invariant-loop-statement
invariant-loop-statement l =
    list_any (λ (statement : Statement). statement.writes.array == l.array) (map statement_of (drop l.statement-index l.program.statements)) ≡ is_written (meaning l.program) l.array
