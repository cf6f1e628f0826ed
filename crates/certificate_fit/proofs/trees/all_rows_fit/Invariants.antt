use Rattle.std.proofs.Common.{drop, map}
use Rattle.std.specs.Prelude.{Result}
use Rattle.affine_program.specs.Parts.{meaning}
use Rattle.claims.specs.Claims.{numbered, Decides}
use Rattle.claims.specs.declared.refused.Refused.{Refused}
use Rattle.certificate_fit.specs.TreeFit.{row_at}
use Rattle.certificate_fit.proofs.trees.all_rows_fit.Given as goal
use Rattle.dep_quast.specs.Quasts.{row_trees}

abbrev pub invariant-loop-statement : goal.invariant-loop-statement
invariant-loop-statement l = (answer : Result (Unit {0}) Refused) → Decides (numbered (row_at (meaning l.program) l.place) l.statement (map row_trees (drop l.statement l.rows))) answer → Decides (numbered (row_at (meaning l.program) l.place) 0 (map row_trees l.rows)) answer
