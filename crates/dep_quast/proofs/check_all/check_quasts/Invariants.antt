use Rattle.std.proofs.Common.{drop, map}
use Rattle.claims.specs.declared.refused.Refused.{Refused}
use Rattle.affine_program.specs.Parts.{meaning}
use Rattle.claims.specs.Claims.{AllHold, IsRefusal}
use Rattle.dep_quast.specs.Quasts.{row_trees, trees_of}
use Rattle.dep_quast.specs.Trees.{RowsFit, RowsAreTrue, rows_claims}
use Rattle.dep_quast.proofs.check_all.check_quasts.Given as goal

abbrev pub invariant-loop-statement : goal.invariant-loop-statement
invariant-loop-statement l = record {
  fits : RowsFit (meaning l.program) l.statement (map row_trees (drop l.statement l.quasts.rows.items));
  hold : AllHold (rows_claims (meaning l.program) l.statement (map row_trees (drop l.statement l.quasts.rows.items))) → AllHold (rows_claims (meaning l.program) 0 (trees_of l.quasts));
  are_true : RowsAreTrue (meaning l.program) l.statement (map row_trees (drop l.statement l.quasts.rows.items)) → RowsAreTrue (meaning l.program) 0 (trees_of l.quasts);
  refused : (r : Refused) → IsRefusal (rows_claims (meaning l.program) l.statement (map row_trees (drop l.statement l.quasts.rows.items))) r → IsRefusal (rows_claims (meaning l.program) 0 (trees_of l.quasts)) r;
}
