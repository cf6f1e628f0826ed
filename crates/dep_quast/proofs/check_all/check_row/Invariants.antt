use Rattle.std.proofs.Common.{drop, map}
use Rattle.claims.specs.declared.refused.Refused.{Refused}
use Rattle.affine_program.specs.Parts.{meaning}
use Rattle.claims.specs.Claims.{AllHold, IsRefusal}
use Rattle.dep_quast.specs.Tree.{tree_of}
use Rattle.dep_quast.specs.Trees.{RowFits, RowIsTrue, row_claims}
use Rattle.dep_quast.proofs.check_all.check_row.Given as goal

abbrev pub invariant-loop-read : goal.invariant-loop-read
invariant-loop-read l = record {
  fits : RowFits (meaning l.program) l.statement l.read (map tree_of (drop l.read l.row));
  hold : AllHold (row_claims (meaning l.program) l.statement l.read (map tree_of (drop l.read l.row))) → AllHold (row_claims (meaning l.program) l.statement 0 (map tree_of l.row));
  are_true : RowIsTrue (meaning l.program) l.statement l.read (map tree_of (drop l.read l.row)) → RowIsTrue (meaning l.program) l.statement 0 (map tree_of l.row);
  refused : (r : Refused) → IsRefusal (row_claims (meaning l.program) l.statement l.read (map tree_of (drop l.read l.row))) r → IsRefusal (row_claims (meaning l.program) l.statement 0 (map tree_of l.row)) r;
}
