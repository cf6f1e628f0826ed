use Rattle.std.proofs.Common.{drop, map}
use Rattle.std.specs.Prelude.{Result}
use Rattle.affine_program.specs.Parts.{meaning}
use Rattle.claims.specs.Claims.{numbered}
use Rattle.claims.specs.Claims.{Decides}
use Rattle.claims.specs.declared.refused.Refused.{Refused}
use Rattle.certificate_fit.specs.TreeFit.{tree_at, row_fit}
use Rattle.certificate_fit.proofs.trees.row_fits.Given as goal
use Rattle.dep_quast.specs.Tree.{tree_of}

abbrev pub invariant-loop-read : goal.invariant-loop-read
invariant-loop-read l = (answer : Result (Unit {0}) Refused) → Decides (numbered (tree_at (meaning l.program) l.place l.statement) l.read (map tree_of (drop l.read l.row))) answer → Decides (row_fit (meaning l.program) l.place l.statement (map tree_of l.row)) answer
