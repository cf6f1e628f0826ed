use Rattle.std.proofs.Common.{drop, map}
use Rattle.std.specs.Prelude.{Result}
use Rattle.claims.specs.Claims.{Decides, numbered}
use Rattle.claims.specs.declared.refused.Refused.{Refused}
use Rattle.affine_program.specs.Parts.{meaning}
use Rattle.reuse_paths.specs.Families.{credit_of, family_of}
use Rattle.reuse_paths.specs.FamilyClaims.{node_walk}
use Rattle.dep_quast.specs.Quasts.{trees_of}
use Rattle.reuse_paths.proofs.family_shown.nodes_shown.Given as goal

abbrev pub invariant-loop-i : goal.invariant-loop-i
invariant-loop-i l =
    (answer : Result (Unit {0}) Refused) → Decides (numbered (node_walk (meaning l.program) (trees_of l.quasts) (map credit_of l.credits) (family_of l.family) l.list) l.i (drop l.i (family_of l.family).nodes)) answer
    → Decides (numbered (node_walk (meaning l.program) (trees_of l.quasts) (map credit_of l.credits) (family_of l.family) l.list) 0 (family_of l.family).nodes) answer
