use Rattle.std.proofs.Common.{drop, map}
use Rattle.std.specs.Prelude.{Result, option_map}
use Rattle.claims.specs.Claims.{numbered, Decides}
use Rattle.claims.specs.declared.refused.Refused.{Refused}
use Rattle.affine_program.specs.Parts.{meaning}
use Rattle.reuse_paths.specs.Families.{credit_of, family_of, boxed_node}
use Rattle.dep_quast.specs.Quasts.{trees_of}
use Rattle.certificate_fit.specs.FamilyFit.{node_fit}
use Rattle.certificate_fit.proofs.families.all_nodes_fit_in.Given as goal

abbrev pub invariant-loop-statement : goal.invariant-loop-statement
invariant-loop-statement l = (answer : Result (Unit {0}) Refused) → Decides (numbered (node_fit (meaning l.program) (trees_of l.quasts) (map credit_of l.credits) (family_of l.family) l.list) l.statement (map (option_map boxed_node) (drop l.statement l.nodes))) answer
    → Decides (numbered (node_fit (meaning l.program) (trees_of l.quasts) (map credit_of l.credits) (family_of l.family) l.list) 0 (map (option_map boxed_node) l.nodes)) answer
