use Rattle.std.proofs.Common.{drop, map}
use Rattle.std.specs.Prelude.{Result, option_map}
use Rattle.claims.specs.Claims.{numbered}
use Rattle.claims.specs.Claims.{Decides}
use Rattle.claims.specs.declared.refused.Refused.{Refused}
use Rattle.affine_program.specs.Parts.{meaning}
use Rattle.reuse_paths.specs.Families.{boxed_forms}
use Rattle.certificate_fit.specs.FamilyFit.{instance_fit}
use Rattle.certificate_fit.proofs.labels.all_instance_labels_fit.Given as goal

abbrev pub invariant-loop-statement : goal.invariant-loop-statement
invariant-loop-statement l = (answer : Result (Unit {0}) Refused) → Decides (numbered (instance_fit (meaning l.program) l.size l.list) l.statement (map (option_map boxed_forms) (drop l.statement l.labels))) answer
    → Decides (numbered (instance_fit (meaning l.program) l.size l.list) 0 (map (option_map boxed_forms) l.labels)) answer
