use Rattle.std.proofs.Common.{drop, map}
use Rattle.std.specs.Prelude.{Result, option_map}
use Rattle.claims.specs.Claims.{numbered}
use Rattle.claims.specs.Claims.{Decides}
use Rattle.claims.specs.declared.refused.Refused.{Refused}
use Rattle.affine_program.specs.Parts.{meaning}
use Rattle.reuse_paths.specs.Families.{boxed_forms}
use Rattle.certificate_fit.specs.FamilyFit.{input_fit}
use Rattle.certificate_fit.proofs.labels.all_labels_fit.Given as goal

abbrev pub invariant-loop-array : goal.invariant-loop-array
invariant-loop-array l = (answer : Result (Unit {0}) Refused) → Decides (numbered (input_fit (meaning l.program) l.size l.list) l.array (map (option_map boxed_forms) (drop l.array l.labels))) answer
    → Decides (numbered (input_fit (meaning l.program) l.size l.list) 0 (map (option_map boxed_forms) l.labels)) answer
