use Rattle.std.proofs.Common.{drop, map}
use Rattle.std.specs.Prelude.{Result}
use Rattle.claims.specs.Claims.{numbered, Decides}
use Rattle.claims.specs.declared.refused.Refused.{Refused}
use Rattle.affine_program.specs.Parts.{meaning}
use Rattle.reuse_paths.specs.Families.{credit_of, family_of}
use Rattle.dep_quast.specs.Quasts.{trees_of}
use Rattle.certificate_fit.specs.FamilyFit.{family_at}
use Rattle.certificate_fit.proofs.families.all_families_fit.Given as goal

abbrev pub invariant-loop-index : goal.invariant-loop-index
invariant-loop-index l = (answer : Result (Unit {0}) Refused) → Decides (numbered (family_at (meaning l.program) (trees_of l.quasts) l.statement (map credit_of l.credits) l.list) l.index (map family_of (drop l.index l.families))) answer
    → Decides (numbered (family_at (meaning l.program) (trees_of l.quasts) l.statement (map credit_of l.credits) l.list) 0 (map family_of l.families)) answer
