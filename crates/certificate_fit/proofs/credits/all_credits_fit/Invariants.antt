use Rattle.std.proofs.Common.{drop}
use Rattle.std.specs.Prelude.{Result}
use Rattle.affine_program.specs.Parts.{meaning}
use Rattle.claims.specs.Claims.{numbered}
use Rattle.certificate_fit.specs.FamilyViews.{credit_at, credits_fit}
use Rattle.claims.specs.Claims.{Decides}
use Rattle.claims.specs.declared.refused.Refused.{Refused}
use Rattle.certificate_fit.proofs.credits.all_credits_fit.Given as goal

abbrev pub invariant-loop-index : goal.invariant-loop-index
invariant-loop-index l = (answer : Result (Unit {0}) Refused) → Decides (numbered (credit_at (meaning l.program) l.list) l.index (drop l.index l.credits)) answer
    → Decides (credits_fit (meaning l.program) l.list l.credits) answer
