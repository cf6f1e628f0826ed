use Rattle.std.proofs.Common.{[], ◌∷◌, ◌++◌, drop}
use Rattle.std.specs.Prelude.{Result}
use Rattle.claims.specs.declared.place.Step.TheVariants.{Key}
use Rattle.claims.specs.Claims.{numbered}
use Rattle.claims.specs.Claims.{Decides}
use Rattle.claims.specs.declared.refused.Refused.{Refused}
use Rattle.certificate_fit.specs.PartFit.{sum_at, sums_fit}
use Rattle.certificate_fit.proofs.lists.all_sums_fit.Given as goal

abbrev pub invariant-loop-index : goal.invariant-loop-index
invariant-loop-index l = (answer : Result (Unit {0}) Refused) → Decides (numbered (sum_at l.variables (l.place ++ Key l.key ∷ [])) l.index (drop l.index l.sums)) answer → Decides (sums_fit l.variables (l.place ++ Key l.key ∷ []) l.sums) answer
