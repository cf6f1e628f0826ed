use Rattle.std.proofs.Common.{[], ◌∷◌, ◌++◌, drop}
use Rattle.std.specs.Prelude.{Result}
use Rattle.claims.specs.declared.place.Step.TheVariants.{Key}
use Rattle.claims.specs.Claims.{numbered}
use Rattle.claims.specs.Claims.{Decides}
use Rattle.claims.specs.declared.refused.Refused.{Refused}
use Rattle.certificate_fit.specs.PartFit.{bounds_at, bounds_fit}
use Rattle.certificate_fit.proofs.lists.all_bounds_fit.Given as goal

abbrev pub invariant-loop-index : goal.invariant-loop-index
invariant-loop-index l = (answer : Result (Unit {0}) Refused) → Decides (numbered (bounds_at l.variables (l.place ++ Key l.key ∷ [])) l.index (drop l.index l.bounds)) answer → Decides (bounds_fit l.variables (l.place ++ Key l.key ∷ []) l.bounds) answer
