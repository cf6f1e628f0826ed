use Rattle.std.proofs.Common.{[], ◌∷◌, ◌++◌, drop}
use Rattle.std.specs.Prelude.{Result}
use Rattle.claims.specs.Claims.{numbered}
use Rattle.claims.specs.Claims.{Decides}
use Rattle.claims.specs.declared.refused.Refused.{Refused}
use Rattle.certificate_fit.specs.PartFit.{form_at, forms_fit}
use Rattle.certificate_fit.proofs.lists.all_forms_fit_in.Given as goal

abbrev pub invariant-loop-index : goal.invariant-loop-index
invariant-loop-index l = (answer : Result (Unit {0}) Refused) → Decides (numbered (form_at l.variables (l.place ++ l.step ∷ [])) l.index (drop l.index l.forms)) answer → Decides (forms_fit l.variables (l.place ++ l.step ∷ []) l.forms) answer
