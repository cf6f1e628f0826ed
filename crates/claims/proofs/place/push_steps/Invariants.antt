use Rattle.std.proofs.Common.{◌≡◌, ◌++◌, drop}
use Rattle.claims.proofs.place.push_steps.Given as goal

abbrev pub invariant-loop-step : goal.invariant-loop-step
invariant-loop-step l = l.steps.items ++ drop l.step-index l.more ≡ l.initial.steps.items ++ l.more
