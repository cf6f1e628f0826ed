use Rattle.std.proofs.Common.{drop}
use Rattle.std.specs.Prelude.{◌↔◌}
use Rattle.certificate_fit.specs.Limits.{AreSmall}
use Rattle.certificate_fit.proofs.part_limits.are_small.Given as goal

abbrev pub invariant-loop-form : goal.invariant-loop-form
invariant-loop-form l = AreSmall (drop l.form-index l.forms) ↔ AreSmall l.forms
