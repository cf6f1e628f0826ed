use Rattle.std.proofs.Common.{drop}
use Rattle.std.specs.Prelude.{◌↔◌}
use Rattle.certificate_fit.specs.Limits.{NameRows}
use Rattle.certificate_fit.proofs.part_limits.name_rows.Given as goal

abbrev pub invariant-loop-shown : goal.invariant-loop-shown
invariant-loop-shown l = NameRows (drop l.shown-index l.all) ↔ NameRows l.all
