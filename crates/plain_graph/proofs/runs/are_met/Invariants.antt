use Rattle.std.proofs.Common.{◌≡◌, drop}
use Rattle.iolb_model.specs.Form.{are_met}
use Rattle.plain_graph.proofs.runs.are_met.Given as goal

abbrev pub invariant-loop-form : goal.invariant-loop-form
invariant-loop-form l = are_met (drop l.form-index l.forms) l.point ≡ are_met l.forms l.point
