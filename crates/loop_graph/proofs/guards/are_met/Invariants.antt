use Rattle.std.proofs.Common.{◌≡◌, drop}
use Rattle.iolb_model.specs.Form.{are_met}
use Rattle.loop_graph.proofs.guards.are_met.Given as goal

abbrev pub invariant-loop-row : goal.invariant-loop-row
invariant-loop-row l = are_met (drop l.row-index l.rows) l.point ≡ are_met l.rows l.point
