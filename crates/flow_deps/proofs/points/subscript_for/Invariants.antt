use Rattle.std.proofs.Common.{◌≡◌, drop}
use Rattle.flow_deps.specs.Candidates.{subscript_for}
use Rattle.flow_deps.proofs.points.subscript_for.Given as goal

abbrev pub invariant-loop-i : goal.invariant-loop-i
invariant-loop-i l = subscript_for l.place (drop l.i l.written) (drop l.i l.read) ≡ subscript_for l.place l.written l.read
