use Rattle.std.proofs.Common.{◌≡◌, length}
use Rattle.std.specs.List.{AllByRecursion}
use Rattle.affine_form.specs.Rows.{IsSmallOver}
use Rattle.flow_deps.proofs.solved.padded.Given as goal

abbrev pub invariant-loop-later : goal.invariant-loop-later
invariant-loop-later l = (length l.values.items ≡ l._later) × AllByRecursion (IsSmallOver l.vars) l.values.items
