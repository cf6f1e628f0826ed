use Rattle.std.proofs.Common.{◌≡◌, max, drop}
use Rattle.poly_tree.specs.Printed.{width}
use Rattle.poly_tree.proofs.written.width.Given as goal

abbrev pub invariant-loop-term : goal.invariant-loop-term
invariant-loop-term l = max l.width (width (drop l.term-index l.terms)) ≡ width l.terms
