use Rattle.std.proofs.Common.{◌≡◌, ◌++◌, map, take}
use Rattle.find_terms.specs.Openings.{same_loop}
use Rattle.find_terms.proofs.outlines.with_row.Given as goal

abbrev pub invariant-loop-named : goal.invariant-loop-named
invariant-loop-named l = l.cells.items ≡ l.fn.rows.items ++ map (same_loop l.level) (take l.named-index l.loops)
