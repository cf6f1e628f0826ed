use Rattle.std.proofs.Common.{◌≡◌, take, map}
use Rattle.affine_form.specs.System.{AllOver}
use Rattle.affine_form.specs.Rows.{widened}
use Rattle.domain_count.proofs.ranges.widened_rows.Given as goal

abbrev pub invariant-loop-row : goal.invariant-loop-row
invariant-loop-row l = (l.wide.items ≡ map (widened l.vars) (take l.row-index l.row-items)) × AllOver l.vars l.wide.items
