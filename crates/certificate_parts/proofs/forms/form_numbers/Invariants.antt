use Rattle.std.proofs.Common.{◌≡◌, ◌++◌, drop}
use Rattle.certificate_parts.proofs.forms.form_numbers.Given as goal

abbrev pub invariant-loop-coefficient : goal.invariant-loop-coefficient
invariant-loop-coefficient l = l.list.items ++ drop l.coefficient-index l.coefficient-items ≡ l.coefficient-items
