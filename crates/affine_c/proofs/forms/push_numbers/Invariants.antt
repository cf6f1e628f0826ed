use Rattle.std.proofs.Common.{◌≡◌, ◌++◌, take}
use Rattle.affine_c.proofs.forms.push_numbers.Given as goal

abbrev pub invariant-loop-number : goal.invariant-loop-number
invariant-loop-number l = l.coef.items ≡ l.initial.coef.items ++ take l.number-index l.numbers
