use Rattle.std.proofs.Common.{◌≡◌, take, replicate}
use Rattle.std.proofs.Math.IntN.{pos}
use Rattle.affine_form.proofs.same.are_zeros.Given as goal

abbrev pub invariant-loop-number : goal.invariant-loop-number
invariant-loop-number l = take l.number-index l.numbers ≡ replicate l.number-index (pos 0)
