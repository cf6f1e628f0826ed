use Rattle.std.proofs.Common.{◌≡◌, take}
use Rattle.find_terms.proofs.counted.copies.Given as goal

abbrev pub invariant-loop-sum : goal.invariant-loop-sum
invariant-loop-sum l = l.all.items ≡ take l.sum-index l.sums
