use Rattle.std.proofs.Common.{◌≡◌, ◌^◌}
use Rattle.k_partition.proofs.bound.own_power.Given as goal

abbrev pub invariant-loop-i : goal.invariant-loop-i
invariant-loop-i l = l.power ≡ l.n ^ l._i
